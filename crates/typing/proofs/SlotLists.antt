-- The slots of an environment as lists: those of the rules are the kinds of the code's. So a test of the code's slots, or a count of them, is one of
-- the rules'.
use mathlib.Core.Bool.{Bool, true, false, not, cond}
use mathlib.Core.List.{List, ◌∷◌, map}
use mathlib.Core.Path.{◌≡◌, refl, sym, ◌∙◌}
use native.Mathlib.Omega.{arith}
use Prim.Native.Nat.{ℕ, ◌+◌}
use lib.ListN.{length, length-map}
use Rattle.std.specs.List.{count_by}
use Rattle.std.proofs.lemmas.List.{get_or-map, ext_get_or}
use Rattle.std.proofs.lemmas.List.Recursion.{is_count_by}
use Rattle.rules.specs.Basics.{chosen, how_many}
use Rattle.rules.specs.Syntax.{Side}
use Rattle.rules.specs.Slots.{unbound, holds_no_qubit}
use Rattle.rules.specs.Typing.{Kind, Env as Environment}
use Rattle.typing.specs.declared.slots.Slot.{Slot}
use Rattle.typing.specs.declared.slots.Slot.TheVariants.{Unbound, Qubit, Bool as ABool, Reference}
use Rattle.typing.specs.declared.env.Env.{Env}
use Rattle.typing.specs.Stands.{kind_of, holds_qubit, EnvIs}

pub slots_are : {d : Side} {n : ℕ} {e : Env} {Γ : Environment d} → EnvIs n e Γ → Γ.slots ≡ map (kind_of d) e.slots
slots_are {d} {e = e} {Γ} is =
    let long : length (map (kind_of d) e.slots) ≡ length e.slots = length-map e.slots (kind_of d) in
    ext_get_or unbound Γ.slots (map (kind_of d) e.slots) (omega (arith, is.long, is.count))
    (λ x h. is.slots x (omega (arith, is.long)) ∙ sym (get_or-map (kind_of d) e.slots x Unbound unbound (omega (arith, is.long, is.count))))

-- how many slots hold a qubit
qubit_lives : (d : Side) (v : Slot) → holds_qubit v ≡ not (holds_no_qubit (kind_of d v))
qubit_lives d Unbound = refl
qubit_lives d (Qubit l) = refl
qubit_lives d ABool = refl
qubit_lives d Reference = refl

module _ (d : Side) where
  abbrev live_in_slots : List Slot → ℕ
  live_in_slots vs = how_many (λ (w : Kind d). not (holds_no_qubit w)) (map (kind_of d) vs)

  counted : (b : Bool) (k : ℕ) → chosen b 1 0 + k ≡ cond b (1 + k) k
  counted true k = refl
  counted false k = omega arith

  one_more : (v : Slot) (vs : List Slot) → live_in_slots (v ∷ vs) ≡ cond (holds_qubit v) (1 + live_in_slots vs) (live_in_slots vs)
  one_more v vs = counted (not (holds_no_qubit (kind_of d v))) (live_in_slots vs) ∙ rw (qubit_lives d v)

pub live_is : {d : Side} {n : ℕ} {e : Env} {Γ : Environment d} → EnvIs n e Γ
    → count_by holds_qubit e.slots ≡ how_many (λ (w : Kind d). not (holds_no_qubit w)) Γ.slots
live_is {d} {e = e} is = rw (slots_are is) (sym (is_count_by (live_in_slots d) holds_qubit refl (one_more d) e.slots))
