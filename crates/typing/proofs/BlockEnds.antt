-- The end of a block, slot by slot: the code's test of each slot is that of the rules, and what it leaves in each is what the rules leave.
use mathlib.Core.Bool.{Bool, true, false, not, ◌&&◌, ◌||◌, true≢false, false≢true}
use mathlib.Core.List.{List}
use mathlib.Core.Path.{◌≡◌, refl, sym, ap, ◌∙◌}
use native.Mathlib.Decide.{ℕ_discrete}
use native.Mathlib.Omega.{arith}
use Prim.Native.Nat.{ℕ, ◌+◌, ◌<◌}
use lib.ListN.{get_or, set, length, length-set}
use lib.Seq.{get_or-set_same, get_or-set_other}
use Rattle.rules.specs.Basics.{chosen}
use Rattle.rules.specs.Syntax.{Side, device}
use Rattle.rules.specs.Slots.{unbound, slot, holds_no_qubit, is_classical}
use Rattle.rules.specs.Typing.{Kind, Env as Environment, same_kind, all_stay, narrowed}
use Rattle.sets.specs.Sets.{has}
use Rattle.typing.specs.declared.slots.Slot.{Slot}
use Rattle.typing.specs.declared.slots.Slot.TheVariants.{Unbound, Qubit, Bool as ABool, Reference}
use Rattle.typing.specs.declared.env.Env.{Env}
use Rattle.typing.specs.Stands.{kind_of, slot_of, left_of, EnvIs}
use Rattle.typing.proofs.Lists.{all_yes, all_no, length_up_to, get_d_up_to_zero}

-- the test of a slot, from what it held on entry
abbrev pub stay : {d : Side} → Kind d → Kind d → Bool
stay v w = holds_no_qubit w || same_kind v w

pub stay_is : {t : Bool} (b : Bool) → t ≡ not b → t ≡ false → b ≡ true
stay_is true e h = refl
stay_is false e h = absurd (true≢false (sym e ∙ h))

stay_not : {t : Bool} (b : Bool) → t ≡ not b → t ≡ true → b ≡ false
stay_not true e h = absurd (false≢true (sym e ∙ h))
stay_not false e h = refl

module _ {d : Side} {n : ℕ} {entry self : Env} {Γ Δ : Environment d} (is : EnvIs n entry Γ) (too : EnvIs n self Δ) where
  stay_there : (x : ℕ) → x < 32 → stay (slot Γ.slots x) (slot Δ.slots x) ≡ stay (kind_of d (slot_of entry x)) (kind_of d (slot_of self x))
  stay_there x h = rw (is.slots x h, too.slots x h)

  pub all_stay_yes : ((x : ℕ) → x < 32 → stay (kind_of d (slot_of entry x)) (kind_of d (slot_of self x)) ≡ true) → true ≡ all_stay Γ.slots Δ.slots
  all_stay_yes h = sym (all_yes (λ x. stay (slot Γ.slots x) (slot Δ.slots x)) 0 32 (λ x a b. stay_there x (omega arith) ∙ h x (omega arith)))

  pub all_stay_no : (x : ℕ) {t : Bool} → x < 32 → t ≡ not (stay (kind_of d (slot_of entry x)) (kind_of d (slot_of self x))) → t ≡ true
      → false ≡ all_stay Γ.slots Δ.slots
  all_stay_no x l e h = sym (all_no (λ y. stay (slot Γ.slots y) (slot Δ.slots y)) 0 32 x (omega arith) l (stay_there x l ∙ stay_not _ e h))

-- what is left in a slot
left_kind : (d : Side) (v w : Slot) → chosen (is_classical (kind_of d w) && not (is_classical (kind_of d v))) unbound (kind_of d w) ≡ kind_of d (left_of v w)
left_kind d v Unbound = refl
left_kind d v (Qubit l) = refl
left_kind d Unbound ABool = refl
left_kind d (Qubit k) ABool = refl
left_kind d ABool ABool = refl
left_kind d Reference ABool = refl
left_kind d Unbound Reference = refl
left_kind d (Qubit k) Reference = refl
left_kind d ABool Reference = refl
left_kind d Reference Reference = refl

left_qubit : (v w : Slot) (l : ℕ) → left_of v w ≡ Qubit l → w ≡ Qubit l
left_qubit v w l = go (is_classical (kind_of device w) && not (is_classical (kind_of device v)))
  where
    go : (b : Bool) → chosen b Unbound w ≡ Qubit l → w ≡ Qubit l
    go true h = let z : ◌≡◌ {A = ℕ} 0 1 = cc in absurd (omega arith)
    go false h = h

-- the slots below x are closed
pub record Narrowing (entry self : Env) (vs : List Slot) (x : ℕ) : Type 0 where
  pub long : length vs ≡ 32
  pub closed : (k : ℕ) → k < x → get_or vs k Unbound ≡ left_of (slot_of entry k) (slot_of self k)

pub narrowing_one : {entry self : Env} {vs : List Slot} {x : ℕ} {v : Slot} → Narrowing entry self vs x → x < 32 → v ≡ left_of (slot_of entry x) (slot_of self x)
    → Narrowing entry self (set vs x v) (x + 1)
narrowing_one {entry} {self} {vs} {x} {v} r l e = record { long = length-set vs x v ∙ r.long; closed = λ k h. go k h (ℕ_discrete k x) }
  where
    go : (k : ℕ) → k < x + 1 → Dec (k ≡ x) → get_or (set vs x v) k Unbound ≡ left_of (slot_of entry k) (slot_of self k)
    go k h (yes q) = rw q (get_or-set_same vs x v Unbound (omega (arith, r.long)) ∙ e)
    go k h (no q) = get_or-set_other vs x k v Unbound q ∙ r.closed k (omega arith)

-- each slot closed
module _ {d : Side} {n : ℕ} {entry self : Env} {Γ Δ : Environment d} (is : EnvIs n entry Γ) (too : EnvIs n self Δ) where
  abbrev leaves : ℕ → Kind d
  leaves x = chosen (is_classical (slot Δ.slots x) && not (is_classical (slot Γ.slots x))) unbound (slot Δ.slots x)

  pub narrowed_is : (e : Env) → length e.slots ≡ 32 → e.free ≡ self.free → ((x : ℕ) → x < 32 → slot_of e x ≡ left_of (slot_of entry x) (slot_of self x))
      → EnvIs n e (record { slots = narrowed Γ.slots Δ.slots; free = Δ.free })
  narrowed_is e m f h = record {
    count = m;
    long = length_up_to 0 32 leaves;
    wide = too.wide;
    slots = λ x l.
        get_d_up_to_zero 32 x leaves unbound l ∙ rw (is.slots x l, too.slots x l) (left_kind d (slot_of entry x) (slot_of self x))
        ∙ ap (kind_of d) (sym (h x l));
    there = λ x i l q. too.there x i l (left_qubit (slot_of entry x) (slot_of self x) i (sym (h x l) ∙ q));
    free = λ y. too.free y ∙ ap (λ s. has s y) (sym f);
  }
