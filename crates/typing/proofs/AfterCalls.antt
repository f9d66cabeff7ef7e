-- The environment after a call, argument by argument from the last on: those from i on that the callee ended without are gone.
use mathlib.Core.Bool.{Bool, true, false}
use mathlib.Core.List.{List, ◌∷◌, map}
use mathlib.Core.Path.{◌≡◌, sym, subst, ◌∙◌}
use native.Mathlib.Omega.{arith}
use Prim.Native.Nat.{ℕ, zero, suc, ◌-◌, ◌≤◌}
use lib.ListN.{get_or, set, length, drop}
use lib.Seq.{drop-cons}
use Rattle.rules.specs.Basics.{up_to, without, set_all}
use Rattle.rules.specs.Syntax.{Side, param}
use Rattle.rules.specs.Slots.{unbound, slot, is_qubit_at}
use Rattle.rules.specs.Typing.{Env as Environment, Signature, after_call}
use Rattle.typing.specs.declared.env.Env.{Env}
use Rattle.typing.specs.Stands.{EnvIs}
use Rattle.typing.specs.Calls.{places}

module _ {d : Side} (Γ : Environment d) (g : Signature) (xs ls : List ℕ) where
  abbrev pub stays_at : ℕ → Bool
  stays_at i = is_qubit_at (slot g.ends.slots i) (param i)

  abbrev stays : ℕ → List Bool
  stays i = up_to i (length xs - i) stays_at

  -- after the arguments from i on
  abbrev pub After : ℕ → Environment d
  After i = record {
    slots = set_all unbound (without (stays i) (drop i xs)) Γ.slots;
    free = set_all true (map (λ l. l.no) (without (stays i) (places d (drop i ls)))) Γ.free;
  }

  pub after_none : {n : ℕ} {e : Env} → EnvIs n e Γ → EnvIs n e (After (length xs))
  after_none {n} {e} is =
      let none : length xs - length xs ≡ 0 = omega arith in
      subst (λ (k : ℕ). EnvIs n e (with_stays (up_to (length xs) k stays_at))) (sym none) is
    where
      with_stays : List Bool → Environment d
      with_stays bs = record {
        slots = set_all unbound (without bs (drop (length xs) xs)) Γ.slots;
        free = set_all true (map (λ l. l.no) (without bs (places d (drop (length xs) ls)))) Γ.free;
      }

  module _ (k i : ℕ) (q : suc k ≡ i) (l : i ≤ length xs) (u : length xs ≤ length ls) where
    stays_one : stays k ≡ stays_at k ∷ stays i
    stays_one = let r : length xs - k ≡ suc (length xs - i) = omega arith in rw (r, q)

    slots_one : drop k xs ≡ get_or xs k 0 ∷ drop i xs
    slots_one = drop-cons xs k 0 (omega arith) ∙ rw q

    places_one : drop k ls ≡ get_or ls k 0 ∷ drop i ls
    places_one = drop-cons ls k 0 (omega arith) ∙ rw q

    pub after_stay : {n : ℕ} {e : Env} → stays_at k ≡ true → EnvIs n e (After i) → EnvIs n e (After k)
    after_stay h is = rw (stays_one, slots_one, places_one, h) is

    pub after_lose : {n : ℕ} {e : Env} → stays_at k ≡ false
        → EnvIs n e (record { slots = set (After i).slots (get_or xs k 0) unbound; free = set (After i).free (get_or ls k 0) true }) → EnvIs n e (After k)
    after_lose h is = rw (stays_one, slots_one, places_one, h) is

  from_first : {n : ℕ} {e : Env} → g.m ≡ length xs → EnvIs n e (After 0) → EnvIs n e (after_call g (places d ls) xs Γ)
  from_first q is = let all : g.m ≡ length xs - 0 = omega arith in rw all is

  pub after_all : {n i : ℕ} {e : Env} → g.m ≡ length xs → i ≤ 0 → EnvIs n e (After i) → EnvIs n e (after_call g (places d ls) xs Γ)
  after_all {i = zero} q l is = from_first q is
  after_all {i = suc i} q l is = absurd (omega arith)
