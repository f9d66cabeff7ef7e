-- What is remembered of a function, argument by argument: a number is added where the slot holds the qubit of that argument, and no other number is
-- touched.
use mathlib.Core.Bool.{Bool, ◌&&◌, ◌||◌, and-true, and-false}
use mathlib.Core.Path.{◌≡◌, refl, sym, ap, subst, ◌∙◌}
use native.Mathlib.Decide.{ℕ_discrete}
use native.Mathlib.Omega.{arith}
use Prim.Native.Nat.{ℕ, ◌+◌, ◌*◌, ◌<◌}
use borrow.Author.Tests.{eq-eqb, ne_eqb}
use lib.Dec.{eqb}
use Rattle.rules.specs.Syntax.{parameter, param}
use Rattle.rules.specs.Slots.{slot, is_qubit_at}
use Rattle.rules.specs.Typing.{Kind, Env as Environment}
use Rattle.sets.specs.declared.LocationSet.{LocationSet}
use Rattle.sets.specs.Sets.{has}
use Rattle.typing.specs.declared.slots.Slot.{Slot}
use Rattle.typing.specs.declared.slots.Slot.TheVariants.{Unbound, Qubit, Bool as ABool, Reference}
use Rattle.typing.specs.declared.env.Env.{Env}
use Rattle.typing.specs.declared.endings.Endings.{Endings}
use Rattle.typing.specs.Stands.{kind_of, slot_of, EnvIs}
use Rattle.typing.specs.Functions.{Remembers}
use Rattle.typing.proofs.EqualEnvs.{same as same_slot}

-- the test of one argument: the slot holds the qubit with the argument's own number
pub argument_kept : {n : ℕ} {env : Env} {Γ : Environment parameter} → EnvIs n env Γ → (i : ℕ) → i < 32
    → same_slot (slot_of env i) (Qubit i) ≡ is_qubit_at (slot Γ.slots i) (param i)
argument_kept {env = env} {Γ} is i h = go (slot_of env i) ∙ ap (λ (v : Kind parameter). is_qubit_at v (param i)) (sym (is.slots i h))
  where
    go : (v : Slot) → same_slot v (Qubit i) ≡ is_qubit_at (kind_of parameter v) (param i)
    go Unbound = refl
    go (Qubit l) = refl
    go ABool = refl
    go Reference = refl

pub remembers_none : (e : Endings) (f : ℕ) (env : Env) → Remembers e f 0 env e
remembers_none e f env = record { lower = λ y l. refl; higher = λ y l. refl; its = λ n Γ is i l. absurd (omega arith) }

module _ {e : Endings} {f i : ℕ} {env : Env} {a : LocationSet} (b : LocationSet) (r : Remembers e f i env (record { kept = a })) (q : Bool)
    (kind : (n : ℕ) (Γ : Environment parameter) → EnvIs n env Γ → q ≡ is_qubit_at (slot Γ.slots i) (param i))
    (add : (y : ℕ) → has b y ≡ ((q && eqb y (8 * f + i)) || has a y)) where
  other : (y : ℕ) → (y ≡ 8 * f + i → ⊥) → has b y ≡ has a y
  other y h = add y ∙ rw (ne_eqb y (8 * f + i) h, and-false q)

  here : (n : ℕ) (Γ : Environment parameter) → EnvIs n env Γ → (j : ℕ) → Dec (j ≡ i) → j < i + 1
      → has b (8 * f + j) ≡ (is_qubit_at (slot Γ.slots j) (param j) || has e.kept (8 * f + j))
  here n Γ is j (yes h) l =
      subst (λ (k : ℕ). has b (8 * f + k) ≡ (is_qubit_at (slot Γ.slots k) (param k) || has e.kept (8 * f + k))) (sym h)
      (add (8 * f + i) ∙ rw (eq-eqb (8 * f + i) (8 * f + i) refl, and-true q, kind n Γ is, r.higher (8 * f + i) (omega arith)))
  here n Γ is j (no h) l = other (8 * f + j) (λ z. h (omega arith)) ∙ r.its n Γ is j (omega arith)

  pub remembers_one : Remembers e f (i + 1) env (record { kept = b })
  remembers_one = record {
    lower = λ y l. other y (λ z. absurd (omega arith)) ∙ r.lower y l;
    higher = λ y l. other y (λ z. absurd (omega arith)) ∙ r.higher y (omega arith);
    its = λ n Γ is j l. here n Γ is j (ℕ_discrete j i) l;
  }
