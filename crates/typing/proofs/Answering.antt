-- What an answer says of the check that it answers, and how a statement of the bytes is answered.
use mathlib.Core.Path.{◌≡◌, sym, ap, subst, ◌∙◌}
use native.Mathlib.Omega.{arith}
use Prim.Native.Nat.{ℕ}
use Rattle.std.specs.Prelude.{Result, Ok, Err}
use Rattle.answers.specs.declared.Refusal.{Refusal}
use Rattle.answers.specs.Check.{Check, ok, refused, ◌>>=◌}
use Rattle.rules.specs.Syntax.{Side, Op, Statement, op}
use Rattle.rules.specs.Commands.{Commands}
use Rattle.rules.specs.Typing.{Typed as TypedBlock, type_statement}
use Rattle.typing.specs.declared.body.Body.{Body}
use Rattle.typing.specs.declared.env.Env.{Env}
use Rattle.typing.specs.declared.env.Typed.{Typed}
use Rattle.typing.specs.Stands.{EnvIs, Answers, goes, stops}
use Rattle.typing.specs.Cases.{StatementCase, Performed, Placed}

-- typed: what the check gives, the position and the environment
pub record Passed {d : Side} (n p : ℕ) (m : Check (TypedBlock d)) (r : Typed) : Type 0 where
  pub typed : TypedBlock d
  pub gives : ok typed ≡ m
  pub here : r.next ≡ p
  pub is : EnvIs n r.env typed.env

module _ {d : Side} {n p : ℕ} {m : Check (TypedBlock d)} where
  pub passed : {r : Typed} → Answers n p m (Ok r) → Passed n p m r
  passed {r} (goes {t = t} {e = e} h k q is) =
      let same : r ≡ e = cc in
      record { typed = t; gives = sym h; here = ap (λ (x : Typed). x.next) same ∙ q; is = subst (λ (x : Typed). EnvIs n x.env t.env) (sym same) is }
  passed (stops h k) = let z : ◌≡◌ {A = ℕ} 0 1 = cc in absurd (omega arith)

  pub refused_is : {z : Refusal} → Answers n p m (Err z) → refused z ≡ m
  refused_is (goes h k q is) = let z : ◌≡◌ {A = ℕ} 0 1 = cc in absurd (omega arith)
  refused_is {z} (stops {z = y} h k) = let same : z ≡ y = cc in ap refused same ∙ sym h

  -- commands are none of the code's
  pub any_commands : {r : Result Typed Refusal} (f : TypedBlock d → Commands d) → Answers n p m r
      → Answers n p (m >>= λ t. ok (record { env = t.env; commands = f t })) r
  unfolding ◌>>=◌
  any_commands f (goes {t = t} h k q is) = goes {t = record { env = t.env; commands = f t }} (rw h) k q is
  any_commands f (stops h k) = stops (rw h) k

  pub answers_as : {k : Check (TypedBlock d)} {r : Result Typed Refusal} → m ≡ k → Answers n p m r → Answers n p k r
  answers_as {r = r} e = subst (λ (x : Check (TypedBlock d)). Answers n p x r) e

module _ {body : Body} {env : Env} {at : ℕ} (t : StatementCase body env at) {next : ℕ} {r : Result Typed Refusal} where
  pub answered : (x : Statement t.side) → Answers t.places next (type_statement t.context t.entry x) r → t.it ≡ x → t.next ≡ next
      → Answers t.places t.next (type_statement t.context t.entry t.it) r
  answered x h p q =
      subst (λ (y : Statement t.side). Answers t.places t.next (type_statement t.context t.entry y) r) (sym p)
      (subst (λ (i : ℕ). Answers t.places i (type_statement t.context t.entry x) r) (sym q) h)

  pub performed : (a : (d : Side) → Op d) → Performed env a at next r → t.it ≡ op at (a t.side) → t.next ≡ next
      → Answers t.places t.next (type_statement t.context t.entry t.it) r
  performed a h p q = answered (op at (a t.side)) (h t.side t.places t.context t.entry t.is) p q

  pub placed : (a : (d : Side) → Op d) → Placed body.inside env a at next r → t.it ≡ op at (a t.side) → t.next ≡ next
      → Answers t.places t.next (type_statement t.context t.entry t.it) r
  placed a h p q = answered (op at (a t.side)) (h t.side t.places t.context t.entry t.within t.is) p q
