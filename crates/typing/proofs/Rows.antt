-- Rows of checks, by what the code's answer says of the first: a check that lets through leaves the row after it, and one that refuses is the row's
-- answer. So what the code answers for a row is what the row is.
use mathlib.Core.Bool.{Bool, true, false}
use mathlib.Core.Path.{◌≡◌, refl, sym}
use Prim.Native.Nat.{ℕ}
use Rattle.std.specs.Prelude.{Result, Ok, Err}
use Rattle.answers.specs.declared.Refusal.{Refusal}
use Rattle.answers.specs.Check.{Check, ok, refused, refusal, ◌>>=◌, ◌>>◌, need}
use Rattle.rules.specs.Syntax.{Side}
use Rattle.rules.specs.Typing.{Typed as TypedBlock}
use Rattle.typing.specs.declared.env.Typed.{Typed}
use Rattle.typing.specs.Stands.{EnvIs, Answers, goes, stops}

module _ {A B : Type 0} {m : Check A} where
  pub first_gives : {a : A} (f : A → Check B) {x : Check B} → ok a ≡ m → x ≡ f a → x ≡ (m >>= f)
  unfolding ◌>>=◌
  first_gives f e h = rw (sym e) h

  pub first_refused : {z : Refusal} (f : A → Check B) → refused z ≡ m → refused z ≡ (m >>= f)
  unfolding ◌>>=◌
  first_refused f e = rw (sym e)

  pub then_gives : {a : A} {n x : Check B} → ok a ≡ m → x ≡ n → x ≡ (m >> n)
  unfolding ◌>>◌
  then_gives e h = rw (sym e) h

  pub then_refused : {z : Refusal} (n : Check B) → refused z ≡ m → refused z ≡ (m >> n)
  unfolding ◌>>◌
  then_refused n e = rw (sym e)

-- a test alone
pub need_yes : {b : Bool} (k o : ℕ) → b ≡ true → ok tt ≡ need b k o
need_yes k o e = rw e

pub need_no : {b : Bool} {z : Refusal} (k o : ℕ) → z ≡ refusal k o → b ≡ false → refused z ≡ need b k o
need_no k o q e = rw (e, q)

-- what is answered for a row
module _ {d : Side} {n p : ℕ} {m : Check (TypedBlock d)} where
  pub accepts : {t : TypedBlock d} {r : Typed} → ok t ≡ m → r.next ≡ p → EnvIs n r.env t.env → Answers n p m (Ok r)
  accepts e q is = goes (sym e) refl q is

  pub refuses : {z : Refusal} {r : Result Typed Refusal} → refused z ≡ m → r ≡ Err z → Answers n p m r
  refuses e q = stops (sym e) q

  pub refuses_as : {z : Refusal} → refused z ≡ m → Answers n p m (Err z)
  refuses_as e = refuses e refl
