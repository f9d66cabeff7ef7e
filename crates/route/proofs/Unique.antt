-- No two answers of the search say the same, so its promise, which fixes what the answer says, allows one answer and one buffer.
use mathlib.Core.Bool.{cond}
use mathlib.Core.List.{List}
use mathlib.Core.Option.{Option}
use mathlib.Core.Path.{◌≡◌, refl, sym, ap, ◌∙◌}
use Prim.Native.Nat.{ℕ}
use lib.Dec.{eqb}
use Rattle.std.specs.Prelude.{Result, Ok, Err}
use Rattle.answers.specs.Check.{Check, ok, refused}
use Rattle.rules.specs.Promises.{Routed}
use Rattle.route.specs.declared.NoRoute.{NoRoute}
use Rattle.route.specs.declared.NoRoute.TheVariants.{NoPath, Short}
use Rattle.route.specs.Found.{found_said, Answers}

-- what is said gives the answer back
abbrev back : Check ℕ → Result ℕ NoRoute
back (ok n) = Ok n
back (refused r) = Err (cond (eqb r.number 21) NoPath Short)

backed : (r : Result ℕ NoRoute) → back (found_said r) ≡ r
backed (Ok n) = refl
backed (Err NoPath) = refl
backed (Err Short) = refl

pub one_found : (r q : Result ℕ NoRoute) → found_said r ≡ found_said q → r ≡ q
one_found r q e = sym (backed r) ∙ ap back e ∙ backed q

pub one_answer : {found : Option (List ℕ)} {before : List ℕ} {r q : Result ℕ NoRoute} {after last : List ℕ}
    → Answers found before r after → Answers found before q last → (r ≡ q) × (after ≡ last)
one_answer {r = r} {q = q} A B =
    let e = A.said ∙ sym B.said in
    (one_found r q (ap (λ (s : Routed). s.answer) e), ap (λ (s : Routed). s.buffer) e)
