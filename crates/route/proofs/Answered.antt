-- From the hops that the search found to what it answers, one law for each answer: the buffer is written where the route fits, and else stays.
use mathlib.Core.List.{List, ◌++◌}
use mathlib.Core.Option.{Option}
use mathlib.Core.Path.{◌≡◌}
use native.Mathlib.Numerals.{add-one}
use native.Mathlib.Omega.{arith}
use Prim.Native.Nat.{ℕ, suc, ◌+◌, ◌≤◌, ◌<◌}
use borrow.Author.Tests.{le-leb, lt-leb}
use lib.ListN.{length, take, drop}
use Rattle.answers.specs.Check.{◌>>=◌, ◌>>◌}
use Rattle.std.proofs.lemmas.List.{length-take-le}
use Rattle.std.specs.Prelude.{Some, None, Ok, Err}
use Rattle.rules.specs.Promises.{over}
use Rattle.route.specs.declared.NoRoute.TheVariants.{NoPath, Short}
use Rattle.route.specs.Found.{fitted, Answers}
use Rattle.route.specs.Hops.{hops, followed}
use Rattle.route.proofs.Hopped.{hops_length}

pub none_answered : (h : List ℕ) (a : ℕ) {r : Option (List ℕ)} (before : List ℕ) → r ≡ followed h a None → Answers r before (Err NoPath) before
unfolding fitted ◌>>=◌
none_answered h a before e = record { said = rw e }

module _ (h : List ℕ) (a k : ℕ) {r : Option (List ℕ)} (before : List ℕ) (e : r ≡ followed h a (Some k)) where
  long : length (hops h (suc k) a) ≡ suc k
  long = hops_length h (suc k) a

  pub short_answered : length before < k + 1 → Answers r before (Err Short) before
  unfolding fitted ◌>>=◌ ◌>>◌
  short_answered l = let f = lt-leb (length (hops h (suc k) a)) (length before) (omega (arith, long)) in record { said = rw (e, f) }

  pub written_answered : (after : List ℕ) → k + 1 ≤ length before → after ≡ over (hops h (k + 1) a) before → Answers r before (Ok (k + 1)) after
  unfolding fitted ◌>>=◌ ◌>>◌
  written_answered after l o =
      let f = le-leb (length (hops h (suc k) a)) (length before) (omega (arith, long)) in
      record { said = rw (e, f, long, o, add-one k) }

-- what is written before the rest of the buffer is written over it
pub written_over : (h : List ℕ) (a n : ℕ) (out before : List ℕ) → n ≤ length before → out ≡ hops h (length (take n before)) a
    → out ++ drop n before ≡ over (hops h n a) before
written_over h a n out before l e = rw (e, length-take-le n before l, hops_length h n a)
