-- The end of a call whose callee has no commands.
use native.Mathlib.Omega.{arith}
use mathlib.Core.Bool.{true, false≢true}
use mathlib.Core.Path.{◌≡◌, sym, ap}
use Prim.Native.Nat.{ℕ}
use lib.Dec.{eqb}
use Rattle.std.specs.Prelude.{Option, Some, None}
use Rattle.std.specs.Option.{option_eq}
use Rattle.std.proofs.lemmas.Bool.{eqb-true}
use Rattle.walking.specs.Quiet.{none, call}
use Rattle.walking.proofs.quiet.quiet_call_end.Goals as goal

is_none_there : (o : Option ℕ) → option_eq eqb o (Some 0) ≡ true → o ≡ Some 0
is_none_there None h = absurd (false≢true h)
is_none_there (Some n) h = ap (λ k. Some k) (eqb-true n 0 h)

pub returns-then-eq : goal.returns-then-eq
returns-then-eq c =
    let e = c.call_end.ensures in
    let z = is_none_there _ (sym c.if-eq.ensures) in
    (omega (arith, e), rw e (call c.requires.0 z none))
