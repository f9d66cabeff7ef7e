use Prim.Native.Nat.{◌+◌}
use native.Mathlib.Omega.{arith}
use mathlib.Core.Path.{refl}
use Rattle.typing.proofs.CallLists.{part}
use Rattle.typing.proofs.calls.Call.read.Goals as goal

pub returns : goal.returns
returns c =
    let fits = c.requires.fits in
    record { callee = refl; places = part c.args.s.now (c.args.at + 4) _ (omega arith); slots = part c.args.s.now _ _ (omega arith) }
