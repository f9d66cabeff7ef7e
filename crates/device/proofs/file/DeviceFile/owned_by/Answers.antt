use mathlib.Core.Path.{◌∙◌}
use native.Mathlib.Omega.{arith}
use borrow.Author.Rules.{rules}
use Rattle.device.proofs.DeviceLaws.{sound}
use Rattle.device.proofs.RegionLaws.{all_taken}
use Rattle.device.proofs.file.DeviceFile.owned_by.Goals as goal

pub overflow_cast-x : goal.overflow_cast-x
overflow_cast-x c = let k = sound c.args.self.reads in search rules

pub is_owner-requires : goal.is_owner-requires
is_owner-requires c = let k = sound c.args.self.reads in omega arith

pub returns : goal.returns
returns c =
    let l = c.loop-x in
    λ D r. record { owned = λ y. l.invariant y ∙ all_taken r c.args.job l.x y (omega arith) }
