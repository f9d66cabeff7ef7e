-- A law for each exit.
use mathlib.Core.Path.{refl, ap, ◌∙◌}
use native.Mathlib.Omega.{arith}
use Rattle.rules.specs.Table.{size_of}
use Rattle.steps.proofs.Passed.{passed_as}
use Rattle.steps.proofs.Coming.{room_there}
use Rattle.steps.proofs.Operating.{operable, known, acts_stuck, acts_moved}
use Rattle.steps.proofs.kinds.operation.Goals as goal

pub operate-requires : goal.operate-requires
operate-requires c = operable c.requires.0 c.requires.1

pub returns-in_err-done : goal.returns-in_err-done
returns-in_err-done c = acts_stuck _ _ _ _ _ c.args.floor.now.map.now _ _ c.in_err-done.ensures c.requires.0 _ _ refl (passed_as _ c.from_residual.ensures.1)

pub bounds-s-at : goal.bounds-s-at
bounds-s-at c = (known c.requires.0 c.requires.1).starts

pub known-requires : goal.known-requires
known-requires c = let f = known c.requires.0 c.requires.1 in (f.positive, f.small)

pub advance-requires : goal.advance-requires
advance-requires c = let f = known c.requires.0 c.requires.1 in
    (c.requires.0.some, room_there c.requires.0.steady, omega (arith, f.fits, f.size, (c.size.ensures.value ∙ ap size_of c.known.ensures)))

pub returns : goal.returns
returns c = acts_moved _ _ _ _ _ c.args.floor.now.map.now _ _ c.in_ok-done.ensures c.requires.0 c.requires.1 _
    (c.size.ensures.value ∙ ap size_of c.known.ensures) _ c.advance.ensures _ refl
