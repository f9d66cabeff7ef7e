-- The walk over a program: that over main's block, with all of the region's locations free, and the table of quiet runs made before.
use mathlib.Core.Path.{refl, ap, ◌∙◌}
use Rattle.answers.specs.Check.{refused, ◌>>◌}
use Rattle.walking.proofs.Main.{main_block, main_walked}
use Rattle.walking.proofs.walk_program.Goals as goal

pub mark-requires : goal.mark-requires
mark-requires c = let (p, P, T) = c.requires in P.size

pub walk_block-requires : goal.walk_block-requires
walk_block-requires c = let (p, P, T) = c.requires in main_block _ refl c.mark.ensures P T

pub returns-in-Ok : goal.returns-in-Ok
unfolding ◌>>◌
returns-in-Ok c = main_walked refl c.mark.ensures c.in-Ok.ensures

pub returns-in-Err : goal.returns-in-Err
unfolding ◌>>◌
returns-in-Err c = λ p R d e P T O r z. ap refused c.at.ensures ∙ main_walked refl c.mark.ensures c.in-Err.ensures p R d e P T O r z
