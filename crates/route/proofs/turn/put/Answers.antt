-- One word is changed.
use Rattle.route.proofs.Levels.{put_word}
use borrow.Author.Rules.{rules}
use Rattle.route.proofs.turn.put.Goals as goal

pub returns : goal.returns
returns c = put_word c.args.s c.args.i c.args.w c.requires (search rules)
