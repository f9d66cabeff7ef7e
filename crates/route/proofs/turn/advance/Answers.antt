-- Word by word, until one meets.
use Rattle.route.proofs.Levels.{advanced_start}
use Rattle.route.proofs.turn.advance.Goals as goal

pub returns-in_err-first : goal.returns-in_err-first
returns-in_err-first c = λ N n. rw c.from_residual.ensures (c.in_err-first.ensures N _ n (advanced_start _ _ c.empty.ensures))

pub returns-in_err-second : goal.returns-in_err-second
returns-in_err-second c = λ N n. rw c.from_residual-in_err-second.ensures
    (c.in_err-second.ensures N _ n (c.in_ok-first.ensures N _ n (advanced_start _ _ c.empty.ensures)))

pub returns-in_err-third : goal.returns-in_err-third
returns-in_err-third c = λ N n. rw c.from_residual-in_err-third.ensures
    (c.in_err-third.ensures N _ n (c.in_ok-second.ensures N _ n (c.in_ok-first.ensures N _ n (advanced_start _ _ c.empty.ensures))))

pub returns : goal.returns
returns c = λ N n. c.advance_word-4.ensures N _ n (c.in_ok-third.ensures N _ n (c.in_ok-second.ensures N _ n (c.in_ok-first.ensures N _ n (advanced_start _ _ c.empty.ensures))))
