-- No member where each word is zero; else some word is not zero, and its lowest bit is a member.
use mathlib.Core.Path.{sym, ap, ◌∙◌}
use borrow.Author.Rules.{rules}
use lib.ListN.{get_or}
use Rattle.std.specs.Cmp.Lexicographic.{same_text, other_text}
use Rattle.sets.proofs.FirstLaws.{member_in, some_word}
use Rattle.sets.proofs.SetLaws.{zero_has, zeros_at}
use Rattle.sets.proofs.LocationSet.is_empty.Goals as goal

pub returns-clause-none : goal.returns-clause-none
returns-clause-none c = λ t y. zero_has _ y (λ i. ap (λ ws. get_or ws i 0) (same_text _ _ (sym t ∙ c.eq.ensures)) ∙ zeros_at 4 i)

pub returns-clause-some : goal.returns-clause-some
returns-clause-some c = λ t.
    let w = some_word 4 c.args.self.words (search rules) (other_text _ _ (sym t ∙ c.eq.ensures)) in
    member_in _ w.0 w.1 (search rules) w.2
