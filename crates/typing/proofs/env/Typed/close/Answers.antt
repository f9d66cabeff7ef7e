-- 17, then what the block made is forgotten.
use mathlib.Core.Path.{refl, sym, ◌∙◌}
use Rattle.typing.proofs.Rows.{then_gives, then_refused, need_yes, need_no, accepts, refuses_as}
use Rattle.typing.proofs.env.Typed.close.Goals as goal

pub returns-then-not-stays : goal.returns-then-not-stays
returns-then-not-stays c =
    λ d n Γ t is too.
    refuses_as (then_refused _ (need_no 17 _ c.at.ensures (sym (c.stays.ensures d n Γ t.env is too) ∙ c.if-not-stays.true)))

pub returns : goal.returns
returns c =
    λ d n Γ t is too.
    accepts (then_gives (need_yes 17 _ (sym (c.stays.ensures d n Γ t.env is too) ∙ c.if-not-stays.false)) refl) refl
    (c.narrowed-env.ensures d n Γ t.env is too)
