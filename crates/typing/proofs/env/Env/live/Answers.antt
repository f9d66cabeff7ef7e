use mathlib.Core.Path.{◌≡◌, ◌∙◌}
use Rattle.std.specs.List.{count_by}
use Rattle.typing.specs.Stands.{holds_qubit}
use borrow.Author.Rules.{rules}
use Rattle.typing.proofs.SlotLists.{live_is}
use Rattle.typing.proofs.env.Env.live.Goals as goal

pub returns-clause-value : goal.returns-clause-value
returns-clause-value c = λ d n Γ is. let u : c.count.result ≡ count_by holds_qubit c.args.self.slots = search rules in u ∙ live_is is
