-- The length, then what the tests of the owners and of the edges answer.
use mathlib.Core.Path.{ap, ◌∙◌}
use Rattle.answers.specs.Check.{refused}
use Rattle.answers.proofs.Passed.{passed_on}
use Rattle.device.proofs.HeaderLaws.{body_length, body_owners, body_edges, body_read_lem}
use Rattle.device.proofs.read_body.Goals as goal

pub returns-then-s-n : goal.returns-then-s-n
returns-then-s-n c = ap refused c.at.ensures ∙ body_length _ _ c.if-s-n.true

pub returns-in_err-test_owners : goal.returns-in_err-test_owners
returns-in_err-test_owners c = passed_on _ c.from_residual.ensures.1 ∙ body_owners _ _ c.if-s-n.false _ c.in_err-test_owners.ensures

pub returns-in_err-test_edges : goal.returns-in_err-test_edges
returns-in_err-test_edges c =
    passed_on _ c.from_residual-in_err-test_edges.ensures.1
    ∙ body_edges _ _ c.if-s-n.false _ c.in_ok-test_owners.ensures c.in_err-test_edges.ensures

pub returns : goal.returns
returns c = body_read_lem _ _ c.if-s-n.false c.in_ok-test_owners.ensures c.in_ok-test_edges.ensures
