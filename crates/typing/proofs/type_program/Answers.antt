-- The functions, then main's statements: the first refusal of either, else the number of qubits that main leaves live.
use mathlib.Core.Path.{◌∙◌}
use Rattle.answers.proofs.Passed.{passed_on}
use Rattle.typing.proofs.MainTypes.{knew, some_owned, main_case, main_typed, main_refused, functions_refused}
use Rattle.typing.proofs.type_program.Goals as goal

pub returns-in_err-endings : goal.returns-in_err-endings
returns-in_err-endings c = λ p P T R own. passed_on _ c.from_residual.ensures.1 ∙ functions_refused R p (c.in_err-endings.ensures p P T.heads)

pub type_statements-requires : goal.type_statements-requires
type_statements-requires c =
    let (p, P, T) = c.requires in
    main_case (some_owned c.args.owned) c.args.s P (knew (c.in_ok-endings.ensures p P T.heads)) c.new.ensures T.main_at_lem

pub returns-in_err-typed : goal.returns-in_err-typed
returns-in_err-typed c =
    λ p P T R own.
    passed_on _ c.from_residual-in_err-typed.ensures.1
    ∙ main_refused own c.args.s P (knew (c.in_ok-endings.ensures p P T.heads)) c.new.ensures T.main_at_lem c.in_err-typed.ensures

pub returns : goal.returns
returns c =
    λ p P T R own.
    main_typed own c.args.s P (knew (c.in_ok-endings.ensures p P T.heads)) c.new.ensures T.main_at_lem c.in_ok-typed.ensures c.live.ensures.value
