-- The arguments below i are remembered.
use Rattle.typing.specs.Functions.{Remembers}
use Rattle.typing.proofs.endings.Endings.remember.Given as goal

abbrev pub invariant-loop-i : goal.invariant-loop-i
invariant-loop-i l = Remembers l.fn.self l.f l.i l.env (record { kept = l.kept })
