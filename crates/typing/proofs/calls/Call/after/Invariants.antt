-- The arguments from i on are dealt with.
use Prim.Native.Nat.{ℕ}
use Rattle.rules.specs.Syntax.{Side}
use Rattle.rules.specs.Typing.{Env as Environment, Signature}
use Rattle.typing.specs.Stands.{EnvIs}
use Rattle.typing.specs.Calls.{Ends}
use Rattle.typing.proofs.AfterCalls.{After}
use Rattle.typing.proofs.calls.Call.after.Given as goal

abbrev pub invariant-loop-i : goal.invariant-loop-i
invariant-loop-i l = (d : Side) (n : ℕ) (Γ : Environment d) (g : Signature) → EnvIs n l.fn.env Γ → Ends l.self l.endings n g
    → EnvIs n l.after (After Γ g l.self.slots.now l.self.places.now l.i)
