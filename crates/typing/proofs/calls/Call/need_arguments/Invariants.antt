-- What is left to be asked decides.
use Prim.Native.Nat.{ℕ}
use mathlib.Core.Path.{◌≡◌}
use Rattle.rules.specs.Syntax.{Side}
use Rattle.rules.specs.Typing.{Env as Environment, Context}
use Rattle.typing.specs.Stands.{EnvIs}
use Rattle.typing.proofs.CallLists.{Left}
use Rattle.typing.proofs.calls.Call.need_arguments.Given as goal

abbrev pub invariant-loop-i : goal.invariant-loop-i
invariant-loop-i l = (d : Side) (n : ℕ) (C : Context d) (Γ : Environment d) → EnvIs n l.env Γ
    → Left C Γ l.at l.self.slots.now l.self.places.now 0 ≡ Left C Γ l.at l.self.slots.now l.self.places.now l.i
