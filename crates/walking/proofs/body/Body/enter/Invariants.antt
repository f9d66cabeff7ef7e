-- A call's names and its callee's frame on entry: those filled so far are the call's, and the rest of the frame is as it was.
use Prim.Native.Nat.{ℕ, ◌+◌, ◌≤◌, ◌<◌}
use mathlib.Core.Path.{◌≡◌}
use lib.ListN.{length}
use Rattle.rules.specs.Basics.{byte}
use Rattle.walking.specs.Names.{placed, names_of, named}
use Rattle.walking.proofs.body.Body.enter.Given as goal

abbrev pub invariant-loop-i : goal.invariant-loop-i
invariant-loop-i l = record {
  long : (length l.inner ≡ 16) × (length l.frame ≡ 32);
  filled : (j : ℕ) → j < l.i → placed l.inner j ≡ named (names_of l.self) (byte l.s (l.p + j));
  passed : (j : ℕ) → j < l.i → placed l.frame j ≡ named (names_of l.self) (byte l.s (l.p + j));
  rest : (j : ℕ) → l.i ≤ j → placed l.frame j ≡ placed l.initial.frame j;
}
