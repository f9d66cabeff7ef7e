-- The invariant: the word's members below those that are left are done.
use mathlib.Core.Bool.{Bool}
use Prim.Native.Nat.{ℕ, ◌+◌, ◌*◌}
use Rattle.route.specs.Sweeps.{Word, Joined}
use Rattle.route.proofs.Members.{Rest}
use Rattle.route.proofs.joined.join_word.Given as goal

abbrev pub invariant-loop-j : goal.invariant-loop-j
invariant-loop-j l = (m : ℕ) × Rest l.word l.j-iterator.0 m
    × ((S : ℕ → Bool) → Word S l.i l.word → Joined l.rows S (l.i * 64) l.initial.out → Joined l.rows S (l.i * 64 + m) l.out)
