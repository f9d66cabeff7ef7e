-- The invariant: the word's members below those that are left are noted.
use mathlib.Core.Bool.{Bool}
use mathlib.Core.List.{List}
use Prim.Native.Nat.{ℕ, ◌+◌, ◌*◌}
use lib.ListN.{get_or}
use Rattle.route.specs.Sweeps.{Word, Noted}
use Rattle.route.proofs.Members.{Rest}
use Rattle.route.proofs.front.note_word.Given as goal

abbrev pub invariant-loop-j : goal.invariant-loop-j
invariant-loop-j l = (m : ℕ) × Rest (get_or l.fn.s.words l.i 0) l.j-iterator.0 m
    × ((S : ℕ → Bool) (h : List ℕ) → Word S l.i (get_or l.fn.s.words l.i 0) → Noted S l.v (l.i * 64) h l.initial.hop → Noted S l.v (l.i * 64 + m) h l.hop)
