-- The invariant: the word's members below those that are left are done.
use mathlib.Core.Bool.{Bool}
use mathlib.Core.List.{List}
use Prim.Native.Nat.{ℕ, ◌+◌, ◌*◌}
use lib.ListN.{get_or}
use Rattle.route.specs.Sweeps.{Word, Spread}
use Rattle.route.proofs.Members.{Rest}
use Rattle.route.proofs.front.reach_word.Given as goal

abbrev pub invariant-loop-j : goal.invariant-loop-j
invariant-loop-j l = (m : ℕ) × Rest (get_or l.fn.s.words l.i 0) l.j-iterator.0 m
    × ((S L : ℕ → Bool) (h : List ℕ) → Word S l.i (get_or l.fn.s.words l.i 0)
    → Spread l.rows S (l.i * 64) L h l.initial.front.left l.initial.front.next l.initial.hop
    → Spread l.rows S (l.i * 64 + m) L h l.front.left l.front.next l.hop)
