-- The first refusal of the commands and of a schedule. The walk is a row with a test at each merge; the free locations that it goes on with are those that
-- the list says, by induction over the commands, so the tests after an if agree too. Main's commands are a call's at locations that are themselves. A
-- schedule byte is 16 times its job and an outcome of 0 or 1: it passes the reader's test of quotient and rest exactly where it is one of the bytes named.
use mathlib.Core.Bool.{Bool, true, false, ◌&&◌, ◌||◌, false≢true}
use mathlib.Core.List.{List, [], ◌∷◌}
use mathlib.Core.Path.{◌≡◌, refl, sym, ap, ◌∙◌}
use native.Mathlib.Decide.{ℕ_discrete}
use native.Mathlib.Nat.{add-zero}
use native.Mathlib.Omega.{arith}
use Prim.Native.Nat.{ℕ, zero, suc, ◌+◌, ◌*◌, ◌/◌, ◌%◌, ◌≤◌, ◌<◌}
use borrow.Author.Tests.{le-leb, eq-eqb}
use lib.Dec.{eqb, leb}
use lib.ListN.{get_or, set, length}
use Rattle.answers.proofs.Laws.{Holds, by, holds_bind}
use Rattle.rules.specs.Basics.{any, up_to, byte}
use Rattle.rules.specs.Region.{Region}
use Rattle.rules.specs.Path.{route}
use Rattle.rules.specs.Syntax.{Side, device, Place}
use Rattle.rules.specs.Commands.{Commands, ε, alloc, release, connect, either, repeat, commands_at, walk}
use Rattle.rules.specs.Run.{turns}
use Rattle.theory.specs.Tests.{test}
use Rattle.theory.specs.WalkOrder.{free_after, walk_tests, WalkOrder, names_turn, ScheduleOrder}
use Rattle.rules.proofs.Tests.{eqb_true, at_most, and_left, and_right, or_right}
use Rattle.theory.proofs.Places.{at_same}
use Rattle.theory.proofs.Rows.{past, AsFirst, end, next, made, after_having, then}
use Rattle.theory.proofs.TypingOrder.{route_row}

module _ {s : Side} (located : Place s → Place device) (R : Region) where
  walk_end : (c : Commands s) (L : List Bool) → Holds (λ M. M ≡ free_after located L c) (walk R L (commands_at located c))
  walk_end ε L = by refl
  walk_end (alloc q l c) L = walk_end c (set L (located l).no false)
  walk_end (release l c) L = walk_end c (set L (located l).no true)
  walk_end (connect o b l e k c) L = past _ (walk_end c L)
  walk_end (either a b c) L = holds_bind (walk_end a L) λ M p. past _ (rw p (walk_end c (free_after located L a)))
  walk_end (repeat a c) L = past _ (walk_end c L)

  walk_row : (c : Commands s) (L : List Bool) → AsFirst (walk R L (commands_at located c)) (walk_tests located R L c)
  walk_row ε L = end L
  walk_row (alloc q l c) L = walk_row c (set L (located l).no false)
  walk_row (release l c) L = walk_row c (set L (located l).no true)
  walk_row (connect o b l e k c) L = then (route_row (route R (λ i. get_or L i false) (located l).no (located k).no) o) (walk_row c L)
  walk_row (either a b c) L =
      after_having (walk_end a L) (walk_row a L) λ M p. then (walk_row b L) (rw p (walk_row c (free_after located L a)))
  walk_row (repeat a c) L = then (walk_row a L) (walk_row c L)

pub walk_order : WalkOrder
walk_order = record {
  main = λ R L c. (rw (at_same c) at (walk_row (λ l. l) R c L)).same;
  call = λ s located R L c. (walk_row located R c L).same;
}

-- A schedule byte b with the job j: 16 times j, and 0 or 1 more
abbrev turn_of : ℕ → ℕ → Bool
turn_of b j = eqb b (16 * j) || eqb b (16 * j + 1)

turn_of_lem : (b j : ℕ) → turn_of b j ≡ true → (b / 16 ≡ j) × (b % 16 ≤ 1)
turn_of_lem b j h = go (eqb b (16 * j)) refl h
  where
    go : (t : Bool) → eqb b (16 * j) ≡ t → (t || eqb b (16 * j + 1)) ≡ true → (b / 16 ≡ j) × (b % 16 ≤ 1)
    go true e h = omega (arith, eqb_true b (16 * j) e)
    go false e h = omega (arith, eqb_true b (16 * j + 1) h)

is_turn : (b j : ℕ) → b / 16 ≡ j → b % 16 ≤ 1 → turn_of b j ≡ true
is_turn b j p q = go (ℕ_discrete b (16 * j))
  where
    go : Dec (b ≡ 16 * j) → turn_of b j ≡ true
    go (yes e) = ap (λ (t : Bool). t || eqb b (16 * j + 1)) (eq-eqb b (16 * j) e)
    go (no n) = or_right (eqb b (16 * j)) (eqb b (16 * j + 1)) (eq-eqb b (16 * j + 1) (omega arith))

-- the bytes of n jobs from i on
named : (b i n : ℕ) → any (turn_of b) (up_to i n λ j. j) ≡ true → (i ≤ b / 16) × (b / 16 < i + n) × (b % 16 ≤ 1)
named b i zero h = absurd (false≢true h)
named b i (suc n) h = go (turn_of b i) refl h (named b (suc i) n)
  where
    go : (t : Bool) → turn_of b i ≡ t → (t || any (turn_of b) (up_to (suc i) n λ j. j)) ≡ true
        → (any (turn_of b) (up_to (suc i) n λ j. j) ≡ true → (suc i ≤ b / 16) × (b / 16 < suc i + n) × (b % 16 ≤ 1))
        → (i ≤ b / 16) × (b / 16 < i + suc n) × (b % 16 ≤ 1)
    go true e h rest = omega (arith, turn_of_lem b i e)
    go false e h rest = omega (arith, rest h)

is_named : (b i n : ℕ) → i ≤ b / 16 → b / 16 < i + n → b % 16 ≤ 1 → any (turn_of b) (up_to i n λ j. j) ≡ true
is_named b i zero p q r = absurd (omega arith)
is_named b i (suc n) p q r = go (ℕ_discrete (b / 16) i) λ p. is_named b (suc i) n p (omega arith) r
  where
    go : Dec (b / 16 ≡ i) → (suc i ≤ b / 16 → any (turn_of b) (up_to (suc i) n λ j. j) ≡ true) → any (turn_of b) (up_to i (suc n) λ j. j) ≡ true
    go (yes e) rest = ap (λ (t : Bool). t || any (turn_of b) (up_to (suc i) n λ j. j)) (is_turn b i e r)
    go (no e) rest = or_right (turn_of b i) (any (turn_of b) (up_to (suc i) n λ j. j)) (rest (omega arith))

-- two tests that pass at the same time are the same
same_truth : (a b : Bool) → (a ≡ true → b ≡ true) → (b ≡ true → a ≡ true) → a ≡ b
same_truth true b f g = sym (f refl)
same_truth false true f g = g refl
same_truth false false f g = refl

-- the reader's test of a byte
abbrev passes : ℕ → ℕ → Bool
passes jobs b = leb 1 (b / 16) && leb (b / 16) jobs && leb (b % 16) 1

turn_named : (jobs b : ℕ) → passes jobs b ≡ names_turn jobs b
turn_named jobs b = same_truth (passes jobs b) (names_turn jobs b) there back
  where
    there : passes jobs b ≡ true → names_turn jobs b ≡ true
    there h =
        let job : (leb 1 (b / 16) && leb (b / 16) jobs) ≡ true = and_left _ (leb (b % 16) 1) h in
        let p : b / 16 ≤ jobs = at_most (b / 16) jobs (and_right (leb 1 (b / 16)) _ job) in
        let q : b % 16 ≤ 1 = at_most (b % 16) 1 (and_right (leb 1 (b / 16) && leb (b / 16) jobs) _ h) in
        is_named b 1 jobs (at_most 1 (b / 16) (and_left _ _ job)) (omega arith) q

    back : names_turn jobs b ≡ true → passes jobs b ≡ true
    back h =
        let n : (1 ≤ b / 16) × (b / 16 < 1 + jobs) × (b % 16 ≤ 1) = named b 1 jobs h in
        rw (le-leb 1 (b / 16) n.0, le-leb (b / 16) jobs (omega arith), le-leb (b % 16) 1 n.2)

-- bs are the bytes of s from i on
turns_row : (jobs : ℕ) (s bs : List ℕ) (i : ℕ) → ((j : ℕ) → byte bs j ≡ byte s (i + j))
    → AsFirst (turns jobs i bs) (up_to i (length bs) λ j. test (names_turn jobs (byte s j)) 23 j)
turns_row jobs s [] i h = end []
turns_row jobs s (b ∷ bs) i h =
    let e : b ≡ byte s i = h 0 ∙ ap (byte s) (add-zero i) in
    rw (turn_named jobs b, ← e) (next (names_turn jobs b) 23 i (made _ (turns_row jobs s bs (suc i) λ j. h (suc j) ∙ ap (byte s) (omega arith))))

pub schedule_order : ScheduleOrder
schedule_order jobs s = (turns_row jobs s s 0 (λ j. ap (byte s) (omega arith))).same
