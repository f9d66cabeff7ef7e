-- Demand 2, the first refusal of the commands: the tests of the walk in one list, in the document's words. Commands are checked in order, each call at its own
-- locations, the then-block before the else-block, a loop's body once; only a merge is tested (21), with the locations that are free at that point. And the
-- first refusal of a schedule: 23 at its first bad byte.
use Rattle.std.specs.Prelude.{Bool, true, false, ◌||◌, List, [], ◌∷◌, ◌++◌, ◌≡◌, ℕ, ◌+◌, ◌*◌, eqb, get_or, set, length}
use Rattle.rules.specs.Basics.{any, up_to, byte}
use Rattle.rules.specs.Region.{Region}
use Rattle.rules.specs.Path.{route}
use Rattle.rules.specs.Syntax.{Side, device, Place}
use Rattle.rules.specs.Commands.{Commands, ε, alloc, release, connect, either, repeat, commands_at, walk}
use Rattle.rules.specs.Run.{turns}
use Rattle.theory.specs.Tests.{Test, test, first_of, refusal_of}
use Rattle.theory.specs.TypingOrder.{is_some}

-- over the places of a body, which a call turns into locations of the device; in main they are themselves
module _ {s : Side} (located : Place s → Place device) where
  -- the free locations after commands: an alloc takes its location, a free gives it back, an if ends as its then-block, a loop as it began
  abbrev pub free_after : List Bool → Commands s → List Bool
  free_after L ε = L
  free_after L (alloc q l c) = free_after (set L (located l).no false) c
  free_after L (release l c) = free_after (set L (located l).no true) c
  free_after L (connect o b l e k c) = free_after L c
  free_after L (either a b c) = free_after (free_after L a) c
  free_after L (repeat a c) = free_after L c

  abbrev pub walk_tests : Region → List Bool → Commands s → List Test
  walk_tests R L ε = []
  walk_tests R L (alloc q l c) = walk_tests R (set L (located l).no false) c
  walk_tests R L (release l c) = walk_tests R (set L (located l).no true) c
  walk_tests R L (connect o b l e k c) = test (is_some (route R (λ i. get_or L i false) (located l).no (located k).no)) 21 o ∷ walk_tests R L c
  walk_tests R L (either a b c) = walk_tests R L a ++ (walk_tests R L b ++ walk_tests R (free_after L a) c)
  walk_tests R L (repeat a c) = walk_tests R L a ++ walk_tests R L c

-- main's commands, and a call's at its own locations
pub record WalkOrder : Type 0 where
  pub main : (R : Region) (L : List Bool) (c : Commands device) → refusal_of (walk R L c) ≡ first_of (walk_tests (λ l. l) R L c)
  pub call : (s : Side) (located : Place s → Place device) (R : Region) (L : List Bool) (c : Commands s)
      → refusal_of (walk R L (commands_at located c)) ≡ first_of (walk_tests located R L c)

-- Schedule bytes are 10, 11 hex (job 1, outcome 0, 1), 20, 21 hex and so on, for jobs 1 to `jobs`.
abbrev pub names_turn : ℕ → ℕ → Bool
names_turn jobs b = any (λ j. eqb b (16 * j) || eqb b (16 * j + 1)) (up_to 1 jobs λ j. j)

abbrev pub schedule_tests : ℕ → List ℕ → List Test
schedule_tests jobs s = up_to 0 (length s) λ i. test (names_turn jobs (byte s i)) 23 i

abbrev pub ScheduleOrder : Type 0
ScheduleOrder = (jobs : ℕ) (s : List ℕ) → refusal_of (turns jobs 0 s) ≡ first_of (schedule_tests jobs s)
