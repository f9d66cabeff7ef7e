-- What it is for the code's job to stand for a job of the rules. A relation, since a position in a file does not say which scope it is read in or
-- how many blocks lie around it. The items to come are the statements of the ranges, innermost range first; a frame that was called comes by a
-- call in the file, and its end is the return from that call.
use Rattle.std.specs.Prelude.{List, [], ◌∷◌, map, ◌≡◌, ℕ, zero, suc, ◌+◌, ◌≤◌, ◌<◌, length, take}
use Rattle.rules.specs.Basics.{up_to, byte}
use Rattle.rules.specs.Syntax.{Side, device, Place, Statements, Function, function, Program}
use Rattle.rules.specs.Program.{Scope}
use Rattle.rules.specs.Machine as rules
use Rattle.rules.specs.Machine.{Actual, themselves, locations, Item, return, statements_before}
use Rattle.program.specs.In.{StatementsIn, scope_of, main_scope}
use Rattle.steps.specs.declared.frames.Range.{Range}
use Rattle.steps.specs.declared.frames.Frame.{Frame}
use Rattle.steps.specs.declared.job.Job.{Job}
use Rattle.steps.specs.State.{place_of, slots_of, range_at, frame_at}

module _ {d : Side} (s : List ℕ) (S : Scope) where
  -- range number i holds the statements ts and is not empty; the blocks around it leave enough depths for the ranges before it
  pub record RangeIn (i depths : ℕ) (r : Range) (ts : Statements d) : Type 0 where
    pub reads : StatementsIn s S depths r.at r.end ts
    pub some : r.at < r.end
    pub deep : i + depths < 8

  -- the items of the first n ranges, last to first, before what comes after
  unfoldable pub RangesIn : Actual d → List Range → List Item → ℕ → List Item → Type 0
  RangesIn σ rs after zero is = is ≡ after
  RangesIn σ rs after (suc i) is =
      (depths : ℕ) × (ts : Statements d) × (rest : List Item) × RangeIn i depths (range_at rs i) ts × RangesIn σ rs after i rest
      × (is ≡ statements_before σ ts rest)

  pub record FrameIn (σ : Actual d) (f : Frame) (after is : List Item) : Type 0 where
    pub sized : length f.ranges ≡ 8
    pub room : f.n ≤ 8
    pub ranges : RangesIn σ f.ranges after f.n is

module _ (s : List ℕ) (fs : List Function) where
  -- the call of function g that a frame came by: its locations, and the caller's slots for its arguments
  pub record CallIn (g : ℕ) (f : Frame) (ls : List (Place device)) (xs : List ℕ) : Type 0 where
    pub placed : length f.places ≡ 16
    pub located : ls ≡ take (byte s (f.call + 2)) (map place_of f.places)
    pub places : byte s (f.call + 2) ≡ (function fs g).k
    pub most : byte s (f.call + 2) ≤ 16
    pub arguments : byte s (f.call + 3) ≤ 8
    pub fewer : byte s (f.call + 3) ≤ byte s (f.call + 2)
    pub fits : f.call + 4 + byte s (f.call + 2) + byte s (f.call + 3) ≤ length s
    pub given : xs ≡ up_to (f.call + 4 + byte s (f.call + 2)) (byte s (f.call + 3)) (λ i. byte s i)
    pub bound : (i : ℕ) → i < byte s (f.call + 3) → byte s (f.call + 4 + byte s (f.call + 2) + i) < 32

  -- the frame f at a depth and those below it, with the frames below and the items to come. A function calls only functions before it, so a
  -- depth and the number of the function there are together no more than the number of functions.
  unfoldable pub FramesIn : List Frame → ℕ → Frame → List rules.Frame → List Item → Type 0
  FramesIn below zero f φs is = FrameIn s (main_scope fs) themselves f [] is × (φs ≡ [])
  FramesIn below (suc d) f φs is =
      (g : ℕ) × (ls : List (Place device)) × (xs : List ℕ) × (after : List Item) × (χs : List rules.Frame) × (g + suc d ≤ length fs)
      × CallIn g f ls xs × FrameIn s (scope_of fs g) (locations ls) f (return f.call ls xs ∷ after) is
      × FramesIn below d (frame_at below d) χs after × (φs ≡ slots_of (frame_at below d).slots ∷ χs)

pub record Stands (s : List ℕ) (p : Program) (J : rules.Job) (j : Job) : Type 0 where
  pub top : J.top ≡ slots_of j.top.slots
  pub sized : length j.below ≡ 15
  pub frames : FramesIn s p.functions j.below j.depth j.top J.below J.items
