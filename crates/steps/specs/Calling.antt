-- What a call asks and what a return gives back, in the code's terms: the call's locations and slots as lists.
use Rattle.std.specs.Prelude.{Bool, List, map, ◌≡◌, ℕ, eqb, take, Result}
use Rattle.answers.specs.declared.Fault.{Fault}
use Rattle.answers.specs.Check.{Check, ◌>>=◌, need}
use Rattle.rules.specs.declared.place.Location.{Location}
use Rattle.rules.specs.Basics.{up_to, without, set_all}
use Rattle.rules.specs.Region.{Region, free_in}
use Rattle.rules.specs.Syntax.{Side, device, Place, Function}
use Rattle.rules.specs.Slots.{unbound, slot, need_qubit, is_qubit_at, entered, Setting, arguments_at, callable}
use Rattle.rules.specs.Machine as rules
use Rattle.rules.specs.Machine.{Actual, floor}
use Rattle.sets.specs.declared.LocationSet.{LocationSet}
use Rattle.device.specs.Reader.{Owned}
use Rattle.steps.specs.declared.slots.Slots.{Slots}
use Rattle.steps.specs.declared.frames.Frame.{Frame}
use Rattle.steps.specs.Said.{said_at, itself}
use Rattle.steps.specs.State.{place_of, slots_of, location_at, empty_frame}
use Rattle.steps.specs.Performing.{Maps}

-- the first k places of a call
unfoldable pub given : List Location → ℕ → List (Place device)
given places k = take k (map place_of places)

abbrev pub numbers : List (Place device) → List ℕ
numbers ls = map (λ l. l.no) ls

-- one argument is a qubit at its location
unfoldable pub argument_at : Slots → ℕ → Location → ℕ → Check (Unit {0})
argument_at φ x l o = need_qubit (slot (slots_of φ) x) o >>= λ k. need (eqb k.no l.0) 16 o

abbrev pub Arguments : Slots → List ℕ → List (Place device) → Result (Unit {0}) Fault → Type 0
Arguments φ xs ls r = (d : Side) (W : Setting d device Bool) (o : ℕ) → said_at itself r o ≡ arguments_at W o (slots_of φ) xs ls

abbrev pub Callable : Slots → List ℕ → List (Place device) → LocationSet → List ℕ → Result (Unit {0}) Fault → Type 0
Callable φ xs ls owned map r =
    (d : Side) (σ : Actual d) (R : Region) (fs : List Function) (v : Bool) (occupancy : List ℕ) → Owned R owned → Maps map occupancy → (o : ℕ)
    → said_at itself r o ≡ callable (floor R fs v (free_in R occupancy) σ) o (slots_of φ) ls xs

-- the callee's frame with nothing to come yet
pub record Enters (places : List Location) (m at : ℕ) (f : Frame) : Type 0 where
  pub slots : slots_of f.slots ≡ entered (given places m)
  pub frame : f ≡ empty_frame f.slots places at

-- whether the callee's frame ended with its argument i: slot i is a qubit at location i
abbrev pub keeps : Frame → ℕ → Bool
keeps f i = is_qubit_at (slot (slots_of f.slots) i) (place_of (location_at f.places i))

-- the caller's slots after the callee's frame, from its argument i on: m of them, given in the slots xs
unfoldable pub handed_back : Frame → ℕ → List ℕ → ℕ → rules.Frame → rules.Frame
handed_back f i xs m φ = set_all unbound (without (up_to i m (keeps f)) xs) φ
