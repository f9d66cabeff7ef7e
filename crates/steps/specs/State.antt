-- A job's state as the code has it: what its slots are in the rules' terms, and what the methods do.
use Rattle.std.specs.Prelude.{Bool, List, [], map, ℕ, ◌+◌, ◌-◌, eqb, get_or, set, replicate}
use Rattle.rules.specs.declared.place.Location.{Location}
use Rattle.rules.specs.Basics.{chosen}
use Rattle.rules.specs.Syntax.{device, Place, location}
use Rattle.rules.specs.Slots as rules
use Rattle.rules.specs.Slots.{unbound, qubit, bool, ref}
use Rattle.steps.specs.declared.slots.Slot.{Slot}
use Rattle.steps.specs.declared.slots.Slot.TheVariants.{Unbound, Qubit, Bool as Boolean, Reference}
use Rattle.steps.specs.declared.slots.Slots.{Slots}
use Rattle.steps.specs.declared.frames.Range.{Range}
use Rattle.steps.specs.declared.frames.Frame.{Frame}
use Rattle.steps.specs.declared.job.Job.{Job}

abbrev pub place_of : Location → Place device
place_of l = location l.0

abbrev pub slot_of : Slot → rules.Slot device Bool
slot_of Unbound = unbound
slot_of (Qubit l) = qubit (place_of l)
slot_of (Boolean b) = bool b
slot_of (Reference b) = ref b

unfoldable pub slots_of : Slots → List (rules.Slot device Bool)
slots_of φ = map slot_of φ.slots

abbrev pub location_at : List Location → ℕ → Location
location_at ls i = get_or ls i (record { 0 = 0 })

abbrev pub range : ℕ → ℕ → Range
range a e = record { at = a; end = e }

abbrev pub range_at : List Range → ℕ → Range
range_at rs i = get_or rs i (range 0 0)

-- where the statement to come stands
abbrev pub here_of : Frame → ℕ
here_of f = (range_at f.ranges (f.n - 1)).at

abbrev pub with_slots : Frame → Slots → Frame
with_slots f φ = record { slots = φ; ranges = f.ranges; n = f.n; places = f.places; call = f.call }

abbrev pub with_ranges : Frame → List Range → ℕ → Frame
with_ranges f rs n = record { slots = f.slots; ranges = rs; n = n; places = f.places; call = f.call }

-- a frame with nothing to come
abbrev pub empty_frame : Slots → List Location → ℕ → Frame
empty_frame φ places o = record { slots = φ; ranges = replicate 8 (range 0 0); n = 0; places = places; call = o }

-- the last range goes on at p, or goes where it ends there
unfoldable pub advanced : Frame → ℕ → Frame
advanced f p =
    chosen (eqb p (range_at f.ranges (f.n - 1)).end) (with_ranges f f.ranges (f.n - 1))
    (with_ranges f (set f.ranges (f.n - 1) (range p (range_at f.ranges (f.n - 1)).end)) f.n)

-- a range more, where it is not empty
unfoldable pub pushed : Frame → ℕ → ℕ → Frame
pushed f a e = chosen (eqb a e) f (with_ranges f (set f.ranges f.n (range a e)) (f.n + 1))

abbrev pub no_frame : Frame
no_frame = record { slots = record { slots = [] }; ranges = []; n = 0; places = []; call = 0 }

abbrev pub frame_at : List Frame → ℕ → Frame
frame_at fs i = get_or fs i no_frame

abbrev pub with_top : Job → Frame → Job
with_top j f = record { top = f; below = j.below; depth = j.depth }

-- the callee on top of the caller
abbrev pub entering : Job → Frame → Frame → Job
entering j caller callee = record { top = callee; below = set j.below j.depth caller; depth = j.depth + 1 }

abbrev pub leaving : Job → Frame → Job
leaving j caller = record { top = caller; below = j.below; depth = j.depth - 1 }

-- the location that a place byte names
unfoldable pub located_in : Job → ℕ → Location
located_in j b = chosen (eqb j.depth 0) (record { 0 = b }) (location_at j.top.places b)
