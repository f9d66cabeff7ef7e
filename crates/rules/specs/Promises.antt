-- What each public call promises: from what it is given, its answer and the final bytes of every buffer, for every input.
use Rattle.std.specs.Prelude.{◌&&◌, ◌||◌, not, List, ◌++◌, ℕ, ◌*◌, eqb, leb, length, drop}
use Rattle.answers.specs.Check.{Check, ok, refused, ◌>>=◌, ◌>>◌, need, within}
use Rattle.answers.specs.declared.File.TheVariants.{Device, Schedule, Listing, Program}
use Rattle.answers.specs.declared.Counted.{Counted}
use Rattle.answers.specs.declared.Moved.{Moved}
use Rattle.rules.specs.Basics.{chosen}
use Rattle.rules.specs.Device.{read_device}
use Rattle.rules.specs.Region.{Region, region_of, owns, free_in}
use Rattle.rules.specs.Path.{route}
use Rattle.rules.specs.Syntax as syntax
use Rattle.rules.specs.Program.{read_program}
use Rattle.rules.specs.Words.{Text}
use Rattle.rules.specs.Listing.{listing}
use Rattle.rules.specs.Unlisting.{unlisted}
use Rattle.rules.specs.Commands.{size_of, need_route, walk}
use Rattle.rules.specs.Typing.{type_program, live_in}
use Rattle.rules.specs.Run.{turns, Machine, started, final, Told, records, record_bytes, moved_by}

-- the number of locations, which an occupancy and a map have a byte for each of
abbrev pub read_device_of : List ℕ → Check ℕ
read_device_of bytes = do
  D ← within Device (read_device bytes)
  ok (length D.owners)

-- a program read for no job
abbrev pub read_program_of : List ℕ → Check (Unit {0})
read_program_of bytes = do
  within (Program 0) (read_program bytes)
  ok tt

-- 25: job not 1 or 2
abbrev pub need_job : ℕ → Check (Unit {0})
need_job job = need (eqb job 1 || eqb job 2) 25 0

-- typing, 20, 21: the command count, and the number left live
abbrev pub judged : Region → syntax.Program → Check Counted
judged R p = do
  t ← type_program R.owned p
  need (leb (size_of t.commands) 65535) 20 0
  walk R R.owned t.commands
  ok (record { count = size_of t.commands; live = live_in t.env })

-- Check: 25, device, program, typing, 20, 21
abbrev pub check_of : List ℕ → List ℕ → ℕ → Check Counted
check_of device program job = do
  need_job job
  D ← within Device (read_device device)
  p ← within (Program job) (read_program program)
  within (Program job) (judged (region_of D job) p)

-- Route: 25, device, 26, 13, 15, 21, 24 exactly when the route is longer than the buffer
abbrev pub routed : List ℕ → ℕ → List ℕ → ℕ → ℕ → ℕ → Check (List ℕ)
routed device job occupancy a b room = do
  need_job job
  D ← within Device (read_device device)
  need (eqb (length occupancy) (length D.owners)) 26 0
  need (owns (region_of D job) a) 13 0
  need (owns (region_of D job) b) 13 1
  need (not (eqb a b)) 15 0
  p ← need_route (route (region_of D job) (free_in (region_of D job) occupancy) a b) 0
  need (leb (length p) room) 24 0
  ok p

-- what is written at a buffer's start; bytes past it stay
abbrev pub over : List ℕ → List ℕ → List ℕ
over new before = new ++ drop (length new) before

pub record Routed : Type 0 where
  pub answer : Check ℕ
  pub buffer : List ℕ

abbrev pub route_written : List ℕ → Check (List ℕ) → Routed
route_written buffer (ok p) = record { answer = ok (length p); buffer = over p buffer }
route_written buffer (refused r) = record { answer = refused r; buffer = buffer }

abbrev pub route_of : List ℕ → ℕ → List ℕ → ℕ → ℕ → List ℕ → Routed
route_of device job occupancy a b buffer = route_written buffer (routed device job occupancy a b (length buffer))

-- a finished run: its records, and the machine at the end
pub record Finished : Type 0 where
  pub records : List Told
  pub machine : Machine

-- Run: device, program 1, program 2, 22, 23, 24. Records need 4 bytes a step, the map n.
abbrev pub ran : List ℕ → List ℕ → List ℕ → List ℕ → ℕ → ℕ → Check Finished
ran device program₁ program₂ schedule room₁ room₂ = do
  D ← within Device (read_device device)
  p ← within (Program 1) (read_program program₁)
  q ← within (Program 2) (read_program program₂)
  within Schedule (need (leb (length schedule) 4096) 22 0)
  ts ← within Schedule (turns 2 0 schedule)
  need (leb (4 * length schedule) room₁ && leb (length D.owners) room₂) 24 0
  let programs : ℕ → syntax.Program = λ j. chosen (eqb j 1) p q
  ok (record { records = records D programs ts (started D programs); machine = final D programs ts (started D programs) })

pub record Ran : Type 0 where
  pub answer : Check Moved
  pub records : List ℕ
  pub map : List ℕ

abbrev pub run_written : List ℕ → List ℕ → Check Finished → Ran
run_written buffer map (ok f) = record {
  answer = ok (record { first = moved_by 1 f.records; second = moved_by 2 f.records });
  records = over (record_bytes f.records) buffer;
  map = over f.machine.occupancy map;
}
run_written buffer map (refused r) = record { answer = refused r; records = buffer; map = map }

abbrev pub run_of : List ℕ → List ℕ → List ℕ → List ℕ → List ℕ → List ℕ → Ran
run_of device program₁ program₂ schedule buffer map =
    run_written buffer map (ran device program₁ program₂ schedule (length buffer) (length map))

-- a number of bytes, and the buffer that they were written to
pub record Copied : Type 0 where
  pub answer : Check ℕ
  pub buffer : List ℕ

abbrev pub copied : List ℕ → Check (List ℕ) → Copied
copied buffer (ok t) = record { answer = ok (length t); buffer = over t buffer }
copied buffer (refused r) = record { answer = refused r; buffer = buffer }

-- Writing a listing: the program's own refusals, 24 exactly when the listing is longer than the buffer
abbrev pub listed : List ℕ → ℕ → Check Text
listed program room = do
  t ← within (Program 0) (listing program)
  need (leb (length t) room) 24 0
  ok t

abbrev pub write_listing_of : List ℕ → List ℕ → Copied
write_listing_of program buffer = copied buffer (listed program (length buffer))

-- Reading a listing: 27, 24 exactly when the program is longer than the buffer
abbrev pub read_back : Text → ℕ → Check (List ℕ)
read_back text room = do
  s ← within Listing (unlisted text)
  need (leb (length s) room) 24 0
  ok s

abbrev pub read_listing_of : Text → List ℕ → Copied
read_listing_of text buffer = copied buffer (read_back text (length buffer))
