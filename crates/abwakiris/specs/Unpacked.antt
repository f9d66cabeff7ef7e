-- Taking an answer apart, as include/abwakiris.h does, and what is kept: taking apart what an export answers gives back exactly what its call promises, and
-- bits 48 to 63 are 0. One statement for each call, over the definitions alone.
use Rattle.std.specs.Prelude.{List, ◌≡◌, ℕ, ◌-◌, ◌/◌, ◌%◌, ◌^◌, ◌<◌, eqb}
use Rattle.answers.specs.Check.{Check, ok, refused}
use Rattle.answers.specs.declared.File.{File}
use Rattle.answers.specs.declared.File.TheVariants.{NoFile, Device, Schedule, Listing, Program}
use Rattle.answers.specs.declared.Counted.{Counted}
use Rattle.answers.specs.declared.Moved.{Moved}
use Rattle.answers.specs.declared.Refusal.{Refusal}
use Rattle.rules.specs.Basics.{chosen}
use Rattle.rules.specs.Promises.{read_device_of, read_program_of, check_of, route_of, run_of, write_listing_of, read_listing_of}
use Rattle.trips.specs.Trips.{Bytes}
use Rattle.abwakiris.specs.Packed.{packed_read, packed_value, packed_counted, packed_moved}

-- bits 0 to 31 (ABWAKIRIS_VALUE), 32 to 39 (ABWAKIRIS_NUMBER) and 40 to 47 (ABWAKIRIS_FILE)
abbrev pub value_of : ℕ → ℕ
value_of a = a % 2 ^ 32

abbrev pub number_of : ℕ → ℕ
number_of a = a / 2 ^ 32 % 256

abbrev pub code_of : ℕ → ℕ
code_of a = a / 2 ^ 40 % 256

-- the halves of the value (ABWAKIRIS_COUNT and ABWAKIRIS_LIVE of a check, ABWAKIRIS_MOVED_1 and ABWAKIRIS_MOVED_2 of a run)
abbrev pub low_of : ℕ → ℕ
low_of a = value_of a % 65536

abbrev pub high_of : ℕ → ℕ
high_of a = value_of a / 65536

abbrev pub counted_of : ℕ → Counted
counted_of a = record { count = low_of a; live = high_of a }

abbrev pub moved_of : ℕ → Moved
moved_of a = record { first = low_of a; second = high_of a }

-- 0 none, 1 device, 2 schedule, 3 a listing, 16 + j the program of job j
abbrev pub file_of : ℕ → File
file_of c = chosen (eqb c 0) NoFile (chosen (eqb c 1) Device (chosen (eqb c 2) Schedule (chosen (eqb c 3) Listing (Program (c - 16)))))

abbrev pub refusal_of : ℕ → Refusal
refusal_of a = record { number = number_of a; place = value_of a; file = file_of (code_of a) }

-- number 0: accepted, with the value that the answer has
abbrev pub unpacked : {A : Type 0} → (ℕ → A) → ℕ → Check A
unpacked value a = chosen (eqb (number_of a) 0) (ok (value a)) (refused (refusal_of a))

abbrev pub unpacked_read : ℕ → Check (Unit {0})
unpacked_read = unpacked λ a. tt

abbrev pub unpacked_value : ℕ → Check ℕ
unpacked_value = unpacked value_of

abbrev pub unpacked_counted : ℕ → Check Counted
unpacked_counted = unpacked counted_of

abbrev pub unpacked_moved : ℕ → Check Moved
unpacked_moved = unpacked moved_of

pub record Kept {A : Type 0} (apart : ℕ → Check A) (packed : Check A → ℕ) (m : Check A) : Type 0 where
  pub whole : apart (packed m) ≡ m
  pub fits : packed m < 2 ^ 48

abbrev pub ReadDeviceKept : Type 0
ReadDeviceKept = (device : List ℕ) → Kept unpacked_value packed_value (read_device_of device)

abbrev pub ReadProgramKept : Type 0
ReadProgramKept = (program : List ℕ) → Kept unpacked_read packed_read (read_program_of program)

abbrev pub CheckKept : Type 0
CheckKept = (device program : List ℕ) (job : ℕ) → Kept unpacked_counted packed_counted (check_of device program job)

abbrev pub RouteKept : Type 0
RouteKept = (device : List ℕ) (job : ℕ) (occupancy : List ℕ) (a b : ℕ) (buffer : List ℕ)
    → Kept unpacked_value packed_value (route_of device job occupancy a b buffer).answer

abbrev pub RunKept : Type 0
RunKept = (device first second schedule records map : List ℕ)
    → Kept unpacked_moved packed_moved (run_of device first second schedule records map).answer

abbrev pub WriteListingKept : Type 0
WriteListingKept = (program buffer : List ℕ) → Bytes program → Kept unpacked_value packed_value (write_listing_of program buffer).answer

abbrev pub ReadListingKept : Type 0
ReadListingKept = (text buffer : List ℕ) → Kept unpacked_value packed_value (read_listing_of text buffer).answer
