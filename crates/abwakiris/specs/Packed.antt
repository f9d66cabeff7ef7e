-- How an export packs its answer in one u64: bits 0 to 31 the call's value or the place of a refusal, bits 32 to 39 its number (0 accepted), bits 40 to 47
-- the file that the place is in.
use Rattle.std.specs.Prelude.{ℕ, ◌+◌, ◌*◌, ◌%◌, ◌^◌}
use Rattle.answers.specs.Check.{Check, ok, refused}
use Rattle.answers.specs.declared.Counted.{Counted}
use Rattle.answers.specs.declared.File.{File}
use Rattle.answers.specs.declared.File.TheVariants.{NoFile, Device, Schedule, Listing, Program}
use Rattle.answers.specs.declared.Moved.{Moved}
use Rattle.answers.specs.declared.Refusal.{Refusal}

-- 0 none, 1 device, 2 schedule, 3 a listing, 16 + j the program of job j
abbrev pub file_code : File → ℕ
file_code NoFile = 0
file_code Device = 1
file_code Schedule = 2
file_code Listing = 3
file_code (Program j) = 16 + j

abbrev pub packed_refusal : Refusal → ℕ
packed_refusal r = r.place % 2 ^ 32 + r.number * 2 ^ 32 + file_code r.file * 2 ^ 40

-- an answer in one number, its value being packed by what is given
abbrev pub packed : {A : Type 0} → (A → ℕ) → Check A → ℕ
packed value (ok a) = value a
packed value (refused r) = packed_refusal r

abbrev pub packed_pair : ℕ → ℕ → ℕ
packed_pair a b = a % 65536 + (b % 65536) * 65536

-- a read of a program has no value; a read of a device, a route and a listing written or read have one; a check and a run have two, each in 16 bits
abbrev pub packed_read : Check (Unit {0}) → ℕ
packed_read = packed λ u. 0

abbrev pub packed_value : Check ℕ → ℕ
packed_value = packed λ v. v % 2 ^ 32

abbrev pub packed_counted : Check Counted → ℕ
packed_counted = packed λ a. packed_pair a.count a.live

abbrev pub packed_moved : Check Moved → ℕ
packed_moved = packed λ m. packed_pair m.first m.second
