-- Taking an answer apart gives it back. A value below 2^32, a place below 2^32, a number below 256 and a file's code below 256 each stand in bits of their
-- own, so that packing cuts nothing off; that every answer of the calls is such a one say the theory's `Bounds` and the trips' `Bounds`.
use mathlib.Core.Bool.{true, false}
use mathlib.Core.Path.{◌≡◌, refl, ap}
use native.Mathlib.Omega.{arith}
use Prim.Native.Nat.{ℕ, ◌+◌, ◌-◌, ◌*◌, ◌%◌, ◌^◌, ◌≤◌, ◌<◌}
use lib.Dec.{eqb}
use Rattle.answers.specs.Check.{Check, ok, refused}
use Rattle.answers.specs.declared.File.{File}
use Rattle.answers.specs.declared.File.TheVariants.{NoFile, Device, Schedule, Listing, Program}
use Rattle.answers.specs.declared.Counted.{Counted}
use Rattle.answers.specs.declared.Moved.{Moved}
use Rattle.answers.specs.declared.Refusal.{Refusal}
use Rattle.theory.specs.Bounds.{job_named, Given, WithinBy, Within, value, refusal}
use Rattle.trips.specs.Bounds.{GivenListing}
use Rattle.rules.proofs.Tests.{eqb_other}
use Rattle.theory.proofs.Bounds.{read_device_within, read_program_within, check_within, route_within, run_within}
use Rattle.trips.proofs.Bounds.{write_listing_within, read_listing_within}
use Rattle.abwakiris.specs.Packed.{file_code, packed_refusal, packed_read, packed_value, packed_pair, packed_counted, packed_moved}
use Rattle.abwakiris.specs.Unpacked.{value_of, number_of, code_of, low_of, high_of, counted_of, moved_of, file_of}
use Rattle.abwakiris.specs.Unpacked.{unpacked, unpacked_read, unpacked_value, unpacked_counted, unpacked_moved}
use Rattle.abwakiris.specs.Unpacked.{Kept, ReadDeviceKept, ReadProgramKept, CheckKept, RouteKept, RunKept, WriteListingKept, ReadListingKept}

-- a file by its code
file_kept : (f : File) → file_of (file_code f) ≡ f
file_kept NoFile = refl
file_kept Device = refl
file_kept Schedule = refl
file_kept Listing = refl
file_kept (Program j) =
    let back : 16 + j - 16 ≡ j = omega arith in
    let other : (n : ℕ) → n < 16 → eqb (16 + j) n ≡ false = λ n l. eqb_other (16 + j) n (omega arith) in
    rw (other 0 (omega arith), other 1 (omega arith), other 2 (omega arith), other 3 (omega arith)) (ap Program back)

code_few : (f : File) → job_named f ≤ 2 → file_code f ≤ 18
code_few NoFile h = omega arith
code_few Device h = omega arith
code_few Schedule h = omega arith
code_few Listing h = omega arith
code_few (Program j) h = omega arith

-- what is below 2^32 has number 0
accepted : (a : ℕ) → a < 2 ^ 32 → eqb (number_of a) 0 ≡ true
accepted a h = let z : number_of a ≡ 0 = omega arith in rw z

-- what packing needs of a refusal
record Small (r : Refusal) : Type 0 where
  pub from_1 : 1 ≤ r.number
  pub to_255 : r.number ≤ 255
  pub in_32_bits : r.place < 2 ^ 32
  pub named : job_named r.file ≤ 2

given_small : (r : Refusal) → Given r → Small r
given_small r g = record { from_1 = g.from_1; to_255 = omega (arith, g.to_26); in_32_bits = omega (arith, g.in_file); named = g.named }

listing_small : (r : Refusal) → GivenListing r → Small r
listing_small r g = record { from_1 = g.from_1; to_255 = omega (arith, g.to_27); in_32_bits = omega (arith, g.in_text); named = g.named }

module _ (r : Refusal) (g : Small r) where
  number_kept : number_of (packed_refusal r) ≡ r.number
  number_kept = omega (arith, code_few r.file g.named)

  place_kept : value_of (packed_refusal r) ≡ r.place
  place_kept = omega (arith, code_few r.file g.named)

  code_kept : code_of (packed_refusal r) ≡ file_code r.file
  code_kept = omega (arith, code_few r.file g.named)

  refusal_fits : packed_refusal r < 2 ^ 48
  refusal_fits = omega (arith, code_few r.file g.named)

  -- its number is not 0, so that it reads as a refusal
  refusal_kept : {A : Type 0} (v : ℕ → A) → unpacked v (packed_refusal r) ≡ refused r
  refusal_kept v = rw (number_kept, place_kept, code_kept, file_kept r.file, eqb_other r.number 0 (omega (arith, g.from_1)))

-- the general case: what is within values that packing keeps is kept
module _ {A : Type 0} (v : ℕ → A) (packed : Check A → ℕ) (given : (r : Refusal) → packed (refused r) ≡ packed_refusal r) where
  kept : {G : Refusal → Type 0} {P : A → Type 0} → ((r : Refusal) → G r → Small r)
      → ((a : A) → P a → (v (packed (ok a)) ≡ a) × (packed (ok a) < 2 ^ 32)) → {m : Check A} → WithinBy G P m → Kept (unpacked v) packed m
  kept small of (value {a = a} h) = record {
    whole = rw (accepted (packed (ok a)) (of a h).1) (ap ok (of a h).0);
    fits = omega (arith, (of a h).1);
  }
  kept small of (refusal {r = r} g) = record {
    whole = rw (given r) (refusal_kept r (small r g) v);
    fits = rw (given r) (refusal_fits r (small r g));
  }

read_kept : {P : Unit {0} → Type 0} {m : Check (Unit {0})} → Within P m → Kept unpacked_read packed_read m
read_kept = kept (λ a. tt) packed_read (λ r. refl) given_small λ a h. (refl, omega arith)

value_kept : {G : Refusal → Type 0} {P : ℕ → Type 0} → ((r : Refusal) → G r → Small r)
    → ((n : ℕ) → P n → n < 2 ^ 32) → {m : Check ℕ} → WithinBy G P m → Kept unpacked_value packed_value m
value_kept small few = kept value_of packed_value (λ r. refl) small λ n h. let l : n < 2 ^ 32 = few n h in (omega arith, omega arith)

-- two numbers, each below 2^16
module _ (a b : ℕ) (h : a < 65536) (k : b < 65536) where
  pair_value : value_of (packed_pair a b) ≡ a + b * 65536
  pair_value =
      let one : a % 65536 ≡ a = omega arith in
      let two : b % 65536 ≡ b = omega arith in
      omega arith

  low_kept : low_of (packed_pair a b) ≡ a
  low_kept = rw pair_value (omega arith)

  high_kept : high_of (packed_pair a b) ≡ b
  high_kept = rw pair_value (omega arith)

  pair_fits : packed_pair a b < 2 ^ 32
  pair_fits = omega (arith, pair_value)

counted_kept : {m : Check Counted} → Within (λ a. (a.count ≤ 65535) × (a.live ≤ 32)) m → Kept unpacked_counted packed_counted m
counted_kept = kept counted_of packed_counted (λ r. refl) given_small λ a h.
    let c : a.count < 65536 = omega arith in
    let l : a.live < 65536 = omega arith in
    ((λ i. record { count = low_kept a.count a.live c l i; live = high_kept a.count a.live c l i }), pair_fits a.count a.live c l)

moved_kept : {m : Check Moved} → Within (λ n. (n.first ≤ 4096) × (n.second ≤ 4096)) m → Kept unpacked_moved packed_moved m
moved_kept = kept moved_of packed_moved (λ r. refl) given_small λ n h.
    let f : n.first < 65536 = omega arith in
    let s : n.second < 65536 = omega arith in
    ((λ i. record { first = low_kept n.first n.second f s i; second = high_kept n.first n.second f s i }), pair_fits n.first n.second f s)

pub read_device_kept : ReadDeviceKept
read_device_kept device = value_kept given_small (λ n h. omega arith) (read_device_within device)

pub read_program_kept : ReadProgramKept
read_program_kept program = read_kept (read_program_within program)

pub check_kept : CheckKept
check_kept device program job = counted_kept (check_within device program job)

pub route_kept : RouteKept
route_kept device job occupancy a b buffer = value_kept given_small (λ n h. omega arith) (route_within device job occupancy a b buffer)

pub run_kept : RunKept
run_kept device first second schedule records map = moved_kept (run_within device first second schedule records map)

pub write_listing_kept : WriteListingKept
write_listing_kept program buffer bytes = value_kept given_small (λ n h. omega arith) (write_listing_within program buffer bytes)

pub read_listing_kept : ReadListingKept
read_listing_kept text buffer = value_kept listing_small (λ n h. omega arith) (read_listing_within text buffer)
