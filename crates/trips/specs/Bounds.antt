-- What the answers about listings stay within, so that an export's packing keeps them whole. Writing refuses as reading a program does, and with 24; a
-- listing has at most 65,536 bytes. Reading refuses with 27, at a place of at most 65,536, and with 24; a program has at most 4,096 bytes.
use Rattle.std.specs.Prelude.{List, ℕ, ◌≤◌}
use Rattle.answers.specs.declared.Refusal.{Refusal}
use Rattle.rules.specs.Promises.{write_listing_of, read_listing_of}
use Rattle.theory.specs.Bounds.{job_named, WithinBy, Within}
use Rattle.trips.specs.Trips.{Bytes}

pub record GivenListing (r : Refusal) : Type 0 where
  pub from_1 : 1 ≤ r.number
  pub to_27 : r.number ≤ 27
  pub in_text : r.place ≤ 65536
  pub named : job_named r.file ≤ 2

abbrev pub WriteListingWithin : Type 0
WriteListingWithin = (program buffer : List ℕ) → Bytes program → Within (λ n. n ≤ 65536) (write_listing_of program buffer).answer

abbrev pub ReadListingWithin : Type 0
ReadListingWithin = (text buffer : List ℕ) → WithinBy GivenListing (λ n. n ≤ 4096) (read_listing_of text buffer).answer
