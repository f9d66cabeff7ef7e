-- What the answers about listings stay within. A listing is short by `Short`, a program that has one by its reading. What stands before 27's place begins a
-- listing, so the place is no further in than a listing goes.
use mathlib.Core.Bool.{Bool, true, false}
use mathlib.Core.List.{List, ◌++◌}
use mathlib.Core.Path.{◌≡◌, refl, ap, subst}
use native.Mathlib.Omega.{arith}
use Prim.Native.Nat.{ℕ, ◌≤◌}
use lib.Dec.{leb}
use lib.ListN.{length, length-append}
use Rattle.answers.specs.Check.{Check, ok, refused, refusal, in_file, ◌>>=◌, ◌>>◌, need, within}
use Rattle.answers.specs.declared.File.TheVariants.{Listing, Program}
use Rattle.answers.specs.declared.Refusal.{Refusal}
use Rattle.rules.specs.Words.{Text}
use Rattle.rules.specs.Listing.{listing}
use Rattle.rules.specs.Unlisting.{unlisted}
use Rattle.rules.specs.Promises.{copied}
use Rattle.theory.specs.Bounds.{WithinBy, Within, value, refusal as refused-within}
use Rattle.theory.proofs.BoundsLaws.{bind_within, Any, given, known_within, file_within}
use Rattle.theory.proofs.BoundsRead.{program_within}
use Rattle.trips.specs.Trips.{Bytes, Begins, Stops, at_line, at_end}
use Rattle.trips.specs.Bounds.{GivenListing, WriteListingWithin, ReadListingWithin}
use Rattle.trips.proofs.Reading.{listing_of}
use Rattle.trips.proofs.Parsed.{reads}
use Rattle.trips.proofs.Listings.{only_listings, refuses, short}

-- what is copied where it fits, else 24
copied_within : {G : Refusal → Type 0} {P : ℕ → Type 0} (buffer : List ℕ) → G (refusal 24 0)
    → {m : Check (List ℕ)} → WithinBy G (λ t. P (length t)) m
    → WithinBy G P (copied buffer (m >>= λ t. need (leb (length t) (length buffer)) 24 0 >> ok t)).answer
unfolding ◌>>=◌ ◌>>◌
copied_within {G} {P} buffer full (value {a = t} h) = go (leb (length t) (length buffer))
  where
    go : (b : Bool) → WithinBy G P (copied buffer (need b 24 0 >> ok t)).answer
    go true = value h
    go false = refused-within full
copied_within buffer full (refused-within h) = refused-within h

-- Writing

listing_within : (s : List ℕ) → Bytes s → Within (λ t. length t ≤ 65536) (listing s)
listing_within s y = go (known_within (bind_within (program_within s) λ p h. value tt))
  where
    go : {m : Check Text} → Within (λ t. Any t × (listing s ≡ ok t)) m → Within (λ t. length t ≤ 65536) m
    go (value {a = t} h) = value (short s t y h.1)
    go (refused-within h) = refused-within h

pub write_listing_within : WriteListingWithin
write_listing_within s buffer y =
    copied_within buffer (given 24 0 refl (omega arith)) (file_within (Program 0) (omega arith) (listing_within s y))

-- Reading

program_short : (s : List ℕ) (t : Text) → Bytes s → listing s ≡ ok t → length s ≤ 4096
program_short s t y h =
    let l = listing_of s t h in
    let r = reads s l.0 y l.1 in
    subst (λ (z : List ℕ). length z ≤ 4096) r.2 r.1.short

begins_short : (t : Text) → Begins t → length t ≤ 65536
begins_short t b = omega (arith, short b.0 (t ++ b.1) b.2 b.3, length-append t b.1)

stops_within : (t : Text) (x : ℕ) → Stops t x → x ≤ 65536
stops_within t x (at_line before line after e w o b n) = begins_short before b
stops_within t x (at_end b n) = begins_short t b

unlisted_within : (t : Text) → WithinBy GivenListing (λ s. length s ≤ 4096) (within Listing (unlisted t))
unlisted_within t = go (unlisted t) refl
  where
    go : (m : Check (List ℕ)) → unlisted t ≡ m → WithinBy GivenListing (λ s. length s ≤ 4096) (within Listing m)
    go (ok s) h = let l = only_listings t s h in value (program_short s t l.0 l.1)
    go (refused r) h =
        let q = refuses t r h in
        let number : r.number ≡ 27 = ap (λ (z : Refusal). z.number) q.1 in
        let place : r.place ≡ q.0 = ap (λ (z : Refusal). z.place) q.1 in
        let in_text : r.place ≤ 65536 = omega (arith, stops_within t q.0 q.2) in
        let g : GivenListing (in_file Listing r) = record { from_1 = omega arith; to_27 = omega arith; in_text = in_text; named = omega arith } in
        refused-within g

pub read_listing_within : ReadListingWithin
read_listing_within t buffer =
    copied_within buffer (record { from_1 = omega arith; to_27 = omega arith; in_text = omega arith; named = omega arith }) (unlisted_within t)
