-- The trips of a listing, closed: the four bridges give the three facts that the theorems of Reading.antt ask for.
use Rattle.trips.specs.Trips.{RoundTrip, OnlyListings, BothTrips, OneProgram, OneListing, Short, Refuses}
use Rattle.trips.proofs.Reading as reading
use Rattle.trips.proofs.Reading.{Forth, Back}
use Rattle.trips.proofs.Offered.{proper_lines}
use Rattle.trips.proofs.Raw as raw
use Rattle.trips.proofs.Running.{runs}
use Rattle.trips.proofs.Completing.{runs_back}
use Rattle.trips.proofs.Readback.{reads_back}
use Rattle.trips.proofs.Parsed.{reads}
use Rattle.trips.proofs.Lengths as lengths

forth : Forth
forth = raw.forth reads runs

back : Back
back = raw.back reads_back runs_back

pub round_trip : RoundTrip
round_trip = reading.round_trip proper_lines forth back

pub only_listings : OnlyListings
only_listings = reading.only_listings proper_lines forth back

pub both_trips : BothTrips
both_trips t s = (only_listings t s, λ h. round_trip s t h.0 h.1)

pub one_program : OneProgram
one_program = reading.one_program proper_lines forth back

pub one_listing : OneListing
one_listing t s h =
    let l = only_listings t s h in
    (l.0, l.1, λ z y k. one_program z s t y l.0 k l.1)

pub refuses : Refuses
refuses = reading.refuses proper_lines forth back

pub short : Short
short = lengths.short
