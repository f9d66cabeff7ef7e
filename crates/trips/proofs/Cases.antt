-- The cases hold: the two definitions, computed.
use mathlib.Core.List.{◌∷◌, [], ◌++◌, map}
use mathlib.Core.Path.{◌≡◌, refl}
use lib.ListN.{length}
use Rattle.answers.specs.Check.{ok, refused, refusal, ◌>>=◌, ◌>>◌}
use Rattle.rules.specs.Words.{Text}
use Rattle.rules.specs.Listing.{listing}
use Rattle.rules.specs.Unlisting.{unlisted}
use Rattle.trips.specs.Cases.{lines, Pair, pairs, missing, not_in_main, Stop, stops}

pub pairs_listed : map (λ (c : Pair). listing c.file) pairs ≡ map (λ (c : Pair). ok c.text) pairs
unfolding ◌>>=◌ ◌>>◌
pairs_listed = refl

pub pairs_read : map (λ (c : Pair). unlisted c.text) pairs ≡ map (λ (c : Pair). ok c.file) pairs
unfolding ◌>>=◌ ◌>>◌
pairs_read = refl

pub missing_refused : map unlisted missing ≡ map (λ (t : Text). refused (refusal 27 (length t))) missing
unfolding ◌>>=◌ ◌>>◌
missing_refused = refl

pub not_in_main_lem : map (λ (t : Text). unlisted (lines ("program 1" ∷ "main" ∷ []) ++ t)) not_in_main
    ≡ map (λ (t : Text). refused (refusal 27 15)) not_in_main
unfolding ◌>>=◌ ◌>>◌
not_in_main_lem = refl

pub stops_refused : map (λ (c : Stop). unlisted c.text) stops ≡ map (λ (c : Stop). refused (refusal 27 c.place)) stops
unfolding ◌>>=◌ ◌>>◌
stops_refused = refl
