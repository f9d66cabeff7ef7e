-- The cases at the limit hold: the two definitions, computed. Each is a fact of its own, for each takes seconds.
use mathlib.Core.Path.{◌≡◌, refl}
use lib.ListN.{length}
use Rattle.answers.specs.Check.{ok, ◌>>=◌, ◌>>◌}
use Rattle.rules.specs.Listing.{listing}
use Rattle.rules.specs.Unlisting.{unlisted}
use Rattle.trips.specs.Limits.{longest, NoCall, NoStatement, OnlyFree, NoInit, NoThen}
use Rattle.trips.proofs.Listings.{only_listings}

pub longest_length : length longest.file ≡ 4096
longest_length = refl

pub longest_read : unlisted longest.text ≡ ok longest.file
unfolding ◌>>=◌ ◌>>◌
longest_read = refl

-- so it has this listing, by the theorem: to compute it from the file takes a minute
pub longest_listed : listing longest.file ≡ ok longest.text
longest_listed = (only_listings longest.text longest.file longest_read).1

pub no_call : NoCall
unfolding ◌>>=◌ ◌>>◌
no_call = refl

pub no_statement : NoStatement
unfolding ◌>>=◌ ◌>>◌
no_statement = refl

pub only_free : OnlyFree
unfolding ◌>>=◌ ◌>>◌
only_free = refl

pub no_init : NoInit
unfolding ◌>>=◌ ◌>>◌
no_init = refl

pub no_then : NoThen
unfolding ◌>>=◌ ◌>>◌
no_then = refl
