-- The marked cases (P) hold: the promises, computed on each row's bytes, give the row's answer and final buffer.
use mathlib.Core.List.{map}
use mathlib.Core.Path.{◌≡◌, refl}
use Rattle.answers.specs.Check.{ok, ◌>>=◌, ◌>>◌}
use Rattle.rules.specs.Typing.{same_env}
use Rattle.rules.specs.Marked.{G, Case, answered, marked}
use Rattle.rules.specs.Promises.{read_device_of}

pub marked_cases : map (λ (c : Case). answered c.asked) marked ≡ map (λ (c : Case). c.answer) marked
unfolding ◌>>=◌ ◌>>◌ same_env
marked_cases = refl

-- and device G has its 2 rows of 3 locations
pub six_locations : read_device_of G ≡ ok 6
unfolding ◌>>=◌ ◌>>◌
six_locations = refl
