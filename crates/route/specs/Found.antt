-- What the search answers: in the document's numbers, and in terms of the route that the rules single out.
use Rattle.std.specs.Prelude.{List, Some, None, Result, Ok, Err, ◌≡◌, ℕ, ◌-◌, leb, length}
use Rattle.std.specs.Prelude as std
use Rattle.std.proofs.Math.Option.{Option, none, some}
use Rattle.answers.specs.Check.{Check, ok, refused, refusal, ◌>>=◌, ◌>>◌, need}
use Rattle.rules.specs.Commands.{need_route}
use Rattle.rules.specs.Promises.{Routed, route_written}
use Rattle.route.specs.declared.NoRoute.{NoRoute}
use Rattle.route.specs.declared.NoRoute.TheVariants.{NoPath, Short}

-- the number of edges of the route, if there is one
abbrev pub edges_of : Option (List ℕ) → std.Option ℕ
edges_of none = None
edges_of (some p) = Some (length p - 1)

-- the number of locations written, or 21 or 24, both at place 0 and in no file
abbrev pub found_said : Result ℕ NoRoute → Check ℕ
found_said (Ok n) = ok n
found_said (Err NoPath) = refused (refusal 21 0)
found_said (Err Short) = refused (refusal 24 0)

-- a route that fits a buffer of so many bytes: 21, then 24
unfoldable pub fitted : Option (List ℕ) → ℕ → Check (List ℕ)
fitted found room = do
  p ← need_route found 0
  need (leb (length p) room) 24 0
  ok p

-- an answer and the buffer's bytes at the end, in the promise's terms
abbrev pub said_of : Result ℕ NoRoute → List ℕ → Routed
said_of r buffer = record { answer = found_said r; buffer = buffer }

-- the answer to a search that has found this, and the buffer afterwards: the route is written where it fits, and else the buffer stays
pub record Answers (found : Option (List ℕ)) (before : List ℕ) (r : Result ℕ NoRoute) (after : List ℕ) : Type 0 where
  pub said : said_of r after ≡ route_written before (fitted found (length before))
