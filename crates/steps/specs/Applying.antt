-- What an act does to the map that the code has: the map is the rules' occupancy after the act.
use Rattle.std.specs.Prelude.{List, ◌≡◌, ℕ, ◌<◌, length}
use Rattle.rules.specs.Syntax.{device}
use Rattle.rules.specs.Slots as slots
use Rattle.rules.specs.Slots.{quiet, takes, gives, merges}
use Rattle.rules.specs.Run.{written}
use Rattle.steps.specs.declared.Act.{Act}
use Rattle.steps.specs.Performing.{Maps}
use Rattle.steps.specs.Told.{act_of}

-- a location that is taken is one of the n; one that is given back may be any, since past the n the map has 0 anyway
abbrev pub Within : ℕ → slots.Act device → Type 0
Within n quiet = Unit {0}
Within n (takes q l) = l.no < n
Within n (gives l) = Unit {0}
Within n (merges b l e k) = Unit {0}

abbrev pub Applies : Act → ℕ → List ℕ → List ℕ → Type 0
Applies act j before after =
    (a : slots.Act device) (occupancy : List ℕ) → act_of a ≡ act → Within (length occupancy) a → Maps before occupancy
    → Maps after (written j a occupancy)
