-- What a step tells and does, in the document's terms.
use Rattle.std.specs.Prelude.{ℕ, Result, Ok, Err}
use Rattle.answers.specs.declared.Fault.{Fault}
use Rattle.answers.specs.Check.{number_of}
use Rattle.rules.specs.Syntax.{device}
use Rattle.rules.specs.Slots as slots
use Rattle.rules.specs.Slots.{quiet, takes, gives, merges}
use Rattle.rules.specs.Machine as machine
use Rattle.steps.specs.declared.Act.{Act}
use Rattle.steps.specs.declared.Act.TheVariants.{Quiet, Takes, Gives}
use Rattle.steps.specs.declared.Record.{Record}
use Rattle.steps.specs.declared.Effect.{Effect}
use Rattle.steps.specs.declared.Stepped.{Stepped}

-- nothing changes: a code and 0
abbrev pub stuck : ℕ → ℕ → Stepped
stuck code o = record { «record» = record { code = code; edges = 0; offset = o }; act = Quiet }

-- the item at the offset o moved: 0 and its edges; or it is stuck: its reason's number and 0
abbrev pub told : Result Effect Fault → ℕ → Stepped
told (Ok e) o = record { «record» = record { code = 0; edges = e.edges; offset = o }; act = e.act }
told (Err reason) o = stuck (number_of reason) o

-- the job is at its end
abbrev pub finished : Stepped
finished = stuck 1 65535

-- a move with no edges that does nothing to the map
abbrev pub silent : Effect
silent = record { edges = 0; act = Quiet }

-- the act as the code has it: how a location was prepared does not show on the map, nor does a merge
abbrev pub act_of : slots.Act device → Act
act_of quiet = Quiet
act_of (takes q l) = Takes (record { 0 = l.no })
act_of (gives l) = Gives (record { 0 = l.no })
act_of (merges b l e k) = Quiet

abbrev pub record_of : machine.Record → Record
record_of r = record { code = r.code; edges = r.edges; offset = r.offset }
