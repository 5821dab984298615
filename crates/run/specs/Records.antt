-- The records of a run, as phases of actors.
use Rattle.std.specs.List.{list_all}
use Rattle.std.specs.Prelude.{ℕ, Bool, true, false, zero, suc, List, [], ◌∷◌, slice_index_or}
use Rattle.rules.specs.Sheets.{Sheet, actor_count}
use Rattle.rules.specs.Runs as runs
use Rattle.run.specs.declared.phase.Phase.{Phase}
use Rattle.run.specs.declared.phase.Phase.TheVariants.{Waiting, Running, Finished}
use Rattle.run.specs.declared.phase.ActorRecord.{ActorRecord}

abbrev pub as_phase : Phase → runs.Phase
as_phase Waiting = runs.waiting
as_phase Running = runs.running
as_phase Finished = runs.finished

abbrev pub is_done : Phase → Bool
is_done Waiting = false
is_done Running = false
is_done Finished = true

-- whether the actors of all records are finished
abbrev pub are_done : List ActorRecord → Bool
are_done records = list_all (λ (r : ActorRecord). is_done r.phase) records

abbrev pub idle : ActorRecord
idle = record { phase = Waiting }

abbrev pub begun : ActorRecord
begun = record { phase = Running }

abbrev pub ended : ActorRecord
ended = record { phase = Finished }

-- the phases of the first n records
abbrev pub phases_of : ℕ → List ActorRecord → List runs.Phase
phases_of zero records = []
phases_of (suc n) [] = []
phases_of (suc n) (r ∷ records) = as_phase r.phase ∷ phases_of n records

-- the phase of actor a; one that the sheet has not is waiting
abbrev pub phase_in : Sheet → List ActorRecord → ℕ → runs.Phase
phase_in s records a = slice_index_or (phases_of (actor_count s) records) a runs.waiting
