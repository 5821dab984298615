-- Which states a run shows, and what a call does to them.
use Rattle.std.specs.Prelude.{◌≡◌, ℕ, ◌<◌, Bool, true, false, ◌≢◌, ◌⊎◌, ◌↔◌, List, slice_index_or}
use Rattle.rules.specs.declared.memory.Object.{Object}
use Rattle.rules.specs.Sheets.{Sheet, actor_count}
use Rattle.rules.specs.Runs.{Phase, State, Ahead, Call, Answer, Step, Reached, waiting, finished, start, finish, order, round, granted, refused}
use Rattle.graph.specs.Rows.{before}
use Rattle.run.specs.declared.phase.ActorRecord.{ActorRecord}
use Rattle.run.specs.Records.{idle, phases_of, phase_in}

-- the state's phases are the records', and its order is the table's
pub record Shows (s : Sheet) (records : List ActorRecord) (rows : List ℕ) (st : State) : Type 0 where
  pub phases : st.phases ≡ phases_of (actor_count s) records
  pub order : (a b : ℕ) → (before rows a b ≡ true) ↔ Ahead s st a b

-- some list of calls leads from the fresh run to a state that is shown
pub record Reachable (s : Sheet) (records : List ActorRecord) (rows : List ℕ) : Type 0 where
  pub calls : List Call
  pub state : State
  pub reached : Reached s calls state
  pub shows : Shows s records rows state

-- from every state that is shown, the call leads with this answer to one that is shown afterwards
abbrev pub Steps : Sheet → Call → Answer → List ActorRecord → List ℕ → List ActorRecord → List ℕ → Type 0
Steps s c a records rows records' rows' =
    (st : State) → Shows s records rows st → (st' : State) × Step s st c a st' × Shows s records' rows' st'

-- records are the same but for that of actor a
abbrev pub SameBut : ℕ → List ActorRecord → List ActorRecord → Type 0
SameBut a records records' = (b : ℕ) → b ≢ a → slice_index_or records' b idle ≡ slice_index_or records b idle

-- what a call leaves as it is: a refused one all, a granted one all that it is not about
abbrev pub Leaves : Answer → Call → List ActorRecord → List ℕ → List ActorRecord → List ℕ → Type 0
Leaves (refused n) c records rows records' rows' = (records' ≡ records) × (rows' ≡ rows)
Leaves granted (start a) records rows records' rows' = SameBut a records records' × (rows' ≡ rows)
Leaves granted (finish a) records rows records' rows' = SameBut a records records' × (rows' ≡ rows)
Leaves granted (order a b) records rows records' rows' = records' ≡ records
Leaves granted round records rows records' rows' = rows' ≡ rows

-- a test's result tells whether P
abbrev pub Tells : Bool → Type 0 → Type 0
Tells true P = P
Tells false P = P → ⊥

-- every actor before a is finished, or one is not
abbrev pub Free : Sheet → List ActorRecord → List ℕ → ℕ → Bool → Type 0
Free s records rows a true = (b : ℕ) → before rows b a ≡ true → phase_in s records b ≡ finished
Free s records rows a false = (b : ℕ) × (before rows b a ≡ true) × (phase_in s records b ≢ finished)

-- every actor is finished, or one is not
abbrev pub Over : Sheet → List ActorRecord → Bool → Type 0
Over s records true = (a : ℕ) → a < actor_count s → phase_in s records a ≡ finished
Over s records false = (a : ℕ) × (a < actor_count s) × (phase_in s records a ≢ finished)

-- an ordering of a before b comes late by their phases, or does not
abbrev pub Late : Phase → Phase → Bool → Type 0
Late a b true = (b ≢ waiting) × (a ≢ finished)
Late a b false = b ≢ waiting → a ≢ finished → ⊥

-- an object is live by the phases of its first and last actor
abbrev pub Lives : Sheet → List ActorRecord → Object → Type 0
Lives s records o = (o.delayed ≡ true) ⊎ ((phase_in s records o.producer ≢ waiting) × (phase_in s records o.consumer ≢ finished))
