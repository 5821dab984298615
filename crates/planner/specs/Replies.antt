-- What a plan answers to a question.
use Rattle.std.specs.Prelude.{◌≡◌, ℕ, ◌<◌, ◌≤◌, Bool, true, false, List, ◌++◌, length, drop, Ok, Err, Result}
use Rattle.rules.specs.Sheets.{Sheet}
use Rattle.graph.specs.Held.{sheet_held}
use Rattle.lean.specs.declared.faults.LeanFault.{LeanFault}
use Rattle.lean.specs.declared.lean_order.LeanPeak.{LeanPeak}
use Rattle.lean.specs.declared.ready.ReadyActor.{ReadyActor}
use Rattle.lean.specs.Leaning.{Leans}
use Rattle.map.specs.Maps.{map_of}
use Rattle.planner.specs.declared.faults.JobFault.{JobFault}
use Rattle.planner.specs.declared.faults.JobFault.TheVariants.{NoSheet, NoSuchPlace, ShortMemory, Unknown, Unplaced}
use Rattle.planner.specs.declared.plan.Plan.{Plan}
use Rattle.planner.specs.Reports.{fault_of_lean}
use Rattle.planner.specs.Plans.{HasNone, HasRead, PlansOwn}

-- the sheet that the plan holds; one without actors where it holds none
abbrev pub sheet_of : Plan → Sheet
sheet_of p = sheet_held p.graph.sheet

-- the test says whether it is so
abbrev pub Whether : Type 0 → Bool → Type 0
Whether So true = So
Whether So false = So → ⊥

-- a right answer where the numbers are known, and refused exactly where they are not
pub data Replies {X : Type 0} (Known : Type 0) (Right : X → Type 0) : Result X JobFault → Type 0 where
  told : {x : X} → Known → Right x → Replies Known Right (Ok x)
  unknown : (Known → ⊥) → Replies Known Right (Err Unknown)

-- the same of the places: first the plan has to be placed
pub data RepliesPlaced {X : Type 0} (p : Plan) (Known : Type 0) (value : X) : Result X JobFault → Type 0 where
  unplaced : p.layout.placed ≡ false → RepliesPlaced p Known value (Err Unplaced)
  no_such_place : p.layout.placed ≡ true → (Known → ⊥) → RepliesPlaced p Known value (Err NoSuchPlace)
  placed : p.layout.placed ≡ true → Known → RepliesPlaced p Known value (Ok value)

-- the map stands at the start of the memory, and what is behind it stays; or nothing is written
pub data MapsInto (p : Plan) (before after : List ℕ) : Result ℕ JobFault → Type 0 where
  unplaced : p.layout.placed ≡ false → after ≡ before → MapsInto p before after (Err Unplaced)
  short_memory : p.layout.placed ≡ true → length before < length (map_of p.layout) → after ≡ before → MapsInto p before after (Err ShortMemory)
  written : {end : ℕ} → p.layout.placed ≡ true → end ≡ length (map_of p.layout) → end ≤ length before → after ≡ map_of p.layout ++ drop end before →
      MapsInto p before after (Ok end)

-- a text is planned by its own rule on its own fabric, and its map is written; or it is refused, and nothing is written
pub data AnswersText (text : List ℕ) (memory : ℕ) (p : Plan) (before after : List ℕ) : Result ℕ JobFault → Type 0 where
  refused : {f : JobFault} → PlansOwn text memory p (Err f) → after ≡ before → AnswersText text memory p before after (Err f)
  mapped : {r : Result ℕ JobFault} → PlansOwn text memory p (Ok tt) → MapsInto p before after r → AnswersText text memory p before after r

-- a run is granted exactly where a sheet is held
pub data AsksRun (p : Plan) : Result Unit JobFault → Type 0 where
  granted : (s : Sheet) → HasRead p s → AsksRun p (Ok tt)
  no_sheet : HasNone p → AsksRun p (Err NoSheet)

-- the lean order of the sheet that is held, with its peak, or its refusal
pub data Lists (p : Plan) (slots slots' : List ReadyActor) (before after : List ℕ) : Result LeanPeak JobFault → Type 0 where
  refused : (f : LeanFault) → Leans p.graph.sheet slots slots' before after (Err f) → Lists p slots slots' before after (Err (fault_of_lean f))
  listed : {answer : LeanPeak} → Leans p.graph.sheet slots slots' before after (Ok answer) → Lists p slots slots' before after (Ok answer)
