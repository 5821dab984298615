-- The laws of the lean order and its peak.
use Rattle.std.specs.Prelude.{◌≡◌, ℕ, ◌<◌, true, ◌↔◌, List}
use Rattle.rules.specs.Sheets.{Sheet, actor_count}
use Rattle.rules.specs.Order.{OrderedSheet}
use Rattle.rules.specs.Objects.{object_count}
use Rattle.rules.specs.Runs.{State, Finished, Grants, fresh}
use Rattle.rules.specs.Lives.{Live}
use Rattle.rules.specs.Lean.{Lean, one_by_one, is_live, Peak}

-- a sheet without a circle has exactly one lean order
pub record OneLeanOrder (s : Sheet) : Type 0 where
  pub listing : List ℕ
  pub is_lean : Lean s listing
  pub only : (other : List ℕ) → Lean s other → other ≡ listing

abbrev pub LeanOrderExistsOnce : Type 0
LeanOrderExistsOnce = (s : Sheet) → OrderedSheet s → OneLeanOrder s

-- when each of the listing starts, then finishes, every call is granted, and in the end every actor is finished
pub record RunsThrough (s : Sheet) (listing : List ℕ) : Type 0 where
  pub state : State
  pub all_granted : Grants s (fresh s) (one_by_one listing) state
  pub all_finished : (a : ℕ) → a < actor_count s → Finished state a

abbrev pub LeanListingsRun : Type 0
LeanListingsRun = (s : Sheet) (listing : List ℕ) → Lean s listing → RunsThrough s listing

-- the one peak of a listing
pub record OnePeak (s : Sheet) (listing : List ℕ) : Type 0 where
  pub peak : ℕ
  pub is_peak : Peak s listing peak
  pub only : (other : ℕ) → Peak s listing other → other ≡ peak

-- the lean listing of a sheet with an actor has exactly one peak
abbrev pub PeakExistsOnce : Type 0
PeakExistsOnce = (s : Sheet) → 0 < actor_count s → (listing : List ℕ) → Lean s listing → OnePeak s listing

-- the test of a live object is exact
abbrev pub LiveTestExact : Type 0
LiveTestExact = (s : Sheet) (st : State) (x : ℕ) → x < object_count s → (is_live s st x ≡ true) ↔ Live s st x
