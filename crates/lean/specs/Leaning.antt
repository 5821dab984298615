-- What asking for the lean order answers.
use Rattle.std.specs.Prelude.{◌≡◌, ℕ, ◌<◌, ◌≤◌, ◌⊎◌, List, [], length, take, drop, Ok, Err, Result}
use Rattle.rules.specs.Sheets.{Sheet, actor_count}
use Rattle.rules.specs.Lean.{Lean, Peak}
use Rattle.graph.specs.declared.read_sheet.ReadSheet.{ReadSheet}
use Rattle.graph.specs.Readings.{Holds}
use Rattle.lean.specs.declared.faults.LeanFault.{LeanFault}
use Rattle.lean.specs.declared.faults.LeanFault.TheVariants.{Empty, ShortMemory}
use Rattle.lean.specs.declared.lean_order.LeanPeak.{LeanPeak}
use Rattle.lean.specs.declared.ready.ReadyActor.{ReadyActor}

-- the lean order of the sheet and its peak: it stands at the front of the output, and the rest is as before
pub record ListsLeanly (s : Sheet) (before after : List ℕ) (answer : LeanPeak) : Type 0 where
  pub all : answer.actors ≡ actor_count s
  pub lean : Lean s (take answer.actors after)
  pub rest : drop answer.actors after ≡ drop answer.actors before
  pub peak : Peak s (take answer.actors after) answer.peak

-- the lean order of the sheet that is held is asked for, with memory and output lent, or refused for the reason that comes first;
-- every sheet that a text is accepted as has an actor
pub data Leans (held : ReadSheet) (slots slots' : List ReadyActor) (before after : List ℕ) : Result LeanPeak LeanFault → Type 0 where
  none_held : ((s : Sheet) → Holds held s → s.actors ≡ []) → slots' ≡ slots → after ≡ before → Leans held slots slots' before after (Err Empty)
  short_memory : (s : Sheet) → Holds held s → 0 < actor_count s → (length slots < actor_count s) ⊎ (length before < actor_count s) →
      slots' ≡ slots → after ≡ before → Leans held slots slots' before after (Err ShortMemory)
  lists : {answer : LeanPeak} (s : Sheet) → Holds held s → 0 < actor_count s → actor_count s ≤ length slots → actor_count s ≤ length before →
      ListsLeanly s before after answer → Leans held slots slots' before after (Ok answer)
