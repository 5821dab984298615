-- A call on a run from its steps.
use Rattle.std.proofs.Common.{◌≡◌, ℕ, ◌≢◌, List, set, Err, sym, refl, ap, arith}
use Rattle.std.proofs.lemmas.List.{get_or-set_other}
use Rattle.rules.specs.Runs.{Call, refused}
use Rattle.run.specs.declared.faults.RunFault.{RunFault}
use Rattle.run.specs.declared.faults.RunFault.TheVariants.{AlreadyStarted, NotRunning}
use Rattle.run.specs.declared.phase.ActorRecord.{ActorRecord}
use Rattle.run.specs.declared.sheet_run.Run.{Run}
use Rattle.run.specs.Numbers.{fault_number}
use Rattle.run.specs.Records.{idle}
use Rattle.run.specs.Views.{Steps, SameBut}
use Rattle.run.specs.Called.{sheet_of, Suits, Called}

-- a refused call changes nothing
pub refused_call : (r : Run) (c : Call) (f : RunFault) → Suits c f → Steps (sheet_of r) c (refused (fault_number f)) r.records r.order.rows r.records r.order.rows →
    Called r c (Err f) r
refused_call r c f suits steps = record { graph = refl; steps = steps; leaves = (refl, refl); suits = suits }

-- one record is written
pub same_but : (records : List ActorRecord) (a : ℕ) (r : ActorRecord) → SameBut a records (set records a r)
same_but records a r b other = get_or-set_other records a b r idle other

-- the two faults with one number differ from each other and from all others
pub again_not_idle : AlreadyStarted ≢ NotRunning
again_not_idle e = let z : ◌≡◌ {A = ℕ} 0 1 = cc in omega arith

pub idle_not_again : NotRunning ≢ AlreadyStarted
idle_not_again e = again_not_idle (sym e)

pub other_number : (f g : RunFault) → fault_number f ≢ fault_number g → f ≢ g
other_number f g differ e = differ (ap fault_number e)
