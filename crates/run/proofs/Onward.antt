-- What a list of calls led to, one call later.
use Rattle.std.proofs.Common.{ℕ, List, [], ◌∷◌, ◌++◌}
use mathlib.Core.Logic.{∥∥₁_map}
use Rattle.rules.specs.Sheets.{Sheet}
use Rattle.rules.specs.Runs.{State, Call, Answer, Step, Leads, stay, call, fresh}
use Rattle.run.specs.declared.phase.ActorRecord.{ActorRecord}
use Rattle.run.specs.Views.{Shows, Reachable, Steps}

pub leads_more : (s : Sheet) {st mid end : State} {cs : List Call} {c : Call} {a : Answer} → Leads s st cs mid → Step s mid c a end → Leads s st (cs ++ c ∷ []) end
leads_more s stay step = call step stay
leads_more s (call first rest) step = call first (leads_more s rest step)

-- a fresh run is reached by no call
pub reached_fresh : (s : Sheet) (records : List ActorRecord) (rows : List ℕ) → Shows s records rows (fresh s) → ∥ Reachable s records rows ∥₁
reached_fresh s records rows sh = ∣ record { calls = []; state = fresh s; reached = stay; shows = sh } ∣₁

-- what a call leads to is reached
pub goes_on : (s : Sheet) (c : Call) (a : Answer) (records : List ActorRecord) (rows : List ℕ) (records' : List ActorRecord) (rows' : List ℕ) →
    ∥ Reachable s records rows ∥₁ → Steps s c a records rows records' rows' → ∥ Reachable s records' rows' ∥₁
goes_on s c a records rows records' rows' known steps = ∥∥₁_map {B = Reachable s records' rows'} known on
  where
    on : Reachable s records rows → Reachable s records' rows'
    on r =
        let next = steps r.state r.shows in
        record { calls = r.calls ++ c ∷ []; state = next.0; reached = leads_more s r.reached next.1; shows = next.2 }
