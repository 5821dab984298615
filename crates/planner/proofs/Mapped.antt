-- What is answered of a map.
use Rattle.std.proofs.Common.{◌≡◌, ℕ, true, List, Some, None, Option, Ok, Err, Result, sym, refl, subst, arith}
use Rattle.std.specs.Option.{ok_or}
use Rattle.map.specs.Maps.{map_of}
use Rattle.map.specs.Output.{Writes}
use Rattle.planner.specs.declared.plan.Plan.{Plan}
use Rattle.planner.specs.declared.faults.JobFault.{JobFault}
use Rattle.planner.specs.declared.faults.JobFault.TheVariants.{ShortMemory}
use Rattle.planner.specs.Replies.{MapsInto}

-- the map was written, or refused
pub maps_into : (p : Plan) (before after : List ℕ) (o : Option ℕ) (r : Result ℕ JobFault) → p.layout.placed ≡ true → Writes before (map_of p.layout) after o →
    r ≡ ok_or o ShortMemory → MapsInto p before after r
maps_into p before after None r placed w e = subst (MapsInto p before after) (sym e) (MapsInto.short_memory placed w.0 w.1)
maps_into p before after (Some end) r placed w e = subst (MapsInto p before after) (sym e) (MapsInto.written placed w.0 w.1 w.2)

-- an absent value is refused as the fault named
pub refused : {T E : Type 0} (o : Option T) (e f : E) → ok_or o e ≡ Err f → (o ≡ None) × (f ≡ e)
refused None e f q = (refl, cc)
refused (Some x) e f q = absurd (let z : ◌≡◌ {A = ℕ} 0 1 = cc in omega arith)

-- a value that was there
pub granted : {T E : Type 0} (o : Option T) (e : E) (x : T) → ok_or o e ≡ Ok x → o ≡ Some x
granted None e x q = absurd (let z : ◌≡◌ {A = ℕ} 0 1 = cc in omega arith)
granted (Some y) e x q = cc
