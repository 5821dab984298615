-- What is printed is what the rules say.
use Rattle.std.proofs.Common.{◌≡◌, ℕ, ◌≤◌, Bool, true, false, List, ◌++◌, length, take, drop, Some, None, Ok, Err, Result, sym, ap, ◌∙◌, subst, arith}
use Rattle.std.proofs.lemmas.List.{take_all, take-append-le}
use Rattle.rules.specs.Sheets.{Sheet}
use Rattle.rules.specs.Objects.{object_count}
use Rattle.rules.specs.Fitting.{Rule}
use Rattle.rules.specs.Fabrics.{Meaning, fabric_of}
use Rattle.rules.specs.Layouts.{RunsOn, NoRoom}
use Rattle.rules.specs.Maps.{MapOf}
use Rattle.rules.specs.Reading.{Gives, accepted}
use Rattle.rules.specs.Refusals.{fault_line, Prints}
use Rattle.rules.proofs.Accepted.{accepted_texts_are_spellings}
use Rattle.rules.proofs.Validity.{valid_sheets_can_be_placed}
use Rattle.text.specs.declared.faults.TextFault.TheVariants.{TooLong, NoHeader, Malformed}
use Rattle.graph.specs.declared.faults.GraphFault.{GraphFault}
use Rattle.graph.specs.declared.faults.GraphFault.TheVariants.{Text, Refused}
use Rattle.graph.specs.Readings.{reported}
use Rattle.graph.specs.declared.faults.Refusal.TheVariants.{OutOfTurn, OffRange, Unknown, TooMany, EqualEnds, AcrossCores, Backward}
use Rattle.map.specs.Maps.{map_of}
use Rattle.planner.specs.declared.faults.JobFault.{JobFault}
use Rattle.planner.specs.declared.plan.Plan.{Plan}
use Rattle.planner.specs.Plans.{HasRead, Own, PlansBy, PlansOwn}
use Rattle.planner.specs.Printed.{printed}
use Rattle.planner.specs.Replies.{MapsInto}
use Rattle.planner.specs.Reports.{as_tabled, report_graph, report_of}
use Rattle.planner.proofs.OfGraph.{same_count}

-- a test does not come out both ways
pub never_both : (b : Bool) → b ≡ true → b ≡ false → ⊥
never_both b p q = let z : true ≡ false = sym p ∙ q in let k : ◌≡◌ {A = ℕ} 0 1 = cc in omega arith

take_front : (xs ys : List ℕ) (n : ℕ) → n ≡ length xs → take n (xs ++ ys) ≡ xs
take_front xs ys n e = let l : n ≤ length xs = omega (arith, e) in take-append-le n xs ys l ∙ take_all n xs (omega (arith, e))

-- a refused text
fault_prints : (text : List ℕ) (f : GraphFault) → Gives text (reported f) → Prints text (fault_line (as_tabled (report_graph f)))
fault_prints text (Text TooLong) given = Prints.badly_read 1 None given
fault_prints text (Text NoHeader) given = Prints.badly_read 2 (Some 1) given
fault_prints text (Text (Malformed at)) given = Prints.badly_read 3 (Some at) given
fault_prints text (Refused OutOfTurn at) given = Prints.badly_read 4 (Some at) given
fault_prints text (Refused OffRange at) given = Prints.badly_read 5 (Some at) given
fault_prints text (Refused Unknown at) given = Prints.badly_read 6 (Some at) given
fault_prints text (Refused TooMany at) given = Prints.badly_read 7 (Some at) given
fault_prints text (Refused EqualEnds at) given = Prints.badly_read 8 (Some at) given
fault_prints text (Refused AcrossCores at) given = Prints.badly_read 9 (Some at) given
fault_prints text (Refused Backward at) given = Prints.badly_read 10 (Some at) given

-- a sheet has at most 256 objects
few_objects : (p : Plan) (s : Sheet) → HasRead p s → object_count s ≤ 256
few_objects p s held = subst (λ n. n ≤ 256) (same_count p.graph s held) p.graph.sheet.objects.few

-- and runs on its own fabric
runs_on_its_own : (text : List ℕ) (s : Sheet) → Gives text (accepted s) → RunsOn s (fabric_of s.machine)
runs_on_its_own text s given = (valid_sheets_can_be_placed s ((accepted_texts_are_spellings text s).0 given).0).own_cores

module _ (text : List ℕ) (memory : ℕ) (p : Plan) where
  refused_by : (m : Meaning) (rule : Rule) (f : JobFault) → 256 ≤ memory → ((s : Sheet) → HasRead p s → Own s m rule) → PlansBy text m rule memory p (Err f) →
      Prints text (fault_line (as_tabled (report_of f)))
  refused_by m rule f enough own (PlansBy.badly_read {f = g} given none unplaced) = fault_prints text g given
  refused_by m rule f enough own (PlansBy.short_memory s given held short unplaced) =
      absurd (let few = few_objects p s held in omega (arith, few, short, enough))
  refused_by m rule f enough own (PlansBy.lacks_core s given held room lacks unplaced) =
      absurd (lacks (subst (λ n. RunsOn s n) (sym (own s held).fabric) (runs_on_its_own text s given)))
  refused_by m rule f enough own (PlansBy.no_gap {x} {b} s given held room on lacks unplaced) =
      Prints.without_room s rule b x given (own s held).fit (subst (λ n. NoRoom s n rule b x) (own s held).fabric lacks)

  -- where there is memory for any sheet, a refused one prints its fault
  pub refused_prints : (f : JobFault) → 256 ≤ memory → PlansOwn text memory p (Err f) → Prints text (printed (Err f) (text))
  refused_prints f enough o = refused_by o.fabric o.rule f enough o.own o.outcome

  map_prints : (m : Meaning) (rule : Rule) (before after : List ℕ) (r : Result ℕ JobFault) → 82358 ≤ length before →
      (p.layout.placed ≡ true → length (map_of p.layout) ≤ 82358) → ((s : Sheet) → HasRead p s → Own s m rule) → PlansBy text m rule memory p (Ok tt) →
      MapsInto p before after r → Prints text (printed r after)
  map_prints m rule before after r long few own (PlansBy.planned s given held room on placed) (MapsInto.unplaced not-placed same) =
      absurd (never_both p.layout.placed placed.placed not-placed)
  map_prints m rule before after r long few own (PlansBy.planned s given held room on placed) (MapsInto.short_memory is short same) =
      absurd (let most = few is in omega (arith, most, short, long))
  map_prints m rule before after r long few own (PlansBy.planned s given held room on placed) (MapsInto.written {end} is ends within stands) =
      subst (λ out. Prints text out)
      (sym (ap (take end) stands ∙ take_front (map_of p.layout) (drop end before) end ends))
      (Prints.as_map s rule (map_of p.layout) given (own s held).fit (subst (λ n. MapOf s n rule (map_of p.layout)) (own s held).fabric placed.map))

  -- where there is memory for any map, an accepted one prints its map
  pub mapped_prints : (before after : List ℕ) (r : Result ℕ JobFault) → 82358 ≤ length before →
      (p.layout.placed ≡ true → length (map_of p.layout) ≤ 82358) → PlansOwn text memory p (Ok tt) → MapsInto p before after r → Prints text (printed r after)
  mapped_prints before after r long few o maps = map_prints o.fabric o.rule before after r long few o.own o.outcome maps
