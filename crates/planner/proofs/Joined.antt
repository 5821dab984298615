-- Reading, then placing.
use Rattle.std.proofs.Common.{◌≡◌, ℕ, false, List, Ok, Err, Result, sym, ap, ◌∙◌, subst}
use Rattle.rules.specs.Sheets.{Sheet}
use Rattle.rules.specs.Fitting.{Rule}
use Rattle.rules.specs.Fabrics.{Meaning}
use Rattle.rules.specs.Reading.{Gives, accepted}
use Rattle.graph.specs.Readings.{Holds}
use Rattle.graph.proofs.Heads.{held_once}
use Rattle.planner.specs.declared.faults.JobFault.{JobFault}
use Rattle.planner.specs.declared.plan.Plan.{Plan}
use Rattle.planner.specs.Plans.{HasRead, ReadsInto, reads, refuses, PlacesBy, PlacesOwn, PlansBy, PlansOwn}

-- a refused text is a refused plan
pub badly : (text : List ℕ) (m : Meaning) (rule : Rule) (memory : ℕ) (after : Plan) (f : JobFault) → ReadsInto text after (Err f) → after.layout.placed ≡ false →
    PlansBy text m rule memory after (Err f)
badly text m rule memory after f (refuses given none) unplaced = PlansBy.badly_read given none unplaced

module _ (text : List ℕ) (m : Meaning) (rule : Rule) (memory : ℕ) (mid after : Plan) (s : Sheet) (held : HasRead mid s) (given : Gives text (accepted s)) (unplaced : mid.layout.placed ≡ false) where
  is_given : (t : Sheet) → HasRead mid t → Gives text (accepted t)
  is_given t h = subst (λ u. Gives text (accepted u)) (held_once mid.graph.sheet s t held h) given

  joined : (r : Result Unit JobFault) → PlacesBy m rule memory mid after r → PlansBy text m rule memory after r
  joined r (PlacesBy.none_read none same) = absurd (none s held)
  joined r (PlacesBy.short_memory t h short same) =
      PlansBy.short_memory t (is_given t h) (subst (λ p. HasRead p t) (sym same) h) short (ap (λ p. p.layout.placed) same ∙ unplaced)
  joined r (PlacesBy.lacks_core t h room lacks same) =
      PlansBy.lacks_core t (is_given t h) (subst (λ p. HasRead p t) (sym same) h) room lacks (ap (λ p. p.layout.placed) same ∙ unplaced)
  joined r (PlacesBy.no_gap t h room on lacks same not-placed) =
      PlansBy.no_gap t (is_given t h) (subst (λ g. Holds g.sheet t) (sym same) h) room on lacks not-placed
  joined r (PlacesBy.places t h room on placed same) =
      PlansBy.planned t (is_given t h) (subst (λ g. Holds g.sheet t) (sym same) h) room on placed

-- what was read is placed
pub read_placed : (text : List ℕ) (m : Meaning) (rule : Rule) (memory : ℕ) (mid after : Plan) (r : Result Unit JobFault) → ReadsInto text mid (Ok tt) → mid.layout.placed ≡ false →
    PlacesBy m rule memory mid after r → PlansBy text m rule memory after r
read_placed text m rule memory mid after r (reads s held given) unplaced p = joined text m rule memory mid after s held given unplaced r p

-- placing leaves the graph
pub graph_stays : (m : Meaning) (rule : Rule) (memory : ℕ) (before after : Plan) (r : Result Unit JobFault) → PlacesBy m rule memory before after r → after.graph ≡ before.graph
graph_stays m rule memory before after r (PlacesBy.none_read none same) = ap (λ p. p.graph) same
graph_stays m rule memory before after r (PlacesBy.short_memory t h short same) = ap (λ p. p.graph) same
graph_stays m rule memory before after r (PlacesBy.lacks_core t h room lacks same) = ap (λ p. p.graph) same
graph_stays m rule memory before after r (PlacesBy.no_gap t h room on lacks same not-placed) = same
graph_stays m rule memory before after r (PlacesBy.places t h room on placed same) = same

-- a refused text is a refused plan, whatever the rule and the fabric
pub badly_own : (text : List ℕ) (m : Meaning) (rule : Rule) (memory : ℕ) (after : Plan) (f : JobFault) → ReadsInto text after (Err f) → after.layout.placed ≡ false →
    PlansOwn text memory after (Err f)
badly_own text m rule memory after f (refuses given none) unplaced =
    record { fabric = m; rule = rule; own = λ s held. absurd (none s held); outcome = PlansBy.badly_read given none unplaced }

-- what was read is placed by its own rule on its own fabric
pub read_placed_own : (text : List ℕ) (memory : ℕ) (mid after : Plan) (r : Result Unit JobFault) → ReadsInto text mid (Ok tt) → mid.layout.placed ≡ false →
    PlacesOwn memory mid after r → PlansOwn text memory after r
read_placed_own text memory mid after r read unplaced p =
    record {
      fabric = p.fabric;
      rule = p.rule;
      own = λ s held. p.own s (subst (λ g. Holds g.sheet s) (graph_stays p.fabric p.rule memory mid after r p.outcome) held);
      outcome = read_placed text p.fabric p.rule memory mid after r read unplaced p.outcome;
    }
