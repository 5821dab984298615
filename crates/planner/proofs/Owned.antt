-- The rule and the fabric of the sheet that is held.
use Rattle.std.proofs.Common.{◌≡◌, ◌≤◌, true, List, Some, vec_items, ap, ◌∙◌, subst}
use Rattle.rules.specs.declared.sheet.Machine.{Machine}
use Rattle.rules.specs.declared.sheet.Fit.{Fit}
use Rattle.rules.specs.declared.sheet.Fit.TheVariants.{First, Best}
use Rattle.rules.specs.declared.sheet.Layer.{Layer}
use Rattle.rules.specs.Sheets.{Sheet}
use Rattle.rules.specs.Fitting.{Rule, layered, may_layer}
use Rattle.rules.specs.Fabrics.{Meaning, fabric_of}
use Rattle.rules.specs.Refusals.{Named}
use Rattle.fit.specs.Sheets.{by_fit}
use Rattle.rules.proofs.Chosen.{first_takes_the_lowest, best_takes_the_tightest}
use Rattle.graph.specs.Stages.{head_of}
use Rattle.graph.proofs.Heads.{headed_holds, held_once, cores_headed}
use Rattle.planner.specs.declared.plan.Plan.{Plan}
use Rattle.planner.specs.Plans.{HasRead, Own}

named : (fit : Fit) → Named fit (by_fit fit)
named First = first_takes_the_lowest
named Best = best_takes_the_tightest

pub owned : (p : Plan) (h : Machine × Fit) → head_of p.graph.sheet.stage ≡ Some h → (layers : List Layer) → layers ≡ vec_items p.graph.sheet.layers →
    (m : Meaning) (rule : Rule) → (may_layer layers ≡ true → rule ≡ layered (by_fit h.1) layers) → (h.0.cores ≤ 8 → m ≡ fabric_of h.0) →
    (s : Sheet) → HasRead p s → Own s m rule
owned p h headed layers same m rule rule-is fabric-is s held =
    subst (λ t. Own t m rule)
    (held_once p.graph.sheet
    (record {
      machine = h.0;
      fit = h.1;
      layers = vec_items p.graph.sheet.layers;
      actors = vec_items p.graph.sheet.actors;
      links = vec_items p.graph.sheet.links.list;
    })
    s
    (headed_holds (vec_items p.graph.sheet.layers) (vec_items p.graph.sheet.actors) (vec_items p.graph.sheet.links.list) p.graph.sheet.stage h headed)
    held)
    (record {
      fabric = fabric-is (subst (λ n. n ≤ 8) (cores_headed p.graph.sheet.stage h headed) p.graph.sheet.cored);
      fit =
          record {
            base = by_fit h.1;
            named = named h.1;
            is = rule-is (ap may_layer same ∙ p.graph.sheet.layered) ∙ ap (layered (by_fit h.1)) same;
          };
    })
