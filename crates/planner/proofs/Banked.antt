-- The total size of the live objects of a bank, object by object.
use Rattle.std.proofs.Common.{◌≡◌, ℕ, ◌<◌, Bool, true, false, cond, ◌&&◌, List, Some, None, Option, is_some, vec_items, sym, ap, ◌∙◌, subst}
use Rattle.std.specs.Option.{unwrap_or}
use Rattle.std.proofs.lemmas.Bool.{cond-true, cond-false}
use Rattle.rules.specs.declared.memory.Object.{Object}
use Rattle.rules.specs.Sheets.{Sheet}
use Rattle.rules.specs.Objects.{objects, object_count, size}
use Rattle.rules.specs.Runs.{State}
use Rattle.rules.specs.Lives.{Live}
use Rattle.rules.specs.Lean.{is_live}
use Rattle.rules.specs.Layouts.{Layout}
use Rattle.graph.specs.Questions.{SaysWhether}
use Rattle.graph.specs.Sizes.{size_at}
use Rattle.graph.proofs.Held.{objects_of_held}
use Rattle.run.specs.Called.{sheet_of as run_of, InState, SaysLive}
use Rattle.run.proofs.Summed.{live_test}
use Rattle.planner.specs.declared.plan.Plan.{Plan}
use Rattle.planner.specs.declared.plan_run.PlanRun.{PlanRun}
use Rattle.planner.specs.Replies.{sheet_of}
use Rattle.planner.proofs.OfGraph.{size_at_object}
use Rattle.planner.proofs.Runs.{same_sheet}

-- what is said of a known object is the test of the rules
known_live : (s : Sheet) (st : State) (x : ℕ) → x < object_count s → (o : Option Bool) → SaysWhether (x < object_count s) (Live s st x) o → unwrap_or o false ≡ is_live s st x
known_live s st x known None says = absurd (says known)
known_live s st x known (Some b) says = sym (live_test s st x b says)

pub said_live : (r : PlanRun) (x : ℕ) → x < object_count (sheet_of r.plan.now) → (o : Option Bool) → SaysLive r.run x o → (st : State) → InState r.run st →
    unwrap_or o false ≡ is_live (sheet_of r.plan.now) st x
said_live r x known o says st shows =
    subst (λ s. unwrap_or o false ≡ is_live s st x) (same_sheet r)
    (known_live (run_of r.run) st x (subst (λ s. x < object_count s) (sym (same_sheet r)) known) o (says st shows))

-- the size of an object that the plan holds
pub size_held : (p : Plan) (x : ℕ) → x < object_count (sheet_of p) → size_at (vec_items p.graph.sheet.objects.list) x ≡ size (sheet_of p) x
size_held p x known = ap (λ (os : List Object). size_at os x) (objects_of_held p.graph.sheet) ∙ size_at_object (objects (sheet_of p)) x known

module _ (s : Sheet) (st : State) (places : Layout) (b x : ℕ) where
  -- the size of object x, where it is live and has a place in the bank
  abbrev pub weight_in : ℕ
  weight_in = cond (is_live s st x && is_some (places b x)) (size s x) 0

  pub weight_inside : (is_live s st x && is_some (places b x)) ≡ true → weight_in ≡ size s x
  weight_inside e = cond-true (is_live s st x && is_some (places b x)) (size s x) 0 e

  pub weight_outside : (is_live s st x && is_some (places b x)) ≡ false → weight_in ≡ 0
  weight_outside e = cond-false (is_live s st x && is_some (places b x)) (size s x) 0 e
