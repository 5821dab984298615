-- A plan that holds no sheet has no actors and no objects.
use Rattle.std.proofs.Common.{◌≡◌, zero, false, List, [], ◌∷◌, ◌++◌, length, vec_items, sym, refl, ◌∙◌, arith}
use Rattle.rules.specs.declared.sheet.Layer.{Layer}
use Rattle.rules.specs.declared.sheet.Actor.{Actor}
use Rattle.rules.specs.declared.sheet.Link.{Link}
use Rattle.rules.specs.Sheets.{Sheet, actor_count}
use Rattle.rules.specs.Drafts.{sheet}
use Rattle.rules.specs.Objects.{areas, buffers, object_count}
use Rattle.graph.specs.declared.stage.Stage.{Stage}
use Rattle.graph.specs.declared.stage.Stage.TheVariants.{Blank, Machined, Ruled}
use Rattle.graph.specs.Stages.{is_ruled}
use Rattle.graph.specs.Taking.{draft_from}
use Rattle.planner.specs.declared.plan.Plan.{Plan}
use Rattle.planner.specs.Plans.{HasNone}
use Rattle.planner.specs.Replies.{sheet_of}

-- where no sheet is held, machine and fit are not both there
unruled : (stage : Stage) (layers : List Layer) (actors : List Actor) (links : List Link) → ((s : Sheet) → draft_from stage layers actors links ≡ sheet s → ⊥) →
    is_ruled stage ≡ false
unruled Blank layers actors links none = refl
unruled (Machined m) layers actors links none = refl
unruled (Ruled m f) layers actors links none = absurd (none (record { machine = m; fit = f; layers = layers; actors = actors; links = links }) refl)

-- nobody and nothing linked make no objects
no_objects : (actors : List Actor) (links : List Link) → length actors ≡ 0 → length links ≡ 0 → length (areas zero actors ++ buffers links) ≡ 0
no_objects [] [] a l = refl
no_objects [] (k ∷ ks) a l = absurd (omega (arith, l))
no_objects (x ∷ xs) links a l = absurd (omega (arith, a))

module _ (p : Plan) (none : HasNone p) where
  unheaded : is_ruled p.graph.sheet.stage ≡ false
  unheaded = let r = p.graph.sheet in unruled r.stage (vec_items r.layers) (vec_items r.actors) (vec_items r.links.list) none

  pub nobody_read : actor_count (sheet_of p) ≡ 0
  nobody_read = sym p.graph.sheet.actors.ok.0 ∙ (p.graph.sheet.headed unheaded).1

  pub nothing_read : object_count (sheet_of p) ≡ 0
  nothing_read =
      let r = p.graph.sheet in
      no_objects (vec_items r.actors) (vec_items r.links.list) nobody_read (sym r.links.list.ok.0 ∙ r.peopled (r.headed unheaded).1)
