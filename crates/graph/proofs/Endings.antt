-- What the end of a text finds.
use Rattle.std.proofs.Common.{◌≡◌, false, List, [], length, vec_items, vec_len, sym, refl, ap, ◌∙◌}
use Rattle.rules.specs.declared.sheet.Layer.{Layer}
use Rattle.rules.specs.declared.sheet.Actor.{Actor}
use Rattle.rules.specs.declared.sheet.Link.{Link}
use Rattle.rules.specs.Sheets.{Sheet}
use Rattle.rules.specs.Drafts.{actors_of}
use Rattle.rules.specs.Reading.{Complete}
use Rattle.graph.specs.declared.stage.Stage.{Stage}
use Rattle.graph.specs.declared.stage.Stage.TheVariants.{Blank, Machined, Ruled}
use Rattle.graph.specs.declared.read_sheet.ReadSheet.{ReadSheet}
use Rattle.graph.specs.Stages.{is_ruled}
use Rattle.graph.specs.Taking.{draft_from, draft_of}
use Rattle.std.proofs.lemmas.List.{nil_from_length}

none_yet : (stage : Stage) (layers : List Layer) (actors : List Actor) (links : List Link) → actors ≡ [] → (s : Sheet) → Complete (draft_from stage layers actors links) s → ⊥
none_yet Blank layers actors links none s c = let e = c.0 in cc
none_yet (Machined m) layers actors links none s c = let e = c.0 in cc
none_yet (Ruled m f) layers actors links none s c = c.1 (sym (ap actors_of c.0) ∙ none)

-- no actor: something is missing
pub incomplete : (r : ReadSheet) → vec_len r.actors ≡ 0 → (s : Sheet) → Complete (draft_of r) s → ⊥
incomplete r none =
    none_yet r.stage (vec_items r.layers) (vec_items r.actors) (vec_items r.links.list) (nil_from_length (vec_items r.actors) (sym r.actors.ok.0 ∙ none))

all_there : (stage : Stage) (layers : List Layer) (actors : List Actor) (links : List Link) → (is_ruled stage ≡ false → ⊥) → (actors ≡ [] → ⊥) → (s : Sheet) × Complete (draft_from stage layers actors links) s
all_there Blank layers actors links head some = absurd (head refl)
all_there (Machined m) layers actors links head some = absurd (head refl)
all_there (Ruled m f) layers actors links head some = (record { machine = m; fit = f; layers = layers; actors = actors; links = links }, (refl, some))

-- an actor: nothing is missing
pub complete : (r : ReadSheet) → (vec_len r.actors ≡ 0 → ⊥) → (s : Sheet) × Complete (draft_of r) s
complete r some =
    all_there r.stage (vec_items r.layers) (vec_items r.actors) (vec_items r.links.list) (λ e. some (r.headed e).1) (λ e. some (r.actors.ok.0 ∙ ap length e))
