-- What is known of the sheet that is held.
use Rattle.std.proofs.Common.{◌≡◌, ℕ, ◌≤◌, true, ◌↔◌, List, vec_items, sym, ap, ◌∙◌, arith}
use Rattle.rules.specs.declared.sheet.Layer.{Layer}
use Rattle.rules.specs.declared.sheet.Actor.{Actor}
use Rattle.rules.specs.declared.sheet.Link.{Link}
use Rattle.rules.specs.Sheets.{Sheet, actor_count}
use Rattle.rules.specs.Drafts.{Draft, nothing, machined, sheet}
use Rattle.rules.specs.Objects.{objects}
use Rattle.rules.specs.Order.{Before}
use Rattle.graph.specs.declared.stage.Stage.{Stage}
use Rattle.graph.specs.declared.stage.Stage.TheVariants.{Blank, Machined, Ruled}
use Rattle.graph.specs.declared.read_sheet.ReadSheet.{ReadSheet}
use Rattle.graph.specs.Rows.{before}
use Rattle.graph.specs.Taking.{draft_from}
use Rattle.graph.specs.Stages.{is_ruled}
use Rattle.graph.specs.Readings.{Holds, Empty}
use Rattle.graph.specs.Held.{machine_held, fit_held, sheet_held}
use Rattle.graph.proofs.Ties.{told}

-- how far a draft has come
abbrev step : Draft → ℕ
step nothing = 0
step (machined m) = 1
step (sheet s) = 2

-- the sheet of a draft, another where it is none
abbrev sheet_in : Sheet → Draft → Sheet
sheet_in other nothing = other
sheet_in other (machined m) = other
sheet_in other (sheet s) = s

-- what is held of a whole sheet is that sheet
held_parts : (stage : Stage) (layers : List Layer) (actors : List Actor) (links : List Link) (s : Sheet) → draft_from stage layers actors links ≡ sheet s →
    ◌≡◌ {A = Sheet} (record { machine = machine_held stage; fit = fit_held stage; layers = layers; actors = actors; links = links }) s
held_parts Blank layers actors links s e = absurd (let z : ◌≡◌ {A = ℕ} 0 2 = ap step e in omega arith)
held_parts (Machined m) layers actors links s e = absurd (let z : ◌≡◌ {A = ℕ} 1 2 = ap step e in omega arith)
held_parts (Ruled m f) layers actors links s e = ap (sheet_in s) e

pub held_is : (r : ReadSheet) (s : Sheet) → Holds r s → sheet_held r ≡ s
held_is r s e = held_parts r.stage (vec_items r.layers) (vec_items r.actors) (vec_items r.links.list) s e

-- the objects that are kept are those of the sheet
pub objects_of_held : (r : ReadSheet) → vec_items r.objects.list ≡ objects (sheet_held r)
objects_of_held r = r.listed

-- the table that is kept holds the sheet's order
pub order_of_held : (r : ReadSheet) (a b : ℕ) → (before r.links.order.rows a b ≡ true) ↔ Before (sheet_held r) a b
order_of_held r a b = (told r.links.order.rows (vec_items r.links.list) r.links.meant a b, r.links.heard a b)

-- it has at most 64 actors
pub few_held : (r : ReadSheet) → actor_count (sheet_held r) ≤ 64
few_held r = omega (arith, r.few, r.actors.ok.0)

-- where nothing was read it has none
pub nobody_held : (r : ReadSheet) → Empty r → actor_count (sheet_held r) ≡ 0
nobody_held r e = sym r.actors.ok.0 ∙ (r.headed (ap is_ruled e)).1
