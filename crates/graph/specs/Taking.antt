-- What was read so far, and what taking one more entry does.
use Rattle.std.specs.Prelude.{◌≡◌, ℕ, List, Some, None, Ok, Err, vec_items, Option, Result}
use Rattle.rules.specs.declared.sheet.Layer.{Layer}
use Rattle.rules.specs.declared.sheet.Actor.{Actor}
use Rattle.rules.specs.declared.sheet.Link.{Link}
use Rattle.rules.specs.declared.sheet.Entry.{Entry}
use Rattle.rules.specs.Lists.{Lowest}
use Rattle.rules.specs.Drafts.{Draft, nothing, machined, sheet, Free, Refuses, next}
use Rattle.graph.specs.declared.faults.Refusal.{Refusal}
use Rattle.graph.specs.declared.faults.Refusal.TheVariants.{OutOfTurn, OffRange, Unknown, TooMany, EqualEnds, AcrossCores, Backward}
use Rattle.graph.specs.declared.stage.Stage.{Stage}
use Rattle.graph.specs.declared.stage.Stage.TheVariants.{Blank, Machined, Ruled}
use Rattle.graph.specs.declared.read_sheet.ReadSheet.{ReadSheet}

-- the number of a refusal in the table
abbrev pub refusal_number : Refusal → ℕ
refusal_number OutOfTurn = 4
refusal_number OffRange = 5
refusal_number Unknown = 6
refusal_number TooMany = 7
refusal_number EqualEnds = 8
refusal_number AcrossCores = 9
refusal_number Backward = 10

abbrev pub draft_from : Stage → List Layer → List Actor → List Link → Draft
draft_from Blank layers actors links = nothing
draft_from (Machined m) layers actors links = machined m
draft_from (Ruled m f) layers actors links = sheet (record { machine = m; fit = f; layers = layers; actors = actors; links = links })

-- what the lines so far say
abbrev pub draft_of : ReadSheet → Draft
draft_of s = draft_from s.stage (vec_items s.layers) (vec_items s.actors) (vec_items s.links.list)

-- an entry was taken into the draft, or met a refusal and none with a lower number
abbrev pub Took : Draft → Entry → Draft → Result Unit Refusal → Type 0
Took d e after (Ok u) = Free d e × (after ≡ next d e)
Took d e after (Err f) = Lowest (Refuses d e) (refusal_number f)

-- the same, by a decision j
abbrev pub TookBy : Option Refusal → Draft → Entry → Draft → Result Unit Refusal → Type 0
TookBy j d e after (Ok u) = (j ≡ None) × (after ≡ next d e)
TookBy j d e after (Err f) = j ≡ Some f

-- the outcome of checks by a decision j
abbrev pub Judges : Option Refusal → Result Unit Refusal → Type 0
Judges j (Ok u) = j ≡ None
Judges j (Err f) = j ≡ Some f

-- the outcome of checks by the rules: no refusal meets the entry, or this one does and none with a lower number
abbrev pub Allowed : Draft → Entry → Result Unit Refusal → Type 0
Allowed d e (Ok u) = Free d e
Allowed d e (Err f) = Lowest (Refuses d e) (refusal_number f)
