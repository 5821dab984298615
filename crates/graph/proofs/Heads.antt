-- The head of a sheet that is held.
use Rattle.std.proofs.Common.{◌≡◌, ℕ, true, false, List, is_some, Some, None, Option, sym, refl, ap, ◌∙◌, arith}
use Rattle.rules.specs.declared.sheet.Machine.{Machine}
use Rattle.rules.specs.declared.sheet.Fit.{Fit}
use Rattle.rules.specs.declared.sheet.Layer.{Layer}
use Rattle.rules.specs.declared.sheet.Actor.{Actor}
use Rattle.rules.specs.declared.sheet.Link.{Link}
use Rattle.rules.specs.Sheets.{Sheet}
use Rattle.rules.specs.Drafts.{Draft, nothing, machined, sheet}
use Rattle.graph.specs.declared.stage.Stage.{Stage}
use Rattle.graph.specs.declared.stage.Stage.TheVariants.{Blank, Machined, Ruled}
use Rattle.graph.specs.Stages.{stage_cores, grain_of, head_of}
use Rattle.graph.specs.declared.read_sheet.ReadSheet.{ReadSheet}
use Rattle.graph.specs.Readings.{Holds}
use Rattle.graph.specs.Taking.{draft_from}

never : {X : Type 0} {x : X} → ◌≡◌ {A = Option X} None (Some x) → ⊥
never e = let z : false ≡ true = ap is_some e in let k : ◌≡◌ {A = ℕ} 0 1 = cc in omega arith

-- what lies in an answer, or a value instead
abbrev answer_or : {X : Type 0} → X → Option X → X
answer_or x None = x
answer_or x (Some y) = y

-- the sheet of a draft, or one instead
abbrev sheet_or : Sheet → Draft → Sheet
sheet_or s nothing = s
sheet_or s (machined m) = s
sheet_or s (sheet t) = t

abbrev is_sheet : Draft → ℕ
is_sheet nothing = 0
is_sheet (machined m) = 0
is_sheet (sheet t) = 1

module _ (layers : List Layer) (actors : List Actor) (links : List Link) where
  -- where the head is there, the sheet is held
  pub headed_holds : (stage : Stage) (h : Machine × Fit) → head_of stage ≡ Some h →
      draft_from stage layers actors links ≡ sheet (record { machine = h.0; fit = h.1; layers = layers; actors = actors; links = links })
  headed_holds Blank h e = absurd (never e)
  headed_holds (Machined m) h e = absurd (never e)
  headed_holds (Ruled m f) h e = let z : ◌≡◌ {A = Machine × Fit} (m, f) h = ap (answer_or h) e in
      λ i. sheet (record { machine = (z i).0; fit = (z i).1; layers = layers; actors = actors; links = links })

  -- where it is not, none is
  pub unheaded : (stage : Stage) → head_of stage ≡ None → (s : Sheet) → draft_from stage layers actors links ≡ sheet s → ⊥
  unheaded Blank none s e = let z : ◌≡◌ {A = ℕ} 0 1 = ap is_sheet e in omega arith
  unheaded (Machined m) none s e = let z : ◌≡◌ {A = ℕ} 0 1 = ap is_sheet e in omega arith
  unheaded (Ruled m f) none s e = never (sym none)

  -- the grain and the layers that are held are the sheet's
  pub grain_held : (stage : Stage) (s : Sheet) → draft_from stage layers actors links ≡ sheet s → grain_of stage ≡ s.machine.grain
  grain_held Blank s e = absurd (unheaded Blank refl s e)
  grain_held (Machined m) s e = absurd (unheaded (Machined m) refl s e)
  grain_held (Ruled m f) s e = ap (λ d. (sheet_or s d).machine.grain) e

-- the cores that are held are the machine's
pub cores_headed : (stage : Stage) (h : Machine × Fit) → head_of stage ≡ Some h → stage_cores stage ≡ h.0.cores
cores_headed Blank h e = absurd (never e)
cores_headed (Machined m) h e = absurd (never e)
cores_headed (Ruled m f) h e = ap (λ a. (answer_or h a).0.cores) e

-- one sheet is held at most
pub held_once : (r : ReadSheet) (s t : Sheet) → Holds r s → Holds r t → s ≡ t
held_once r s t h k = ap (sheet_or s) (sym h ∙ k)
