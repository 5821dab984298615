-- What is promised of every sheet that is read and placed.
use Rattle.std.specs.Prelude.{◌≡◌, ℕ, ◌<◌, true, ◌≢◌, ◌↔◌, List, [], ◌∷◌, Some}
use Rattle.rules.specs.Fitting.{Rule, IsFitRule}
use Rattle.rules.specs.Fabrics.{Meaning, member}
use Rattle.rules.specs.Sheets.{Sheet}
use Rattle.rules.specs.Objects.{touching}
use Rattle.rules.specs.Exclusion.{Excludes}
use Rattle.rules.specs.Placing.{Footprint}
use Rattle.rules.specs.Layouts.{Placeable, bank_of, Layout, LaidOut, SoundLayout, ShareNoByte}
use Rattle.rules.specs.PlacingLaws.{AtLeastAnyClique, AtMostTheRoundedSizes}
use Rattle.rules.specs.Runs.{State, Call, Reached}
use Rattle.rules.specs.Lives.{Live, Together}

-- whatever list of starts, finishes, added orderings and new rounds is called, granted or refused
pub record NeverAClash (s : Sheet) (m : Meaning) (places : Layout) : Type 0 where
  -- no two different live objects share a byte of one bank
  pub live_objects_share_no_byte :
      (calls : List Call) (st : State) → Reached s calls st → (x y : ℕ) → x ≢ y → Live s st x → Live s st y →
      (b : ℕ) → b < m.banks → ShareNoByte (bank_of s m b) (places b) x y
  -- every core that touches a live object reaches a bank that holds it
  pub live_objects_are_in_reach :
      (calls : List Call) (st : State) → Reached s calls st → (x : ℕ) → Live s st x →
      (c : ℕ) → member (touching s x) c ≡ true →
      (b : ℕ) × (b < m.banks) × (m.reaches c b ≡ true) × (p : ℕ) × (places b x ≡ Some p)

-- two different objects exclude each other exactly when some list of starts and finishes leaves both live
abbrev pub ExactExclusion : Sheet → Type 0
ExactExclusion s = (x y : ℕ) → x ≢ y → Excludes s x y ↔ Together s (x ∷ y ∷ [])

-- each bank's footprint lies between every clique's total and the rounded sum
pub record BoundedFootprints (s : Sheet) (m : Meaning) (places : Layout) : Type 0 where
  pub at_least : (b f : ℕ) → b < m.banks → Footprint (bank_of s m b) (places b) f → AtLeastAnyClique s m places b f
  pub at_most : (b f : ℕ) → b < m.banks → Footprint (bank_of s m b) (places b) f → AtMostTheRoundedSizes s m b f

-- the whole promise about a placed sheet
pub record Promised (s : Sheet) (m : Meaning) (places : Layout) : Type 0 where
  pub never_a_clash : NeverAClash s m places
  pub exact_exclusion : ExactExclusion s
  pub bounded_footprints : BoundedFootprints s m places

-- a sound layout never has a clash, however its places were found
abbrev pub SoundLayoutsNeverClash : Type 0
SoundLayoutsNeverClash =
    (s : Sheet) (m : Meaning) (places : Layout) → Placeable s m → SoundLayout s m places → NeverAClash s m places

-- under any fit rule and any fabric
abbrev pub TheWholePromise : Type 0
TheWholePromise =
    (s : Sheet) (m : Meaning) (rule : Rule) (places : Layout) →
    Placeable s m → IsFitRule rule → LaidOut s m rule places → Promised s m places
