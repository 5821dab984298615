-- The laws of gaps, fit rules, fabrics and placing.
use Rattle.std.specs.Prelude.{◌≡◌, ℕ, ◌^◌, ◌<◌, ◌≤◌, ◌⊎◌, ◌↔◌, List, Option}
use Rattle.rules.specs.declared.memory.Stretch.{Stretch}
use Rattle.rules.specs.declared.sheet.Machine.{Machine}
use Rattle.rules.specs.Lists.{◌∈◌, Every, total}
use Rattle.rules.specs.Stretches.{Gaps, Blocked, Maximal, rounded_up, OnGrain}
use Rattle.rules.specs.Fitting.{Rule, IsFitRule, Proper, IsFirstFit, IsBestFit, Takes, Lower, Tighter, low, snug}
use Rattle.rules.specs.Fabrics.{Meaning, fabric_of}
use Rattle.rules.specs.Sheets.{Sheet}
use Rattle.rules.specs.Objects.{size}
use Rattle.rules.specs.Placing.{Places, Taken, Footprint, EachExcludesTheRest}
use Rattle.rules.specs.Layouts.{Lawful, Placeable, bank_of, Layout, LaidOut, NoRoom, SoundLayout}

-- every list of blocked stretches leaves gaps, and one list of them
pub record OneListOfGaps (capacity : ℕ) (blocked : List Stretch) : Type 0 where
  pub gaps : List Stretch
  pub are_gaps : Gaps capacity (Blocked blocked) gaps
  pub only : (others : List Stretch) → Gaps capacity (Blocked blocked) others → others ≡ gaps

abbrev pub GapsExistOnce : Type 0
GapsExistOnce = (capacity : ℕ) (blocked : List Stretch) → OneListOfGaps capacity blocked

-- they are the maximal non-empty stretches below the capacity that meet no blocked stretch
abbrev pub GapsAreTheMaximalStretches : Type 0
GapsAreTheMaximalStretches =
    (capacity : ℕ) (blocked gs : List Stretch) → Gaps capacity (Blocked blocked) gs →
    (g : Stretch) → (g ∈ gs) ↔ Maximal capacity (Blocked blocked) g

-- the rounded number is the least multiple of the grain that is not below
pub record RoundingUpIsLeast (grain n : ℕ) : Type 0 where
  pub on_grain : OnGrain grain (rounded_up grain n)
  pub not_below : n ≤ rounded_up grain n
  pub least : (k : ℕ) → OnGrain grain k → n ≤ k → rounded_up grain n ≤ k

abbrev pub RoundingUp : Type 0
RoundingUp = (grain n : ℕ) → 0 < grain → RoundingUpIsLeast grain n

-- first fit and best fit are fit rules, some rule is each of them, and each has one answer to a proper question
pub record FirstAndBestFit : Type 0 where
  pub first_is_a_fit_rule : (rule : Rule) → IsFirstFit rule → IsFitRule rule
  pub best_is_a_fit_rule : (rule : Rule) → IsBestFit rule → IsFitRule rule
  pub some_first_fit : (rule : Rule) × IsFirstFit rule
  pub some_best_fit : (rule : Rule) × IsBestFit rule
  pub one_first_answer :
      (gs : List Stretch) (size grain : ℕ) → Proper gs size grain → (a b : Option (ℕ × ℕ)) →
      Takes Lower gs size grain a → Takes Lower gs size grain b → a ≡ b
  pub one_best_answer :
      (gs : List Stretch) (size grain : ℕ) → Proper gs size grain → (a b : Option (ℕ × ℕ)) →
      Takes Tighter gs size grain a → Takes Tighter gs size grain b → a ≡ b

-- a layer over a fit rule is a fit rule
abbrev pub LayersAreFitRules : Type 0
LayersAreFitRules = (n : ℕ) (rule : Rule) → IsFitRule rule → IsFitRule (low n rule) × IsFitRule (snug n rule)

-- the fabrics of the sheet keep the laws of a fabric
abbrev pub FabricsAreLawful : Type 0
FabricsAreLawful = (m : Machine) → m.cores ≤ 8 → m.shared < 2 ^ 32 → m.private < 2 ^ 32 → Lawful (fabric_of m)

-- what an object asks at its turn is a question that no rule may refuse, whatever the places
abbrev pub PlacingAsksProperQuestions : Type 0
PlacingAsksProperQuestions =
    (s : Sheet) (m : Meaning) → Placeable s m → (b : ℕ) → b < m.banks → (places : Places) (x : ℕ) → x ∈ (bank_of s m b).objects →
    (gs : List Stretch) → Gaps (m.capacity b) (Taken (bank_of s m b) places x) gs → Proper gs (size s x) s.machine.grain

-- the placing equation has one solution, or one object of one bank lacks space, and never both
pub record OnePlacing (s : Sheet) (m : Meaning) (rule : Rule) : Type 0 where
  pub some : ((places : Layout) × LaidOut s m rule places) ⊎ ((b : ℕ) × (x : ℕ) × NoRoom s m rule b x)
  pub one_layout :
      (places others : Layout) → LaidOut s m rule places → LaidOut s m rule others →
      (b x : ℕ) → b < m.banks → x ∈ (bank_of s m b).objects → places b x ≡ others b x
  pub one_no_room : (b c x y : ℕ) → NoRoom s m rule b x → NoRoom s m rule c y → (b ≡ c) × (x ≡ y)
  pub never_both : (places : Layout) (b x : ℕ) → LaidOut s m rule places → NoRoom s m rule b x → ⊥

abbrev pub PlacingIsDetermined : Type 0
PlacingIsDetermined = (s : Sheet) (m : Meaning) (rule : Rule) → OnePlacing s m rule

-- the places that the rules give make a sound layout
abbrev pub LaidOutIsSound : Type 0
LaidOutIsSound =
    (s : Sheet) (m : Meaning) (rule : Rule) (places : Layout) →
    Placeable s m → IsFitRule rule → LaidOut s m rule places → SoundLayout s m places

-- every bank has one footprint
pub record OneFootprint (s : Sheet) (m : Meaning) (places : Layout) (b : ℕ) : Type 0 where
  pub footprint : ℕ
  pub is_footprint : Footprint (bank_of s m b) (places b) footprint
  pub only : (f : ℕ) → Footprint (bank_of s m b) (places b) f → f ≡ footprint

abbrev pub FootprintsExistOnce : Type 0
FootprintsExistOnce = (s : Sheet) (m : Meaning) (places : Layout) (b : ℕ) → OneFootprint s m places b

-- a footprint is at least the sizes of objects of the bank that exclude one another
abbrev pub AtLeastAnyClique : Sheet → Meaning → Layout → ℕ → ℕ → Type 0
AtLeastAnyClique s m places b f =
    (xs : List ℕ) → Every (λ x. x ∈ (bank_of s m b).objects) xs → EachExcludesTheRest (bank_of s m b) xs → total (size s) xs ≤ f

-- and at most the sizes of all its objects, each rounded up to the grain
abbrev pub AtMostTheRoundedSizes : Sheet → Meaning → ℕ → ℕ → Type 0
AtMostTheRoundedSizes s m b f = f ≤ total (λ x. rounded_up s.machine.grain (size s x)) (bank_of s m b).objects

-- the lower bound holds of every sound layout
abbrev pub FootprintsHoldEveryClique : Type 0
FootprintsHoldEveryClique =
    (s : Sheet) (m : Meaning) (places : Layout) → Placeable s m → SoundLayout s m places →
    (b f : ℕ) → b < m.banks → Footprint (bank_of s m b) (places b) f → AtLeastAnyClique s m places b f

-- the upper bound holds of the places that the rules give
abbrev pub FootprintsAreBounded : Type 0
FootprintsAreBounded =
    (s : Sheet) (m : Meaning) (rule : Rule) (places : Layout) → Placeable s m → IsFitRule rule → LaidOut s m rule places →
    (b f : ℕ) → b < m.banks → Footprint (bank_of s m b) (places b) f → AtMostTheRoundedSizes s m b f
