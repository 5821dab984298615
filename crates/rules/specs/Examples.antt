-- The worked examples, true of the rules.
use Rattle.std.specs.Prelude.{◌≡◌, ℕ, ◌<◌, ◌↔◌, [], ◌∷◌, Some, None}
use Rattle.rules.specs.Fitting.{Rule, IsFirstFit, IsBestFit, low, snug}
use Rattle.rules.specs.Exclusion.{Excludes}
use Rattle.rules.specs.Reading.{Gives, accepted}
use Rattle.rules.specs.Refusals.{Prints}
use Rattle.rules.specs.Lean.{Lean, Peak}
use Rattle.rules.specs.Samples.{lines, A, A_text, A_pairs, Listed, A_on, one_bank, delayed_fifo, on_core_0, three_gaps, off_grain_gaps, roomy_and_snug, equal_gaps}

-- what holds of every rule that is first fit
abbrev pub ByFirst : (Rule → Type 0) → Type 0
ByFirst P = (rule : Rule) → IsFirstFit rule → P rule

-- what holds of every rule that is best fit
abbrev pub ByBest : (Rule → Type 0) → Type 0
ByBest P = (rule : Rule) → IsBestFit rule → P rule

pub record WorkedExamples : Type 0 where
  -- a text and its sheet
  pub A_is_accepted : Gives (A_text "M U 2 64 0 1" []) (accepted A)
  -- who excludes whom
  pub exclusions_of_A : (x y : ℕ) → Excludes A x y ↔ Listed x y A_pairs
  pub a_delayed_fifo_excludes_all : (x : ℕ) → x < 5 → Excludes (A_on (one_bank 64 1) (delayed_fifo 3 0 2 ∷ [])) 5 x
  -- what is printed: the map, or at 20 bytes that no gap holds object 4
  pub A_prints :
      Prints (A_text "M U 2 64 0 1" [])
      (lines ("LGM 1" ∷ "B 0 21 64" ∷ "O 0 0 8" ∷ "O 1 0 0" ∷ "O 2 0 10" ∷ "O 3 0 0" ∷ "O 4 0 16" ∷ []))
  pub A_in_21_bytes :
      Prints (A_text "M U 2 21 0 1" [])
      (lines ("LGM 1" ∷ "B 0 21 21" ∷ "O 0 0 8" ∷ "O 1 0 0" ∷ "O 2 0 10" ∷ "O 3 0 0" ∷ "O 4 0 16" ∷ []))
  pub A_in_20_bytes : Prints (A_text "M U 2 20 0 1" []) (lines ("E 11 3 - 4 0" ∷ []))
  pub A_at_grain_8 :
      Prints (A_text "M U 2 64 0 8" [])
      (lines ("LGM 1" ∷ "B 0 29 64" ∷ "O 0 0 8" ∷ "O 1 0 0" ∷ "O 2 0 16" ∷ "O 3 0 0" ∷ "O 4 0 24" ∷ []))
  pub A_in_three_banks :
      Prints (A_text "M H 2 64 64 1" [])
      (lines ("LGM 1" ∷ "B 0 11 64" ∷ "B 1 10 64" ∷ "B 2 12 64" ∷ "O 0 2 8" ∷ "O 1 1 0" ∷ "O 2 0 0" ∷ "O 3 2 0" ∷ "O 4 0 6" ∷ []))
  pub A_with_a_delayed_fifo :
      Prints (A_text "M U 2 64 0 1" ("D 3 0 2" ∷ []))
      (lines ("LGM 1" ∷ "B 0 23 64" ∷ "O 0 0 8" ∷ "O 1 0 0" ∷ "O 2 0 10" ∷ "O 3 0 0" ∷ "O 4 0 16" ∷ "O 5 0 21" ∷ []))
  -- larger objects first, ordered actors share their bytes, of equal sizes the lower number first
  pub B_prints : Prints (on_core_0 ("A 0 4" ∷ "A 0 6" ∷ [])) (lines ("LGM 1" ∷ "B 0 10 64" ∷ "O 0 0 6" ∷ "O 1 0 0" ∷ []))
  pub B_ordered : Prints (on_core_0 ("A 0 4" ∷ "A 0 6" ∷ "S 0 1" ∷ [])) (lines ("LGM 1" ∷ "B 0 6 64" ∷ "O 0 0 0" ∷ "O 1 0 0" ∷ []))
  pub equal_sizes : Prints (on_core_0 ("A 0 4" ∷ "A 0 4" ∷ [])) (lines ("LGM 1" ∷ "B 0 8 64" ∷ "O 0 0 0" ∷ "O 1 0 4" ∷ []))
  -- what the rules answer: the place, and the bytes left over
  pub first_of_5 : ByFirst (λ rule. rule three_gaps 5 1 ≡ Some (0, 5))
  pub best_of_5 : ByBest (λ rule. rule three_gaps 5 1 ≡ Some (20, 1))
  pub first_of_60 : ByFirst (λ rule. rule three_gaps 60 1 ≡ Some (40, 0))
  pub best_of_60 : ByBest (λ rule. rule three_gaps 60 1 ≡ Some (40, 0))
  pub first_of_61 : ByFirst (λ rule. rule three_gaps 61 1 ≡ None)
  pub best_of_61 : ByBest (λ rule. rule three_gaps 61 1 ≡ None)
  pub best_at_grain_8 : ByBest (λ rule. rule off_grain_gaps 8 8 ≡ Some (32, 4))
  pub best_of_equal_gaps : ByBest (λ rule. rule equal_gaps 5 1 ≡ Some (0, 5))
  -- the outer layer asks first
  pub low_outside_snug : ByFirst (λ rule. low 20 (snug 1 rule) roomy_and_snug 5 1 ≡ Some (0, 5))
  pub snug_outside_low : ByFirst (λ rule. snug 1 (low 20 rule) roomy_and_snug 5 1 ≡ Some (40, 1))
  -- the lean order, and the most that is live when its actors run one by one
  pub lean_order_of_A : Lean A (0 ∷ 1 ∷ 2 ∷ 3 ∷ [])
  pub peak_of_A : Peak A (0 ∷ 1 ∷ 2 ∷ 3 ∷ []) 21
