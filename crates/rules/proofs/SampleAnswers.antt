-- What first fit, best fit and the layers answer to the sample gaps.
use Rattle.std.proofs.Common.{◌≡◌, ℕ, Bool, true, List, Some, None, Option, refl, ◌∙◌}
use Rattle.rules.specs.declared.memory.Stretch.{Stretch}
use Rattle.rules.specs.Stretches.{rounded_up}
use Rattle.rules.specs.Fitting.{Proper, low, snug, is_snug, ends_below}
use Rattle.rules.specs.Samples.{three_gaps, off_grain_gaps, roomy_and_snug, equal_gaps}
use Rattle.rules.specs.Examples.{ByFirst, ByBest}
use Rattle.rules.specs.Choosing.{first_of, best_of}
use Rattle.rules.proofs.FitChecks.{is_proper, proper_by_test, one_first, one_best, layer_alike}

-- a first fit answers what first_of answers
by_first : (gs : List Stretch) (size grain : ℕ) (a : Option (ℕ × ℕ)) → is_proper gs size grain ≡ true →
    first_of gs size grain ≡ a → ByFirst (λ rule. rule gs size grain ≡ a)
by_first gs size grain a proper is rule first = one_first rule first gs size grain (proper_by_test gs size grain proper) ∙ is

-- a best fit answers what best_of answers
by_best : (gs : List Stretch) (size grain : ℕ) (a : Option (ℕ × ℕ)) → is_proper gs size grain ≡ true →
    best_of gs size grain ≡ a → ByBest (λ rule. rule gs size grain ≡ a)
by_best gs size grain a proper is rule best = one_best rule best gs size grain (proper_by_test gs size grain proper) ∙ is

-- first fit takes the lowest gap
pub first_of_5 : ByFirst (λ rule. rule three_gaps 5 1 ≡ Some (0, 5))
unfolding rounded_up
first_of_5 = by_first three_gaps 5 1 (Some (0, 5)) refl refl

-- best fit takes the tightest
pub best_of_5 : ByBest (λ rule. rule three_gaps 5 1 ≡ Some (20, 1))
unfolding rounded_up
best_of_5 = by_best three_gaps 5 1 (Some (20, 1)) refl refl

-- one gap holds 60 bytes
pub first_of_60 : ByFirst (λ rule. rule three_gaps 60 1 ≡ Some (40, 0))
unfolding rounded_up
first_of_60 = by_first three_gaps 60 1 (Some (40, 0)) refl refl

-- which best fit takes too
pub best_of_60 : ByBest (λ rule. rule three_gaps 60 1 ≡ Some (40, 0))
unfolding rounded_up
best_of_60 = by_best three_gaps 60 1 (Some (40, 0)) refl refl

-- none holds 61 bytes
pub first_of_61 : ByFirst (λ rule. rule three_gaps 61 1 ≡ None)
unfolding rounded_up
first_of_61 = by_first three_gaps 61 1 None refl refl

-- for best fit as well
pub best_of_61 : ByBest (λ rule. rule three_gaps 61 1 ≡ None)
unfolding rounded_up
best_of_61 = by_best three_gaps 61 1 None refl refl

-- the gap from 1 on is wider, though less of it is left over
pub best_at_grain_8 : ByBest (λ rule. rule off_grain_gaps 8 8 ≡ Some (32, 4))
unfolding rounded_up
best_at_grain_8 = by_best off_grain_gaps 8 8 (Some (32, 4)) refl refl

-- of equally wide gaps the lower
pub best_of_equal_gaps : ByBest (λ rule. rule equal_gaps 5 1 ≡ Some (0, 5))
unfolding rounded_up
best_of_equal_gaps = by_best equal_gaps 5 1 (Some (0, 5)) refl refl

-- ---- the layers

proper_roomy : Proper roomy_and_snug 5 1
proper_roomy = proper_by_test roomy_and_snug 5 1 refl

low_outside : low 20 (snug 1 first_of) roomy_and_snug 5 1 ≡ Some (0, 5)
unfolding rounded_up
low_outside = refl

snug_outside : snug 1 (low 20 first_of) roomy_and_snug 5 1 ≡ Some (40, 1)
unfolding rounded_up
snug_outside = refl

low_test : ℕ → Stretch → ℕ → ℕ → Bool
low_test line g size grain = ends_below line g

-- what the outer layer asks first decides: the gap below the line
pub low_outside_snug : ByFirst (λ rule. low 20 (snug 1 rule) roomy_and_snug 5 1 ≡ Some (0, 5))
unfolding low_test
low_outside_snug rule first =
    layer_alike (low_test 20) (snug 1 rule) (snug 1 first_of) (layer_alike (is_snug 1) rule first_of (one_first rule first)) roomy_and_snug 5 1 proper_roomy
    ∙ low_outside

-- or the snug gap
pub snug_outside_low : ByFirst (λ rule. snug 1 (low 20 rule) roomy_and_snug 5 1 ≡ Some (40, 1))
unfolding low_test
snug_outside_low rule first =
    layer_alike (is_snug 1) (low 20 rule) (low 20 first_of) (layer_alike (low_test 20) rule first_of (one_first rule first)) roomy_and_snug 5 1 proper_roomy
    ∙ snug_outside
