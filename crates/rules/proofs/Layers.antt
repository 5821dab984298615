-- First fit, best fit and the layers are fit rules.
use Rattle.std.proofs.Common.{◌≡◌, ℕ, suc, ◌≤◌, Bool, true, false, cond, List, [], ◌∷◌, length, Some, None, filter, Option, arith}
use Rattle.std.specs.Option.{option_or}
use Rattle.rules.specs.declared.memory.Stretch.{Stretch}
use Rattle.rules.specs.Stretches.{Every}
use Rattle.rules.specs.Fitting.{Rule, Proper, Holds, Answers, Takes, IsFitRule, IsFirstFit, IsBestFit, Lower, Tighter, answer_from, asks_first, ends_below, is_snug}
use Rattle.rules.specs.PlacingLaws.{LayersAreFitRules}
use Rattle.rules.proofs.Members.{any_weaker, any_kept}
use Rattle.rules.proofs.Questions.{ascend_from_proper, kept_ascend, range_from_test, ascending_from_test}

-- what takes a gap that comes first is an answer
pub answers_from_takes : (Prior : Stretch → Stretch → Type 0) (gs : List Stretch) (size grain : ℕ) (a : Option (ℕ × ℕ)) →
    Takes Prior gs size grain a → Answers gs size grain a
answers_from_takes Prior gs size grain None t = t
answers_from_takes Prior gs size grain (Some a) t =
    any_weaker
    (λ g. Holds g size grain × (a ≡ answer_from g size grain) × Every (λ h. Holds h size grain → Prior g h) gs)
    (λ g. Holds g size grain × (a ≡ answer_from g size grain))
    (λ g p. (p.0, p.1)) gs t

pub first_fit_is_a_fit_rule : (rule : Rule) → IsFirstFit rule → IsFitRule rule
first_fit_is_a_fit_rule rule first gs size grain p =
    answers_from_takes Lower gs size grain (rule gs size grain) (first gs size grain p)

pub best_fit_is_a_fit_rule : (rule : Rule) → IsBestFit rule → IsFitRule rule
best_fit_is_a_fit_rule rule best gs size grain p =
    answers_from_takes Tighter gs size grain (rule gs size grain) (best gs size grain p)

-- no more pass than there are
pub length_kept : {X : Type 0} (p : X → Bool) (xs : List X) → length (filter p xs) ≤ length xs
length_kept p [] = omega arith
length_kept p (x ∷ xs) =
    let rest = length_kept p xs in
    elim (p x) as (λ b. length (cond b (x ∷ filter p xs) (filter p xs)) ≤ suc (length xs)) [ true ↦ omega arith | false ↦ omega arith ]

-- a question about some of the gaps is as proper as one about all
pub kept_proper : (p : Stretch → Bool) (gs : List Stretch) (size grain : ℕ) → Proper gs size grain → Proper (filter p gs) size grain
kept_proper p gs size grain q =
    let up = kept_ascend p 0 gs (ascend_from_proper gs size grain q) in
    let short = length_kept p gs in
    record {
      size_in_range = q.size_in_range;
      grain_on_the_table = q.grain_on_the_table;
      gaps_in_range = range_from_test 0 (filter p gs) up;
      ascending = ascending_from_test 0 (filter p gs) up;
      few = omega (arith, q.few);
    }

either_answer : (p : Stretch → Bool) (gs : List Stretch) (size grain : ℕ) (first second : Option (ℕ × ℕ)) →
    Answers (filter p gs) size grain first → Answers gs size grain second → Answers gs size grain (option_or first second)
either_answer p gs size grain None second a b = b
either_answer p gs size grain (Some x) second a b = any_kept p (λ g. Holds g size grain × (x ≡ answer_from g size grain)) gs a

-- a layer over a fit rule is a fit rule, whatever it tests
pub layer_is_a_fit_rule : (test : Stretch → ℕ → ℕ → Bool) (rule : Rule) → IsFitRule rule → IsFitRule (asks_first test rule)
layer_is_a_fit_rule test rule lawful gs size grain q =
    let p : Stretch → Bool = λ g. test g size grain in
    either_answer p gs size grain (rule (filter p gs) size grain) (rule gs size grain)
    (lawful (filter p gs) size grain (kept_proper p gs size grain q)) (lawful gs size grain q)

pub layers_are_fit_rules : LayersAreFitRules
layers_are_fit_rules n rule lawful =
    (layer_is_a_fit_rule (λ g size grain. ends_below n g) rule lawful, layer_is_a_fit_rule (is_snug n) rule lawful)
