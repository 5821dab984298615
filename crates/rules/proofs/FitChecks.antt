-- The one answer of first fit and of best fit to a proper question, found by computing.
use Rattle.std.proofs.Common.{◌≡◌, ℕ, Bool, true, ◌&&◌, ltb, leb, List, length, filter}
use Rattle.std.specs.Option.{option_or}
use Rattle.std.proofs.lemmas.Bool.{and_parts, leb-true, ltb-true}
use Rattle.rules.specs.declared.memory.Stretch.{Stretch}
use Rattle.rules.specs.Fitting.{Rule, Proper, IsFirstFit, IsBestFit, asks_first, is_grain, ascend_from}
use Rattle.rules.proofs.Questions.{proper_from_tests}
use Rattle.rules.proofs.Layers.{kept_proper}
use Rattle.rules.proofs.Preferred.{first_and_best_fit}
use Rattle.rules.specs.Choosing.{first_of, best_of}
use Rattle.rules.proofs.Chosen.{first_takes_the_lowest, best_takes_the_tightest}

-- whether a question is proper
abbrev pub is_proper : List Stretch → ℕ → ℕ → Bool
is_proper gs size grain =
    ltb 0 size && (leb size 16777216 && (is_grain grain && (leb (length gs) 256 && ascend_from 0 gs)))

-- a question that passes the tests is proper
pub proper_by_test : (gs : List Stretch) (size grain : ℕ) → is_proper gs size grain ≡ true → Proper gs size grain
proper_by_test gs size grain t =
    let a = and_parts (ltb 0 size) (leb size 16777216 && (is_grain grain && (leb (length gs) 256 && ascend_from 0 gs))) t in
    let b = and_parts (leb size 16777216) (is_grain grain && (leb (length gs) 256 && ascend_from 0 gs)) a.1 in
    let c = and_parts (is_grain grain) (leb (length gs) 256 && ascend_from 0 gs) b.1 in
    let d = and_parts (leb (length gs) 256) (ascend_from 0 gs) c.1 in
    proper_from_tests gs size grain (ltb-true 0 size a.0) (leb-true size 16777216 b.0) c.0 (leb-true (length gs) 256 d.0) d.1

-- every first fit answers a proper question as first_of does
pub one_first : (rule : Rule) → IsFirstFit rule → (gs : List Stretch) (size grain : ℕ) → Proper gs size grain →
    rule gs size grain ≡ first_of gs size grain
one_first rule first gs size grain p =
    first_and_best_fit.one_first_answer gs size grain p (rule gs size grain) (first_of gs size grain)
    (first gs size grain p) (first_takes_the_lowest gs size grain p)

-- every best fit answers a proper question as best_of does
pub one_best : (rule : Rule) → IsBestFit rule → (gs : List Stretch) (size grain : ℕ) → Proper gs size grain →
    rule gs size grain ≡ best_of gs size grain
one_best rule best gs size grain p =
    first_and_best_fit.one_best_answer gs size grain p (rule gs size grain) (best_of gs size grain)
    (best gs size grain p) (best_takes_the_tightest gs size grain p)

-- a layer over rules that answer proper questions alike answers them alike
pub layer_alike : (test : Stretch → ℕ → ℕ → Bool) (rule other : Rule) →
    ((gs : List Stretch) (size grain : ℕ) → Proper gs size grain → rule gs size grain ≡ other gs size grain) →
    (gs : List Stretch) (size grain : ℕ) → Proper gs size grain →
    asks_first test rule gs size grain ≡ asks_first test other gs size grain
layer_alike test rule other alike gs size grain p =
    let q = kept_proper (λ g. test g size grain) gs size grain p in
    let kept : List Stretch = filter (λ g. test g size grain) gs in
    λ i. option_or (alike kept size grain q i) (alike gs size grain p i)
