-- The tests of a question, and what they say.
use Rattle.std.proofs.Common.{◌≡◌, ℕ, zero, suc, ◌^◌, ◌<◌, ◌≤◌, Bool, true, false, cond, ◌&&◌, eqb, ltb, leb, List, [], ◌∷◌, length, filter, refl, ap, ◌∙◌, ⊎_elim, arith}
use Rattle.std.proofs.ByRecursion.{All-weaker}
use Rattle.std.proofs.lemmas.Bool.{and_parts, and_from, leb-true, ltb-true, eqb-true, eq-eqb, le-leb, lt-ltb, or_cases, or_left, or_right, cases_eq}
use Rattle.rules.specs.declared.memory.Stretch.{Stretch}
use Rattle.rules.specs.Stretches.{Every}
use Rattle.rules.specs.Fitting.{Ascending, OnTheTable, Proper, up_to_row, is_grain, ascend_from}

-- ---- the grain

grain_of_row : (n grain : ℕ) → up_to_row n grain ≡ true → (k : ℕ) × (k ≤ n) × (grain ≡ 2 ^ k)
grain_of_row zero grain t = (0, omega arith, eqb-true grain 1 t)
grain_of_row (suc n) grain t =
    ⊎_elim
    (λ e. (suc n, omega arith, eqb-true grain (2 ^ suc n) e))
    (λ u. let r = grain_of_row n grain u in (r.0, omega arith, r.2))
    (or_cases (eqb grain (2 ^ suc n)) (up_to_row n grain) t)

row_of_grain : (n grain k : ℕ) → k ≤ n → grain ≡ 2 ^ k → up_to_row n grain ≡ true
row_of_grain zero grain k l e = let z : k ≡ 0 = omega arith in eq-eqb grain 1 (e ∙ ap (λ j. 2 ^ j) z)
row_of_grain (suc n) grain k l e =
    ⊎_elim
    (λ same. or_left (eqb grain (2 ^ suc n)) (up_to_row n grain) (eq-eqb grain (2 ^ suc n) (e ∙ ap (λ j. 2 ^ j) same)))
    (λ other. or_right (eqb grain (2 ^ suc n)) (up_to_row n grain) (row_of_grain n grain k (omega arith) e))
    (cases_eq k (suc n))

pub table_from_test : (grain : ℕ) → is_grain grain ≡ true → OnTheTable grain
table_from_test grain t = grain_of_row 12 grain t

pub test_from_table : (grain : ℕ) → OnTheTable grain → is_grain grain ≡ true
test_from_table grain t = row_of_grain 12 grain t.0 t.1 t.2

-- ---- the gaps

-- a gap that ascends from `low` on
abbrev pub Next : ℕ → Stretch → Type 0
Next low g = (low ≤ g.start) × (g.start < g.end) × (g.end ≤ 4294967295)

pub next_parts : (low : ℕ) (g : Stretch) (gs : List Stretch) → ascend_from low (g ∷ gs) ≡ true →
    Next low g × (ascend_from g.end gs ≡ true)
next_parts low g gs t =
    let a = and_parts (leb low g.start) (ltb g.start g.end && (leb g.end 4294967295 && ascend_from g.end gs)) t in
    let b = and_parts (ltb g.start g.end) (leb g.end 4294967295 && ascend_from g.end gs) a.1 in
    let c = and_parts (leb g.end 4294967295) (ascend_from g.end gs) b.1 in
    ((leb-true low g.start a.0, ltb-true g.start g.end b.0, leb-true g.end 4294967295 c.0), c.1)

pub next_from : (low : ℕ) (g : Stretch) (gs : List Stretch) → Next low g → ascend_from g.end gs ≡ true →
    ascend_from low (g ∷ gs) ≡ true
next_from low g gs n t =
    and_from (leb low g.start) (ltb g.start g.end && (leb g.end 4294967295 && ascend_from g.end gs)) (le-leb low g.start n.0)
    (and_from (ltb g.start g.end) (leb g.end 4294967295 && ascend_from g.end gs) (lt-ltb g.start g.end n.1)
    (and_from (leb g.end 4294967295) (ascend_from g.end gs) (le-leb g.end 4294967295 n.2) t))

-- what ascends from n on ascends from below n on
pub ascend_lower : (m n : ℕ) (gs : List Stretch) → m ≤ n → ascend_from n gs ≡ true → ascend_from m gs ≡ true
ascend_lower m n [] l t = refl
ascend_lower m n (g ∷ gs) l t =
    let p = next_parts n g gs t in next_from m g gs (omega arith, p.0.1, p.0.2) p.1

-- some of the gaps ascend as all do
pub kept_ascend : (p : Stretch → Bool) (low : ℕ) (gs : List Stretch) → ascend_from low gs ≡ true → ascend_from low (filter p gs) ≡ true
kept_ascend p low [] t = refl
kept_ascend p low (g ∷ gs) t =
    let a = next_parts low g gs t in
    let rest = kept_ascend p g.end gs a.1 in
    elim (p g) as (λ b. ascend_from low (cond b (g ∷ filter p gs) (filter p gs)) ≡ true)
    [ true ↦ next_from low g (filter p gs) a.0 rest | false ↦ ascend_lower low g.end (filter p gs) (omega arith) rest ]

-- each gap starts at or above `low`
pub all_from : (low : ℕ) (gs : List Stretch) → ascend_from low gs ≡ true → Every (λ h. low ≤ h.start) gs
all_from low [] t = tt
all_from low (g ∷ gs) t =
    let p = next_parts low g gs t in
    (p.0.0, All-weaker (λ h. g.end ≤ h.start) (λ h. low ≤ h.start) (λ h l. omega arith) gs (all_from g.end gs p.1))

pub ascending_from_test : (low : ℕ) (gs : List Stretch) → ascend_from low gs ≡ true → Ascending gs
ascending_from_test low [] t = tt
ascending_from_test low (g ∷ gs) t =
    let p = next_parts low g gs t in (all_from g.end gs p.1, ascending_from_test g.end gs p.1)

pub range_from_test : (low : ℕ) (gs : List Stretch) → ascend_from low gs ≡ true → Every (λ g. (g.start < g.end) × (g.end ≤ 4294967295)) gs
range_from_test low [] t = tt
range_from_test low (g ∷ gs) t =
    let p = next_parts low g gs t in ((p.0.1, p.0.2), range_from_test g.end gs p.1)

pub test_from_ascending : (low : ℕ) (gs : List Stretch) → Every (λ g. low ≤ g.start) gs → Ascending gs →
    Every (λ g. (g.start < g.end) × (g.end ≤ 4294967295)) gs → ascend_from low gs ≡ true
test_from_ascending low [] from up range = refl
test_from_ascending low (g ∷ gs) from up range =
    next_from low g gs (from.0, range.0.0, range.0.1) (test_from_ascending g.end gs up.0 up.1 range.1)

-- ---- the question

pub proper_from_tests : (gs : List Stretch) (size grain : ℕ) → 0 < size → size ≤ 16777216 → is_grain grain ≡ true → length gs ≤ 256 →
    ascend_from 0 gs ≡ true → Proper gs size grain
proper_from_tests gs size grain positive limited grained few up =
    record {
      size_in_range = (positive, limited);
      grain_on_the_table = table_from_test grain grained;
      gaps_in_range = range_from_test 0 gs up;
      ascending = ascending_from_test 0 gs up;
      few = few;
    }

pub ascend_from_proper : (gs : List Stretch) (size grain : ℕ) → Proper gs size grain → ascend_from 0 gs ≡ true
ascend_from_proper gs size grain p =
    test_from_ascending 0 gs (All-weaker (λ g. (g.start < g.end) × (g.end ≤ 4294967295)) (λ g. 0 ≤ g.start) (λ g l. omega arith) gs p.gaps_in_range) p.ascending p.gaps_in_range
