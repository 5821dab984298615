-- The laws of the digits of a word.
use Rattle.std.proofs.Common.{◌≡◌, ℕ, zero, suc, ◌-◌, ◌/◌, ◌%◌, ◌^◌, ◌<◌, ◌≤◌, false, not, ◌&&◌, ◌||◌, eqb, refl, sym, ap, ◌∙◌, pow-suc, arith}
use lib.Bits.{bit_and, bit_or}
use lib.Count.{count_trailing_zeros, under}
use Rattle.std.proofs.lemmas.Nat.Bits.{bit_at_lowest, bit_at-suc, bit_at-zero, bit_at_and, bit_at_or, bit_at-pow_same, bit_at-pow_other, bit_at-lt, bit_at_above}
use Rattle.std.proofs.lemmas.Bool.Decides.{nat_tests}
use Rattle.words.specs.Words.{bit, Lowest}

pub bit_zero : (k : ℕ) → bit 0 k ≡ false
bit_zero k = ap (λ n. eqb n 1) (bit_at-zero k)

-- a set of numbers below n has none from n on
pub bit_high : (w n k : ℕ) → w < 2 ^ n → n ≤ k → bit w k ≡ false
bit_high w n k below from = ap (λ d. eqb d 1) (bit_at_above w n k below from)

-- the numbers but 0 are one more than those in half of the word
pub bit_suc : (w k : ℕ) → bit w (suc k) ≡ bit (w / 2) k
bit_suc w k = ap (λ d. eqb d 1) (bit_at-suc w k)

-- number 0 is in no even word
pub first_false : (w : ℕ) → w % 2 ≡ 0 → bit w 0 ≡ false
first_false w even = ap (λ d. eqb d 1) (bit_at_lowest w ∙ even)

pub bit_of_or : (a b k : ℕ) → bit (bit_or a b) k ≡ (bit a k || bit b k)
bit_of_or a b k = grind (arith, nat_tests, bit_at_or a b k, bit_at-lt a k, bit_at-lt b k)

pub bit_of_and : (a b k : ℕ) → bit (bit_and a b) k ≡ (bit a k && bit b k)
bit_of_and a b k = grind (arith, nat_tests, bit_at_and a b k, bit_at-lt a k, bit_at-lt b k)

pub bit_pow : (j k : ℕ) → bit (2 ^ j) k ≡ eqb j k
bit_pow j k = grind (arith, nat_tests, bit_at-pow_same, bit_at-pow_other)

-- as code writes it, `w | 1 << k`
pub bit_with : (w k j : ℕ) → bit (bit_or w (2 ^ k)) j ≡ (bit w j || eqb k j)
bit_with w k j = bit_of_or w (2 ^ k) j ∙ ap (λ b. bit w j || b) (bit_pow k j)

-- ---- the lowest number

-- the lowest number of a word, by its lowest digit and the lowest number of half of it
lowest_step : (n w t : ℕ) → 0 < w → (0 < w / 2 → (t < n) × Lowest (w / 2) t) → (d : ℕ) → w % 2 ≡ d →
    (under d t < suc n) × Lowest w (under d t)
lowest_step n w t some rest zero even = let r = rest (omega arith) in (omega (arith, r.0), (bit_suc w t ∙ r.1.0, below r.1))
  where
    below : Lowest (w / 2) t → (k : ℕ) → k < suc t → bit w k ≡ false
    below low zero h = first_false w even
    below low (suc k) h = bit_suc w k ∙ low.1 k (omega arith)
lowest_step n w t some rest (suc d) odd =
    let first : w % 2 ≡ 1 = omega arith in (omega arith, (ap (λ n. eqb n 1) (bit_at_lowest w ∙ first), λ k h. absurd (omega arith)))

-- what `trailing_zeros` counts is the lowest number
pub lowest_bit : (n w : ℕ) → 0 < w → w < 2 ^ n → (count_trailing_zeros n w < n) × Lowest w (count_trailing_zeros n w)
unfolding count_trailing_zeros
lowest_bit zero w some below = absurd (omega arith)
lowest_bit (suc n) w some below =
    lowest_step n w (count_trailing_zeros n (w / 2)) some (λ h. lowest_bit n (w / 2) h (omega (arith, pow-suc 2 n))) (w % 2) refl

cleared : (l w k : ℕ) → Lowest w l → (bit w k && bit (w - 1) k) ≡ (bit w k && not (eqb k l))
cleared zero w zero low = grind (arith, nat_tests, low.0, bit_at_lowest w, bit_at_lowest (w - 1))
cleared zero w (suc k) low =
    let odd : w % 2 ≡ 1 = grind (arith, nat_tests, low.0, bit_at_lowest w) in
    let half : (w - 1) / 2 ≡ w / 2 = omega (arith, odd) in
    grind (arith, nat_tests, bit_at-suc w k, bit_at-suc (w - 1) k, half)
cleared (suc l) w zero low = grind (arith, nat_tests, low.1 0 (omega arith))
cleared (suc l) w (suc k) low =
    let even : w % 2 ≡ 0 = grind (arith, nat_tests, low.1 0 (omega arith), bit_at_lowest w, bit_at-lt w 0) in
    let half : (w - 1) / 2 ≡ w / 2 - 1 = omega (arith, even) in
    let less : Lowest (w / 2) l = (ap (λ n. eqb n 1) (sym (bit_at-suc w l)) ∙ low.0, λ j h. ap (λ n. eqb n 1) (sym (bit_at-suc w j)) ∙ low.1 (suc j) (omega arith)) in
    grind (arith, nat_tests, bit_at-suc w k, bit_at-suc (w - 1) k, half, cleared l (w / 2) k less)

-- `w & (w - 1)` has all numbers but the lowest
pub clear_lowest : (w l k : ℕ) → Lowest w l → bit (bit_and w (w - 1)) k ≡ (bit w k && not (eqb k l))
clear_lowest w l k low = bit_of_and w (w - 1) k ∙ cleared l w k low
