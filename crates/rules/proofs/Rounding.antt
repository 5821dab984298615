-- Rounding up to the grain.
use Rattle.std.proofs.Common.{◌≡◌, ℕ, suc, ◌+◌, ◌-◌, ◌*◌, ◌/◌, ◌<◌, ◌≤◌, sym, refl, ap, ◌∙◌, mul-le-mul_right, suc-mul, div-lt_iff_lt-mul, add-mul, zero-mul, arith}
use native.Mathlib.Nat.{lt-div-mul-add}
use Rattle.rules.specs.Stretches.{rounded_up, OnGrain}
use Rattle.rules.specs.PlacingLaws.{RoundingUp}

-- a rounded number is a multiple of the grain
pub up_on_grain : (grain n : ℕ) → OnGrain grain (rounded_up grain n)
unfolding rounded_up
up_on_grain grain n = ((n + (grain - 1)) / grain, refl)

-- it is not below the number
pub up_above : (grain n : ℕ) → 0 < grain → n ≤ rounded_up grain n
unfolding rounded_up
up_above grain n some =
    let near : n + (grain - 1) < (n + (grain - 1)) / grain * grain + grain = lt-div-mul-add some in omega arith

-- no multiple of the grain lies between
pub up_least : (grain n k : ℕ) → 0 < grain → OnGrain grain k → n ≤ k → rounded_up grain n ≤ k
unfolding rounded_up
up_least grain n k some on l =
    let j = on.0 in
    let e : k ≡ j * grain = on.1 in
    let more : suc j * grain ≡ j * grain + grain = suc-mul j grain in
    let below : (n + (grain - 1)) / grain < suc j = (div-lt_iff_lt-mul some).1 (omega arith) in
    let most : (n + (grain - 1)) / grain * grain ≤ j * grain = mul-le-mul_right grain (omega arith) in
    omega arith

pub rounding_up : RoundingUp
rounding_up grain n some =
    record { on_grain = up_on_grain grain n; not_below = up_above grain n some; least = λ k on l. up_least grain n k some on l }

-- 0 is rounded already
pub up_zero : (grain : ℕ) → 0 < grain → rounded_up grain 0 ≡ 0
up_zero grain some =
    let l : rounded_up grain 0 ≤ 0 = up_least grain 0 0 some (0, sym (zero-mul grain)) (omega arith) in omega arith

-- rounding the end of what starts on the grain adds at most the rounded size
pub up_from : (grain p n : ℕ) → 0 < grain → OnGrain grain p → rounded_up grain (p + n) ≤ p + rounded_up grain n
up_from grain p n some on =
    let up = up_on_grain grain n in
    let above = up_above grain n some in
    up_least grain (p + n) (p + rounded_up grain n) some
    (on.0 + up.0, ap (λ a. a + rounded_up grain n) on.1 ∙ ap (λ a. on.0 * grain + a) up.1 ∙ sym (add-mul on.0 up.0 grain))
    (omega arith)
