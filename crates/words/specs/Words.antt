-- Sets of numbers as words: number k is in the set where the binary digit k is 1.
use Rattle.std.specs.Prelude.{◌≡◌, ℕ, ◌/◌, ◌%◌, ◌^◌, ◌<◌, Bool, true, false, ◌==◌}

-- whether number k is in the set
abbrev pub bit : ℕ → ℕ → Bool
bit w k = w / 2 ^ k % 2 == 1

-- l is the lowest number in the set
abbrev pub Lowest : ℕ → ℕ → Type 0
Lowest w l = (bit w l ≡ true) × ((k : ℕ) → k < l → bit w k ≡ false)
