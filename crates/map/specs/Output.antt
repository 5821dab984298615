-- Writing bytes into memory that the caller lends.
use Rattle.std.specs.Prelude.{◌≡◌, ℕ, ◌<◌, ◌≤◌, List, ◌++◌, length, drop, Some, None, Option}

-- bs stands at the front of `after`, up to the answer, and all behind it is as before; or it does not fit, and nothing has changed
abbrev pub Writes : List ℕ → List ℕ → List ℕ → Option ℕ → Type 0
Writes before bs after None = (length before < length bs) × (after ≡ before)
Writes before bs after (Some end) = (end ≡ length bs) × (end ≤ length before) × (after ≡ bs ++ drop end before)
