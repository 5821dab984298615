-- What is answered to a question about a sheet.
use Rattle.std.specs.Prelude.{◌≡◌, ℕ, ◌<◌, Bool, true, false, Some, None, Option}
use Rattle.rules.specs.declared.memory.Object.{Object}
use Rattle.rules.specs.Sheets.{Sheet, actor_count}
use Rattle.rules.specs.Objects.{object, object_count, touching}
use Rattle.rules.specs.Order.{Before}
use Rattle.rules.specs.Exclusion.{Excludes}

-- whether it is so; none exactly where a number is unknown
abbrev pub SaysWhether : Type 0 → Type 0 → Option Bool → Type 0
SaysWhether Known So None = Known → ⊥
SaysWhether Known So (Some true) = Known × So
SaysWhether Known So (Some false) = Known × (So → ⊥)

-- whether actor a is before actor b
abbrev pub SaysBefore : Sheet → ℕ → ℕ → Option Bool → Type 0
SaysBefore s a b answer = SaysWhether ((a < actor_count s) × (b < actor_count s)) (Before s a b) answer

-- whether objects x and y exclude each other
abbrev pub SaysExcludes : Sheet → ℕ → ℕ → Option Bool → Type 0
SaysExcludes s x y answer = SaysWhether ((x < object_count s) × (y < object_count s)) (Excludes s x y) answer

-- object x itself; none exactly where there is none
abbrev pub IsObject : Sheet → ℕ → Option Object → Type 0
IsObject s x None = x < object_count s → ⊥
IsObject s x (Some o) = (x < object_count s) × (o ≡ object s x)

-- the cores that touch object x
abbrev pub Touch : Sheet → ℕ → Option ℕ → Type 0
Touch s x None = x < object_count s → ⊥
Touch s x (Some set) = (x < object_count s) × (set ≡ touching s x)
