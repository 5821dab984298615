-- What a reader answers.
use Rattle.std.specs.Prelude.{ℕ, List}
use Rattle.std.specs.Borrow.{Bor}

-- what was read, with the bytes that follow in place of the slice that holds them
abbrev pub read_as : {X : Type 0} → (X × Bor (List ℕ)) → (X × List ℕ)
read_as p = (p.0, p.1.now)
