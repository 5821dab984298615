-- Reading a number by its bytes.
use Rattle.std.specs.Prelude.{ℕ, ◌+◌, ◌-◌, ◌*◌, cond, ◌&&◌, List, [], ◌∷◌, Some, None, Option, ◌==◌, nat_le}

-- n with the digits that a text begins with after it, and what follows them; nothing above 32 bits
abbrev pub digits_on : ℕ → List ℕ → Option (ℕ × List ℕ)
digits_on n [] = cond (nat_le n 4294967295) (Some (n, [])) None
digits_on n (c ∷ cs) = cond (nat_le 48 c && nat_le c 57) (digits_on (n * 10 + (c - 48)) cs) (cond (nat_le n 4294967295) (Some (n, c ∷ cs)) None)

-- the number that a text begins with, and what follows it: after a digit 0 no other digit is read
abbrev pub number_on : List ℕ → Option (ℕ × List ℕ)
number_on [] = None
number_on (c ∷ cs) = cond (c == 48) (Some (0, cs)) (cond (nat_le 49 c && nat_le c 57) (digits_on 0 (c ∷ cs)) None)

-- a field: exactly one space and a number, and what follows them
unfoldable pub field_on : List ℕ → Option (ℕ × List ℕ)
field_on [] = None
field_on (c ∷ cs) = cond (c == 32) (number_on cs) None
