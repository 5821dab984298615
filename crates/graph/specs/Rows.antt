-- A table of rows: bit b of row a says that a is before b.
use Rattle.std.specs.Prelude.{◌≡◌, ℕ, ◌/◌, ◌%◌, Bool, true, false, not, ◌&&◌, ◌||◌, List, ◌==◌, nat_lt, slice_index}
use Rattle.words.specs.Words.{bit}

-- whether the rows put a before b
abbrev pub before : List ℕ → ℕ → ℕ → Bool
before rows a b = bit (slice_index rows a) b

-- none is before itself
abbrev pub Irreflexive : List ℕ → Type 0
Irreflexive rows = (a : ℕ) → before rows a a ≡ false

-- what is before one that is before another is before that
abbrev pub Transitive : List ℕ → Type 0
Transitive rows = (a b c : ℕ) → (not (before rows a b && before rows b c) || before rows a c) ≡ true

-- x is a, or r puts it before a
abbrev pub up_to : (ℕ → ℕ → Bool) → ℕ → ℕ → Bool
up_to r x a = x == a || r x a

-- one pair more: what was related, and all up to a with all from b on
abbrev pub joined : (ℕ → ℕ → Bool) → ℕ → ℕ → ℕ → ℕ → Bool
joined r a b x y = r x y || (up_to r x a && up_to r b y)

-- a may come before b: both are numbers of rows, and b is not at or before a
abbrev pub may_join : List ℕ → ℕ → ℕ → Bool
may_join rows a b = nat_lt a 64 && (nat_lt b 64 && not (up_to (before rows) b a))

-- whether a set of numbers below 256, four words, has y
abbrev pub in_row : List ℕ → ℕ → Bool
in_row words y = bit (slice_index words (y / 64)) (y % 64)
