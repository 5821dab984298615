-- Placing the objects of one bank, without an algorithm: the place of each object is the rule's answer to the gaps that
-- the earlier objects excluding it leave.
use Rattle.std.specs.Prelude.{◌≡◌, ℕ, ◌+◌, ◌^◌, ◌<◌, ◌≤◌, ◌⊎◌, List, [], ◌∷◌, length, Some, None, Option}
use Rattle.std.specs.Option.{option_map}
use Rattle.rules.specs.declared.memory.Stretch.{Stretch}
use Rattle.rules.specs.Lists.{◌∈◌, Every}
use Rattle.rules.specs.Stretches.{Gaps}
use Rattle.rules.specs.Fitting.{Rule, OnTheTable}

-- a bank, as far as placing looks at it
pub record Bank : Type 1 where
  pub capacity : ℕ
  pub grain : ℕ
  -- the numbers of the objects with a home in it
  pub objects : List ℕ
  pub size : ℕ → ℕ
  pub Excludes : ℕ → ℕ → Type 0

-- a bank whose numbers are in range, and in which exclusion goes both ways
pub record SoundBank (bank : Bank) : Type 0 where
  pub capacity_in_range : bank.capacity < 2 ^ 32
  pub grain_on_the_table : OnTheTable bank.grain
  pub few_objects : length bank.objects ≤ 256
  pub sizes_in_range : (x : ℕ) → x ∈ bank.objects → (0 < bank.size x) × (bank.size x ≤ 16777216)
  pub never_itself : (x : ℕ) → bank.Excludes x x → ⊥
  pub both_ways : (x y : ℕ) → bank.Excludes x y → bank.Excludes y x

-- x has its turn before y: larger objects first, equal sizes by lower number
abbrev pub Earlier : Bank → ℕ → ℕ → Type 0
Earlier bank x y = (bank.size y < bank.size x) ⊎ ((bank.size x ≡ bank.size y) × (x < y))

-- where each object is placed, if it is
abbrev pub Places : Type 0
Places = ℕ → Option ℕ

-- x takes the bytes from its place on, as many as its size
abbrev pub LiesOn : Bank → Places → ℕ → ℕ → Type 0
LiesOn bank places x b = (p : ℕ) × (places x ≡ Some p) × (p ≤ b) × (b < p + bank.size x)

-- the byte b is taken when x has its turn: some earlier object of the bank that excludes x lies on it
abbrev pub Taken : Bank → Places → ℕ → ℕ → Type 0
Taken bank places x b = (y : ℕ) × (y ∈ bank.objects) × Earlier bank y x × bank.Excludes y x × LiesOn bank places y b

-- x goes where the rule says, asked about the gaps that x sees
abbrev pub ByTheRule : Bank → Rule → Places → ℕ → Type 0
ByTheRule bank rule places x =
    (gs : List Stretch) × Gaps bank.capacity (Taken bank places x) gs
    × (places x ≡ option_map (λ a. a.0) (rule gs (bank.size x) bank.grain))

-- every object of the bank goes where the rule says
abbrev pub Placing : Bank → Rule → Places → Type 0
Placing bank rule places = (x : ℕ) → x ∈ bank.objects → ByTheRule bank rule places x

-- every object of the bank has its place
abbrev pub Full : Bank → Places → Type 0
Full bank places = (x : ℕ) → x ∈ bank.objects → (p : ℕ) × (places x ≡ Some p)

-- x is the first, by turn, that no gap holds
pub record LacksSpace (bank : Bank) (rule : Rule) (places : Places) (x : ℕ) : Type 0 where
  pub of_the_bank : x ∈ bank.objects
  pub by_the_rule : ByTheRule bank rule places x
  pub absent : places x ≡ None
  pub earlier_by_the_rule : (y : ℕ) → y ∈ bank.objects → Earlier bank y x → ByTheRule bank rule places y
  pub earlier_placed : (y : ℕ) → y ∈ bank.objects → Earlier bank y x → (p : ℕ) × (places y ≡ Some p)

-- the highest end in the bank, 0 if it holds nothing
pub record Footprint (bank : Bank) (places : Places) (f : ℕ) : Type 0 where
  pub no_end_above : (x p : ℕ) → x ∈ bank.objects → places x ≡ Some p → p + bank.size x ≤ f
  pub an_end_or_nothing :
      ((x : ℕ) × (p : ℕ) × (x ∈ bank.objects) × (places x ≡ Some p) × (f ≡ p + bank.size x))
      ⊎ ((f ≡ 0) × ((x : ℕ) → x ∈ bank.objects → places x ≡ None))

-- a list in which every two exclude each other: each excludes all that follow it
abbrev pub EachExcludesTheRest : Bank → List ℕ → Type 0
EachExcludesTheRest bank [] = Unit {0}
EachExcludesTheRest bank (x ∷ xs) = Every (bank.Excludes x) xs × EachExcludesTheRest bank xs
