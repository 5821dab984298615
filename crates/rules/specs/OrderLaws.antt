-- The laws of order.
use Rattle.std.specs.Prelude.{ℕ, ◌<◌, ◌≢◌, ◌⊎◌, ◌↔◌, List, [], ◌∷◌, ◌++◌}
use Rattle.rules.specs.declared.sheet.Link.{Link}
use Rattle.rules.specs.Sheets.{Sheet, actor_count}
use Rattle.rules.specs.Order.{Linked, UpTo, Before, Ends, OrderedSheet}
use Rattle.rules.specs.Drafts.{Orders, from, to}
use Rattle.rules.specs.Objects.{object_count}
use Rattle.rules.specs.Exclusion.{Apart, Excludes}

-- one pair more, wherever it stands, relates what was related, and all up to a with all from b on
abbrev pub Closes : List (ℕ × ℕ) → List (ℕ × ℕ) → ℕ → ℕ → Type 0
Closes more pairs a b = (x y : ℕ) → Linked more x y ↔ (Linked pairs x y ⊎ (UpTo pairs x a × UpTo pairs b y))

abbrev pub APairCloses : Type 0
APairCloses = (pairs : List (ℕ × ℕ)) (a b : ℕ) → Closes ((a, b) ∷ pairs) pairs a b × Closes (pairs ++ (a, b) ∷ []) pairs a b

-- the sheet with one more link
abbrev pub with_link : Sheet → Link → Sheet
with_link s k = record { machine = s.machine; fit = s.fit; layers = s.layers; actors = s.actors; links = s.links ++ k ∷ [] }

-- a link may come next: its ends are actors, and where it orders them they differ and go with the order so far
pub record MayJoin (s : Sheet) (k : Link) : Type 0 where
  pub ends : Ends (actor_count s) k
  pub different : Orders k → from k ≢ to k
  pub not_against : Orders k → Before s (to k) (from k) → ⊥

-- the tests of a link keep the order, and none of them is needless
abbrev pub LinkTestsExact : Type 0
LinkTestsExact = (s : Sheet) → OrderedSheet s → (k : Link) → MayJoin s k ↔ OrderedSheet (with_link s k)

-- whether a is before b can be decided
abbrev pub BeforeIsDecided : Type 0
BeforeIsDecided = (s : Sheet) (a b : ℕ) → Before s a b ⊎ (Before s a b → ⊥)

-- two different objects do not exclude each other exactly when they are apart
abbrev pub ApartOrExcluding : Type 0
ApartOrExcluding =
    (s : Sheet) (x y : ℕ) → x < object_count s → y < object_count s → x ≢ y → (Excludes s x y → ⊥) ↔ Apart s x y

-- no object excludes itself, and exclusion goes both ways
pub record ExclusionIsAGraph : Type 0 where
  pub never_itself : (s : Sheet) (x : ℕ) → Excludes s x x → ⊥
  pub both_ways : (s : Sheet) (x y : ℕ) → Excludes s x y → Excludes s y x
