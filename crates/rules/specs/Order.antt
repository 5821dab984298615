-- Which actor is before which.
use Rattle.std.specs.Prelude.{◌≡◌, ℕ, ◌<◌, ◌⊎◌, List, [], ◌∷◌}
use Rattle.rules.specs.declared.sheet.Link.{Link}
use Rattle.rules.specs.declared.sheet.Link.TheVariants.{Plain, Delayed, Ordered}
use Rattle.rules.specs.Lists.{◌∈◌, Every}
use Rattle.rules.specs.Sheets.{Sheet, actor_count}

-- a chain of one or more steps of R leads from a to b
pub data Chain (R : ℕ → ℕ → Type 0) : ℕ → ℕ → Type 0 where
  one : {a b : ℕ} → R a b → Chain R a b
  more : {a b c : ℕ} → R a b → Chain R b c → Chain R a c

-- the pairs that links order: a FIFO without initial tokens does, and an ordering
abbrev pub edges : List Link → List (ℕ × ℕ)
edges [] = []
edges (Plain f ∷ ks) = (f.from, f.to) ∷ edges ks
edges (Delayed f ∷ ks) = edges ks
edges (Ordered q ∷ ks) = (q.first, q.second) ∷ edges ks

-- a chain of one or more of the pairs leads from a to b
abbrev pub Linked : List (ℕ × ℕ) → ℕ → ℕ → Type 0
Linked pairs = Chain (λ a b. ◌∈◌ {X = ℕ × ℕ} (a, b) pairs)

-- actor a is before actor b
abbrev pub Before : Sheet → ℕ → ℕ → Type 0
Before s = Linked (edges s.links)

-- both ends of a link are actors
abbrev pub Ends : ℕ → Link → Type 0
Ends count (Plain f) = (f.from < count) × (f.to < count)
Ends count (Delayed f) = (f.from < count) × (f.to < count)
Ends count (Ordered q) = (q.first < count) × (q.second < count)

-- a sheet whose order can be kept: links join its actors, and no actor is before itself
pub record OrderedSheet (s : Sheet) : Type 0 where
  pub ends : Every (Ends (actor_count s)) s.links
  pub no_circle : (a : ℕ) → Before s a a → ⊥

-- x is a, or before it by the pairs
abbrev pub UpTo : List (ℕ × ℕ) → ℕ → ℕ → Type 0
UpTo pairs x a = (x ≡ a) ⊎ Linked pairs x a
