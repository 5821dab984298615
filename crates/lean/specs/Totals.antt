-- The total sizes that are live while actors start and finish one after the other.
use Rattle.std.specs.Prelude.{ℕ, ◌+◌, max, Bool, cond, not, ◌&&◌, ◌||◌, List, [], ◌∷◌, ◌==◌, nat_lt}
use Rattle.rules.specs.declared.memory.Object.{Object}

-- whether an object is live, by which actors have started and which have finished
abbrev pub lives : (ℕ → Bool) → (ℕ → Bool) → Object → Bool
lives started finished o = o.delayed || (started o.producer && not (finished o.consumer))

-- the total size of the live ones
abbrev pub live_in : List Object → (ℕ → Bool) → (ℕ → Bool) → ℕ
live_in [] started finished = 0
live_in (o ∷ os) started finished = cond (lives started finished o) o.size 0 + live_in os started finished

-- actor a too, where it is one of the 64 that there is room for
abbrev pub also : (ℕ → Bool) → ℕ → ℕ → Bool
also done a j = done j || (nat_lt a 64 && a == j)

-- the totals after each start and finish of the listing, where some have finished before
abbrev pub totals : List Object → (ℕ → Bool) → List ℕ → List ℕ
totals os done [] = []
totals os done (a ∷ rest) = live_in os (also done a) done ∷ live_in os (also done a) (also done a) ∷ totals os (also done a) rest

-- the largest of p and the numbers of the list
abbrev pub highest : ℕ → List ℕ → ℕ
highest p [] = p
highest p (n ∷ ns) = highest (max p n) ns
