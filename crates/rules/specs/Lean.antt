-- The lean order and its peak.
use Rattle.std.specs.Prelude.{◌≡◌, ℕ, ◌+◌, ◌<◌, ◌≤◌, Bool, true, false, cond, not, ◌&&◌, ◌||◌, ◌⊎◌, List, [], ◌∷◌, ◌++◌, ◌==◌}
use Rattle.rules.specs.declared.sheet.Link.{Link}
use Rattle.rules.specs.declared.sheet.Link.TheVariants.{Plain, Delayed, Ordered}
use Rattle.rules.specs.Lists.{◌∈◌, numbers_from, total}
use Rattle.rules.specs.Sheets.{Sheet, actor_count}
use Rattle.rules.specs.Order.{Before}
use Rattle.rules.specs.Objects.{object_count, size, first, last, always_live}
use Rattle.rules.specs.Runs.{Phase, waiting, running, finished, State, phase, Call, start, finish, Reached}

-- the size of all FIFOs without initial tokens that an actor produces
abbrev pub produced : List Link → ℕ → ℕ
produced [] a = 0
produced (Plain f ∷ ks) a = cond (f.from == a) f.size 0 + produced ks a
produced (Delayed f ∷ ks) a = produced ks a
produced (Ordered q ∷ ks) a = produced ks a

-- and that it consumes
abbrev pub consumed : List Link → ℕ → ℕ
consumed [] a = 0
consumed (Plain f ∷ ks) a = cond (f.to == a) f.size 0 + consumed ks a
consumed (Delayed f ∷ ks) a = consumed ks a
consumed (Ordered q ∷ ks) a = consumed ks a

-- the net change of a, produced minus consumed, against that of b: each difference is written as a sum on the other side
abbrev pub net : Sheet → ℕ → ℕ → ℕ
net s a b = produced s.links a + consumed s.links b

-- a has the smaller net change, or an equal one and the lower number
abbrev pub Leaner : Sheet → ℕ → ℕ → Type 0
Leaner s a b = (net s a b < net s b a) ⊎ ((net s a b ≡ net s b a) × (a < b))

-- a is not yet listed, and all its predecessors are
pub record ReadyToList (s : Sheet) (listed : List ℕ) (a : ℕ) : Type 0 where
  pub known : a < actor_count s
  pub new : a ∈ listed → ⊥
  pub behind : (b : ℕ) → Before s b a → b ∈ listed

-- each is ready at its step and leaner than the others that are, and in the end every actor is listed
abbrev pub LeanFrom : Sheet → List ℕ → List ℕ → Type 0
LeanFrom s listed [] = (a : ℕ) → a < actor_count s → a ∈ listed
LeanFrom s listed (a ∷ rest) =
    ReadyToList s listed a × ((b : ℕ) → ReadyToList s listed b → (b ≡ a) ⊎ Leaner s a b) × LeanFrom s (a ∷ listed) rest

abbrev pub Lean : Sheet → List ℕ → Type 0
Lean s listing = LeanFrom s [] listing

-- each actor of the listing starts, then finishes
abbrev pub one_by_one : List ℕ → List Call
one_by_one [] = []
one_by_one (a ∷ rest) = start a ∷ finish a ∷ one_by_one rest

abbrev pub is_started : Phase → Bool
is_started waiting = false
is_started running = true
is_started finished = true

abbrev pub is_finished : Phase → Bool
is_finished waiting = false
is_finished running = false
is_finished finished = true

-- whether object x is live
abbrev pub is_live : Sheet → State → ℕ → Bool
is_live s st x = always_live s x || (is_started (phase st (first s x)) && not (is_finished (phase st (last s x))))

-- the total size of the live objects
abbrev pub live_bytes : Sheet → State → ℕ
live_bytes s st = total (λ x. cond (is_live s st x) (size s x) 0) (numbers_from 0 (object_count s))

-- a state after one or more of the calls
pub record Moment (s : Sheet) (calls : List Call) (st : State) : Type 0 where
  pub call : Call
  pub made : List Call
  pub rest : List Call
  pub parts : calls ≡ (call ∷ made) ++ rest
  pub reached : Reached s (call ∷ made) st

-- the largest total size live after any call when each of the listing starts, then finishes
pub record Peak (s : Sheet) (listing : List ℕ) (p : ℕ) : Type 0 where
  pub attained : (st : State) × Moment s (one_by_one listing) st × (live_bytes s st ≡ p)
  pub most : (st : State) → Moment s (one_by_one listing) st → live_bytes s st ≤ p
