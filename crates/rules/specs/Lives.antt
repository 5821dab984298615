-- When objects are live, and the run that shows objects live together.
use Rattle.std.specs.Prelude.{◌≡◌, ℕ, ◌<◌, true, false, ◌⊎◌, ◌↔◌, List, [], ◌∷◌, ◌++◌, map}
use Rattle.rules.specs.Lists.{Every, ◌∈◌, Lowest, AscendingNumbers}
use Rattle.rules.specs.Sheets.{Sheet}
use Rattle.rules.specs.Order.{Before}
use Rattle.rules.specs.Objects.{object_count, first, last, always_live}
use Rattle.rules.specs.Runs.{State, Started, Finished, Call, start, finish, Reached, Fires}

-- object x is live: always, or from the start of its first actor to the finish of its last
pub record Live (s : Sheet) (st : State) (x : ℕ) : Type 0 where
  pub known : x < object_count s
  pub lives : (always_live s x ≡ true) ⊎ (Started st (first s x) × (Finished st (last s x) → ⊥))

-- some list of starts and finishes leaves all of the objects live
pub record Together (s : Sheet) (xs : List ℕ) : Type 0 where
  pub calls : List Call
  pub fires : Every Fires calls
  pub state : State
  pub reached : Reached s calls state
  pub live : Every (Live s state) xs

-- a is the first actor of one of the objects, which is not always live
pub record Opener (s : Sheet) (xs : List ℕ) (a : ℕ) : Type 0 where
  pub number : ℕ
  pub listed : number ∈ xs
  pub passes : always_live s number ≡ false
  pub opens : a ≡ first s number

-- a has to finish first: it is before an opener
pub record Needed (s : Sheet) (xs : List ℕ) (a : ℕ) : Type 0 where
  pub opener : ℕ
  pub opens : Opener s xs opener
  pub ahead : Before s a opener

-- a is needed and not yet fired, and all that is before it has fired
pub record ReadyToFire (s : Sheet) (xs fired : List ℕ) (a : ℕ) : Type 0 where
  pub needed : Needed s xs a
  pub unfired : a ∈ fired → ⊥
  pub free : (b : ℕ) → Before s b a → b ∈ fired

-- start and finish the lowest ready actor, until none is ready
pub data Firing (s : Sheet) (xs : List ℕ) : List ℕ → List Call → Type 0 where
  over : {fired : List ℕ} → ((a : ℕ) → ReadyToFire s xs fired a → ⊥) → Firing s xs fired []
  fire : {fired : List ℕ} {cs : List Call} (a : ℕ) → Lowest (ReadyToFire s xs fired) a →
      Firing s xs (a ∷ fired) cs → Firing s xs fired (start a ∷ finish a ∷ cs)

-- then start the openers that were not needed, in ascending order
pub record Witness (s : Sheet) (xs : List ℕ) (cs : List Call) : Type 0 where
  pub fires : List Call
  pub openers : List ℕ
  pub firing : Firing s xs [] fires
  pub ascending : AscendingNumbers openers
  pub all_openers : (a : ℕ) → (a ∈ openers) ↔ (Opener s xs a × (Needed s xs a → ⊥))
  pub whole : cs ≡ fires ++ map (λ a. start a) openers
