-- A run: what may be called, when a call is refused, and what a granted one changes.
use Rattle.std.specs.Prelude.{◌≡◌, ℕ, ◌<◌, ◌≤◌, ◌≢◌, ◌⊎◌, List, [], ◌∷◌, ◌++◌, length, replicate, slice_index_or, slice_set}
use Rattle.rules.specs.Lists.{Lowest}
use Rattle.rules.specs.Sheets.{Sheet, actor_count}
use Rattle.rules.specs.Order.{Linked, edges}

-- not started, started and not finished, finished
pub data Phase : Type 0 where
  waiting : Phase
  running : Phase
  finished : Phase

-- the phase of each actor, and the orderings added in this run, the latest first
pub record State : Type 0 where
  pub phases : List Phase
  pub added : List (ℕ × ℕ)

-- an actor that is unknown waits
abbrev pub phase : State → ℕ → Phase
phase st a = slice_index_or st.phases a waiting

abbrev pub Started : State → ℕ → Type 0
Started st a = phase st a ≢ waiting

abbrev pub Finished : State → ℕ → Type 0
Finished st a = phase st a ≡ finished

-- a is before b in this run: chains go through an added ordering as through a link
abbrev pub Ahead : Sheet → State → ℕ → ℕ → Type 0
Ahead s st = Linked (st.added ++ edges s.links)

pub data Call : Type 0 where
  start : ℕ → Call
  finish : ℕ → Call
  order : ℕ → ℕ → Call
  round : Call

-- refusal number n meets the call
pub data Meets (s : Sheet) (st : State) : Call → ℕ → Type 0 where
  start_unknown : {a : ℕ} → actor_count s ≤ a → Meets s st (start a) 6
  start_again : {a : ℕ} → Started st a → Meets s st (start a) 12
  start_early : {a b : ℕ} → Ahead s st b a → (Finished st b → ⊥) → Meets s st (start a) 13
  finish_unknown : {a : ℕ} → actor_count s ≤ a → Meets s st (finish a) 6
  finish_idle : {a : ℕ} → phase st a ≢ running → Meets s st (finish a) 12
  order_unknown : {a b : ℕ} → (actor_count s ≤ a) ⊎ (actor_count s ≤ b) → Meets s st (order a b) 6
  order_equal : {a b : ℕ} → a ≡ b → Meets s st (order a b) 8
  order_against : {a b : ℕ} → Ahead s st b a → Meets s st (order a b) 10
  order_late : {a b : ℕ} → Started st b → (Finished st a → ⊥) → Meets s st (order a b) 14
  round_early : {a : ℕ} → a < actor_count s → (Finished st a → ⊥) → Meets s st round 15

pub data Answer : Type 0 where
  granted : Answer
  refused : ℕ → Answer

-- what a granted call makes of the state
abbrev pub after : State → Call → State
after st (start a) = record { phases = slice_set st.phases a running; added = st.added }
after st (finish a) = record { phases = slice_set st.phases a finished; added = st.added }
after st (order a b) = record { phases = st.phases; added = (a, b) ∷ st.added }
after st round = record { phases = replicate (length st.phases) waiting; added = st.added }

-- one call: granted exactly when no refusal meets it; else refused with the lowest that does, and nothing changes
pub data Step (s : Sheet) (st : State) (c : Call) : Answer → State → Type 0 where
  grants : ((n : ℕ) → Meets s st c n → ⊥) → Step s st c granted (after st c)
  refuses : {n : ℕ} → Lowest (Meets s st c) n → Step s st c (refused n) st

-- a list of calls, in the order in which they are made, leads from one state to another
pub data Leads (s : Sheet) : State → List Call → State → Type 0 where
  stay : {st : State} → Leads s st [] st
  call : {st mid end : State} {c : Call} {cs : List Call} {answer : Answer} →
      Step s st c answer mid → Leads s mid cs end → Leads s st (c ∷ cs) end

-- the same, where every call is granted
pub data Grants (s : Sheet) : State → List Call → State → Type 0 where
  no_call : {st : State} → Grants s st [] st
  grant : {st mid end : State} {c : Call} {cs : List Call} →
      Step s st c granted mid → Grants s mid cs end → Grants s st (c ∷ cs) end

-- nothing has started and no ordering is added
abbrev pub fresh : Sheet → State
fresh s = record { phases = replicate (actor_count s) waiting; added = [] }

-- the state that the calls lead to from the fresh run
abbrev pub Reached : Sheet → List Call → State → Type 0
Reached s cs st = Leads s (fresh s) cs st

-- a start or a finish
abbrev pub Fires : Call → Type 0
Fires (start a) = Unit {0}
Fires (finish a) = Unit {0}
Fires (order a b) = ⊥
Fires round = ⊥
