-- The laws of runs.
use Rattle.std.specs.Prelude.{◌≡◌, ℕ, ◌<◌, ◌≢◌, ◌⊎◌, ◌↔◌, List, [], ◌∷◌, length}
use Rattle.rules.specs.Lists.{Every}
use Rattle.rules.specs.Sheets.{Sheet, actor_count}
use Rattle.rules.specs.Order.{OrderedSheet}
use Rattle.rules.specs.Objects.{object_count}
use Rattle.rules.specs.Exclusion.{Excludes, AllExclude}
use Rattle.rules.specs.Runs.{State, Call, Answer, order, Ahead, Started, Finished, Step, Leads, Reached, Grants, Fires, fresh, after}
use Rattle.rules.specs.Lives.{Live, Together, Witness}

-- the one outcome of a call
pub record OneAnswer (s : Sheet) (st : State) (c : Call) : Type 0 where
  pub answer : Answer
  pub next : State
  pub step : Step s st c answer next
  pub only : (other : Answer) (end : State) → Step s st c other end → (other ≡ answer) × (end ≡ next)

-- every call in every state has exactly one outcome
abbrev pub EveryCallIsAnswered : Type 0
EveryCallIsAnswered = (s : Sheet) (st : State) (c : Call) → OneAnswer s st c

-- a started actor's predecessors are finished, in every reached state
abbrev pub PredecessorsAreFinished : Type 0
PredecessorsAreFinished =
    (s : Sheet) (cs : List Call) (st : State) → Reached s cs st → (a b : ℕ) → Ahead s st a b → Started st b → Finished st a

-- a reached state has a phase for each actor of the sheet
abbrev pub EveryActorHasAPhase : Type 0
EveryActorHasAPhase = (s : Sheet) (cs : List Call) (st : State) → Reached s cs st → length st.phases ≡ actor_count s

-- an added ordering a, b relates exactly what was related, and all up to a with all from b on
abbrev pub AddedOrderingCloses : Type 0
AddedOrderingCloses =
    (s : Sheet) (st : State) (a b x y : ℕ) →
    Ahead s (after st (order a b)) x y
    ↔ (Ahead s st x y ⊎ (((x ≡ a) ⊎ Ahead s st x a) × ((b ≡ y) ⊎ Ahead s st b y)))

-- what is ahead stays ahead, whatever is called: an added ordering outlives its round
abbrev pub OrderingsLast : Type 0
OrderingsLast = (s : Sheet) (st end : State) (cs : List Call) → Leads s st cs end → (x y : ℕ) → Ahead s st x y → Ahead s end x y

-- no order that exists puts an actor before itself
abbrev pub NeverBeforeItself : Type 0
NeverBeforeItself = (s : Sheet) → OrderedSheet s → (cs : List Call) (st : State) → Reached s cs st → (a : ℕ) → Ahead s st a a → ⊥

-- whatever is called, granted or refused, two different objects that are live exclude each other
abbrev pub LiveObjectsExclude : Type 0
LiveObjectsExclude =
    (s : Sheet) (cs : List Call) (st : State) → Reached s cs st → (x y : ℕ) → x ≢ y → Live s st x → Live s st y → Excludes s x y

-- two different objects exclude each other exactly when some list of starts and finishes leaves both live
abbrev pub ExclusionIsExact : Type 0
ExclusionIsExact = (s : Sheet) → OrderedSheet s → (x y : ℕ) → x ≢ y → Excludes s x y ↔ Together s (x ∷ y ∷ [])

-- the same of any number of objects
abbrev pub ExclusionIsExactForAll : Type 0
ExclusionIsExactForAll =
    (s : Sheet) → OrderedSheet s → (xs : List ℕ) → Every (λ x. x < object_count s) xs → AllExclude s xs ↔ Together s xs

-- the one witness of a list of objects: starts and finishes, all granted; it leaves all live exactly when all exclude each other
pub record Shown (s : Sheet) (xs : List ℕ) : Type 0 where
  pub calls : List Call
  pub witness : Witness s xs calls
  pub only : (others : List Call) → Witness s xs others → others ≡ calls
  pub fires : Every Fires calls
  pub state : State
  pub all_granted : Grants s (fresh s) calls state
  pub live : AllExclude s xs ↔ Every (Live s state) xs

abbrev pub WitnessShows : Type 0
WitnessShows = (s : Sheet) → OrderedSheet s → (xs : List ℕ) → Every (λ x. x < object_count s) xs → Shown s xs
