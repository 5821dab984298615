-- The actors that wait in the queue, and those that have left it.
use Rattle.std.specs.Prelude.{◌≡◌, ℕ, zero, suc, ◌+◌, ◌<◌, Bool, true, cond, not, ◌&&◌, ◌||◌, ◌⊎◌, List, [], ◌∷◌, length, ◌==◌}
use Rattle.std.specs.List.{list_all, range_with_len}
use Rattle.words.specs.Words.{bit}
use Rattle.rules.specs.declared.sheet.Link.{Link}
use Rattle.rules.specs.Lists.{Every}
use Rattle.rules.specs.Order.{OrderedSheet}
use Rattle.rules.specs.Sheets.{Sheet, actor_count}
use Rattle.graph.specs.Rows.{before}
use Rattle.graph.specs.Orders.{Heard, Meant}
use Rattle.lean.specs.declared.ready.ReadyActor.{ReadyActor}
use Rattle.lean.specs.Nets.{net_of}

-- how many numbers below n pass
abbrev pub count_of : (ℕ → Bool) → ℕ → ℕ
count_of p zero = 0
count_of p (suc n) = cond (p n) 1 0 + count_of p n

-- how often actor a is in the queue
abbrev pub times : ℕ → List ReadyActor → ℕ
times a [] = 0
times a (w ∷ ws) = cond (w.actor == a) 1 0 + times a ws

-- all that the rows put before actor a is listed
abbrev pub Free : List ℕ → ℕ → ℕ → Type 0
Free rows listed a = (b : ℕ) → before rows b a ≡ true → bit listed b ≡ true

-- the same, as a test: actors have numbers below 64
abbrev pub is_free : List ℕ → ℕ → ℕ → Bool
is_free rows listed a = list_all (λ b. not (before rows b a) || bit listed b) (range_with_len 0 64)

-- the queue holds, once each and with its net change, exactly the actors that entered it and are not listed
pub record Queued (links : List Link) (count listed entered : ℕ) (queue : List ReadyActor) : Type 0 where
  pub known : (a : ℕ) → bit entered a ≡ true → a < count
  pub within : (a : ℕ) → bit listed a ≡ true → bit entered a ≡ true
  pub nets : Every (λ w. w.net ≡ net_of links w.actor) queue
  pub once : (a : ℕ) → times a queue ≡ cond (bit entered a && not (bit listed a)) 1 0
  pub many : length queue + count_of (bit listed) count ≡ count_of (bit entered) count

-- free actors entered, among them all below n
pub record Entered (rows : List ℕ) (listed n old new : ℕ) : Type 0 where
  pub only : (a : ℕ) → bit new a ≡ true → (bit old a ≡ true) ⊎ Free rows listed a
  pub kept : (a : ℕ) → bit old a ≡ true → bit new a ≡ true
  pub every : (a : ℕ) → a < n → Free rows listed a → bit new a ≡ true

-- links, rows and count are those of the sheet
pub record Describes (links : List Link) (rows : List ℕ) (count : ℕ) (s : Sheet) : Type 0 where
  pub links_are : links ≡ s.links
  pub count_is : count ≡ actor_count s
  pub ordered : OrderedSheet s
  pub heard : Heard rows s.links
  pub meant : Meant rows s.links
