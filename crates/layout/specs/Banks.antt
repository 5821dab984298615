-- A bank as code sees it, and the items that lie in it.
use Rattle.std.specs.Prelude.{◌≡◌, ℕ, ◌+◌, ◌≤◌, Bool, true, ◌⊎◌, List, [], length, Some, Option}
use Rattle.std.specs.List.{insert}
use Rattle.std.specs.Option.{option_map}
use Rattle.rules.specs.declared.memory.Stretch.{Stretch}
use Rattle.rules.specs.Lists.{Every, Any}
use Rattle.rules.specs.Stretches.{Gaps, Blocked}
use Rattle.rules.specs.Fitting.{Rule}
use Rattle.rules.specs.Placing.{Bank, Places, Placing, Full, Footprint}
use Rattle.rules.specs.Standings.{Standing}
use Rattle.layout.specs.declared.items.Item.{Item}
use Rattle.layout.specs.declared.spots.Spot.{Spot}
use Rattle.layout.specs.Starts.{ByStart}
use Rattle.layout.specs.Items.{spans, blocking, place_of}
use Rattle.layout.specs.Spots.{spot_at, with_place}

-- the bank with these objects, of these sizes and exclusions
abbrev pub bank_over : (ℕ → ℕ) → (ℕ → ℕ → Bool) → ℕ → ℕ → List ℕ → Bank
bank_over sizes excluding capacity grain objects =
    record { capacity = capacity; grain = grain; objects = objects; size = sizes; Excludes = λ x y. excluding x y ≡ true }

-- the place in the rule's answer to the gaps that the items excluding x leave
pub record Asked (excluding : ℕ → ℕ → Bool) (rule : Rule) (capacity grain size x : ℕ) (items : List Item) (answer : Option ℕ) : Type 0 where
  pub gaps : List Stretch
  pub are_gaps : Gaps capacity (Blocked (blocking excluding x items)) gaps
  pub says : answer ≡ option_map (λ a. a.0) (rule gaps size grain)

-- an item lies where its object is placed, on as many bytes as the object has
abbrev pub Rightly : Bank → Places → Item → Type 0
Rightly bank places it = (places it.object ≡ Some it.on.start) × (it.on.end ≡ it.on.start + bank.size it.object)

-- items by place, which say where the objects that have had their turn lie
pub record Laid (bank : Bank) (rule : Rule) (done : List ℕ) (items : List Item) : Type 0 where
  pub sorted : ByStart (spans items)
  pub rightly : Every (Rightly bank (place_of items)) items
  pub standing : Standing bank rule done (place_of items)

-- f is the highest end of the items, 0 if there are none
pub record Highest (items : List Item) (f : ℕ) : Type 0 where
  pub none_above : Every (λ it. it.on.end ≤ f) items
  pub an_end : Any (λ it. f ≡ it.on.end) items ⊎ ((f ≡ 0) × (items ≡ []))

-- items that give every object its place by the rule, with the footprint f
pub record Filled (bank : Bank) (rule : Rule) (items : List Item) (f : ℕ) : Type 0 where
  pub placing : Placing bank rule (place_of items)
  pub full : Full bank (place_of items)
  pub footprint : Footprint bank (place_of items) f
  pub rightly : Every (Rightly bank (place_of items)) items

-- the turn of object x: an item more, where the rule puts x, and its place in the spots
pub record Turn (excluding : ℕ → ℕ → Bool) (rule : Rule) (capacity grain size b x : ℕ) (items more : List Item) (spots table : List Spot) : Type 0 where
  pub item : Item
  pub asked : Asked excluding rule capacity grain size x items (Some item.on.start)
  pub object : item.object ≡ x
  pub bytes : item.on.end ≡ item.on.start + size
  pub at : ℕ
  pub put : more ≡ insert items at item
  pub wide : length (spot_at spots x).places ≡ 16
  pub noted : table ≡ with_place spots x b item.on.start
