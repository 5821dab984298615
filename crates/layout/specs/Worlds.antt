-- What all banks of a fabric hold.
use Rattle.std.specs.Prelude.{◌≡◌, ℕ, ◌+◌, ◌<◌, ◌≤◌, Bool, ◌&&◌, List, [], ◌∷◌, ◌++◌, map, length, filter, ◌≢◌, nat_lt, slice_index_or}
use Rattle.rules.specs.Lists.{numbers_from}
use Rattle.rules.specs.Fitting.{Rule}
use Rattle.rules.specs.Fabrics.{Meaning, member}
use Rattle.rules.specs.Placing.{Bank, Places, Placing, Full, LacksSpace, Footprint}
use Rattle.layout.specs.declared.faults.LayoutFault.{LayoutFault}
use Rattle.layout.specs.declared.faults.LayoutFault.TheVariants.{NoGap, ShortMemory}
use Rattle.layout.specs.declared.spots.Spot.{Spot}
use Rattle.layout.specs.declared.plan_layout.BankUse.{BankUse}
use Rattle.layout.specs.Banks.{bank_over}
use Rattle.layout.specs.Spots.{homes_of, place_in}

-- what placing sees of the objects of a plan
pub record World : Type 0 where
  pub count : ℕ
  pub sizes : ℕ → ℕ
  pub excluding : ℕ → ℕ → Bool
  pub touched : ℕ → ℕ

-- the same, from its parts
abbrev pub seen : ℕ → (ℕ → ℕ) → (ℕ → ℕ → Bool) → (ℕ → ℕ) → World
seen count sizes excluding touched = record { count = count; sizes = sizes; excluding = excluding; touched = touched }

-- whether x is an object that has a home in bank b
abbrev pub home_in : World → Meaning → ℕ → ℕ → Bool
home_in w m b x = nat_lt x w.count && member (m.homes (w.touched x)) b

-- bank b of the fabric with the objects that have a home in it
abbrev pub bank_at : World → Meaning → ℕ → ℕ → Bank
bank_at w m grain b = bank_over w.sizes w.excluding (m.capacity b) grain (filter (home_in w m b) (numbers_from 0 w.count))

-- the homes of each object below n
abbrev pub homes_below : World → Meaning → ℕ → List ℕ
homes_below w m n = map (λ x. m.homes (w.touched x)) (numbers_from 0 n)

-- the size and the footprint of bank b
abbrev pub use_at : List BankUse → ℕ → BankUse
use_at banks b = slice_index_or banks b (record { capacity = 0; footprint = 0 })

-- every object of the bank has its place by the rule, and the size and the footprint are the bank's
pub record Settled (bank : Bank) (rule : Rule) (places : Places) (used : BankUse) : Type 0 where
  pub placing : Placing bank rule places
  pub full : Full bank places
  pub footprint : Footprint bank places used.footprint
  pub capacity : used.capacity ≡ bank.capacity

-- one bank more is settled, its objects fit into the memory for those that wait, and the others stay as they were
pub record Next (bank : Bank) (rule : Rule) (room b : ℕ) (banks : List BankUse) (spots : List Spot) (more : List BankUse) (table : List Spot) : Type 0 where
  pub used : BankUse
  pub pushed : more ≡ banks ++ used ∷ []
  pub settled : Settled bank rule (place_in table b) used
  pub homes : homes_of table ≡ homes_of spots
  pub others : (c : ℕ) → (c ≢ b) → (x : ℕ) → place_in table c x ≡ place_in spots c x
  pub fits : length bank.objects ≤ room

-- why the bank is not settled
abbrev pub Unsettled : Bank → Rule → ℕ → ℕ → LayoutFault → Type 0
Unsettled bank rule room b (NoGap x c) = (c ≡ b) × (length bank.objects ≤ room) × ((places : Places) × LacksSpace bank rule places x)
Unsettled bank rule room b ShortMemory = room < length bank.objects

-- the banks below n are settled
abbrev pub SettledBelow : World → Meaning → Rule → ℕ → List BankUse → List Spot → ℕ → Type 0
SettledBelow w m rule grain banks spots n = (b : ℕ) → b < n → Settled (bank_at w m grain b) rule (place_in spots b) (use_at banks b)

-- the objects of each bank below n fit into the memory for those that wait
abbrev pub FitBelow : World → Meaning → ℕ → ℕ → ℕ → Type 0
FitBelow w m grain room n = (b : ℕ) → b < n → length (bank_at w m grain b).objects ≤ room

-- all banks are settled
pub record AllSettled (w : World) (m : Meaning) (rule : Rule) (grain room : ℕ) (banks : List BankUse) (spots : List Spot) : Type 0 where
  pub homes_are : homes_of spots ≡ homes_below w m w.count
  pub counted : length banks ≡ m.banks
  pub settled : SettledBelow w m rule grain banks spots m.banks
  pub fit : FitBelow w m grain room m.banks

-- bank b is the first that lacks space, and x the first of its objects by turn that no gap holds
pub record LacksRoom (w : World) (m : Meaning) (rule : Rule) (grain x b : ℕ) : Type 0 where
  pub bank : b < m.banks
  pub places : ℕ → Places
  pub lacks : LacksSpace (bank_at w m grain b) rule (places b) x
  pub lower_by_the_rule : (c : ℕ) → c < b → Placing (bank_at w m grain c) rule (places c)
  pub lower_full : (c : ℕ) → c < b → Full (bank_at w m grain c) (places c)

-- bank b is the first whose objects are more than the memory for those that wait, and no lower one lacks space
pub record LacksMemory (w : World) (m : Meaning) (rule : Rule) (grain room : ℕ) : Type 0 where
  pub b : ℕ
  pub bank : b < m.banks
  pub short : room < length (bank_at w m grain b).objects
  pub lower_fit : FitBelow w m grain room b
  pub places : ℕ → Places
  pub lower_by_the_rule : (c : ℕ) → c < b → Placing (bank_at w m grain c) rule (places c)
  pub lower_full : (c : ℕ) → c < b → Full (bank_at w m grain c) (places c)

-- why not all banks are settled
abbrev pub NotSettled : World → Meaning → Rule → ℕ → ℕ → LayoutFault → Type 0
NotSettled w m rule grain room (NoGap x b) = LacksRoom w m rule grain x b × FitBelow w m grain room (b + 1)
NotSettled w m rule grain room ShortMemory = LacksMemory w m rule grain room
