-- The banks of a sheet on a fabric, and where all of its objects lie.
use Rattle.std.specs.Prelude.{◌≡◌, ℕ, ◌+◌, ◌^◌, ◌<◌, ◌≤◌, Bool, true, false, ◌&&◌, Some, None, filter, nat_lt}
use Rattle.rules.specs.Lists.{Every, numbers_from}
use Rattle.rules.specs.Stretches.{OnGrain}
use Rattle.rules.specs.Fitting.{Rule, OnTheTable}
use Rattle.rules.specs.Fabrics.{Meaning, Homely, OfOneOrTwo, member}
use Rattle.rules.specs.Sheets.{Sheet}
use Rattle.rules.specs.Order.{OrderedSheet}
use Rattle.rules.specs.Objects.{object_count, size, touching}
use Rattle.rules.specs.Exclusion.{Excludes}
use Rattle.rules.specs.Placing.{Bank, Places, Placing, Full, LacksSpace, LiesOn}

-- a fabric that keeps its meaning
pub record Lawful (m : Meaning) : Type 0 where
  pub few_banks : m.banks ≤ 16
  pub capacities_in_range : (b : ℕ) → b < m.banks → m.capacity b < 2 ^ 32
  pub homely : (set : ℕ) → OfOneOrTwo m.cores set → Homely m set

-- every actor's core is one of the fabric's
abbrev pub RunsOn : Sheet → Meaning → Type 0
RunsOn s m = Every (λ a. a.core < m.cores) s.actors

-- a sheet that can be placed on a fabric: all numbers are in range, and the fabric has every core
pub record Placeable (s : Sheet) (m : Meaning) : Type 0 where
  pub ordered : OrderedSheet s
  pub few_objects : object_count s ≤ 256
  pub sizes_in_range : (x : ℕ) → x < object_count s → (0 < size s x) × (size s x ≤ 16777216)
  pub grain_on_the_table : OnTheTable s.machine.grain
  pub lawful : Lawful m
  pub runs_on : RunsOn s m

-- whether x is an object that has a home in bank b
abbrev pub home : Sheet → Meaning → ℕ → ℕ → Bool
home s m b x = nat_lt x (object_count s) && member (m.homes (touching s x)) b

-- bank b of the fabric with the objects of the sheet that have a home in it
abbrev pub bank_of : Sheet → Meaning → ℕ → Bank
bank_of s m b = record {
  capacity = m.capacity b;
  grain = s.machine.grain;
  objects = filter (home s m b) (numbers_from 0 (object_count s));
  size = size s;
  Excludes = Excludes s;
}

-- where each object is placed in each bank
abbrev pub Layout : Type 0
Layout = ℕ → Places

-- the places that the rules give: every object has its place by the rule in each of its homes, and none elsewhere
pub record LaidOut (s : Sheet) (m : Meaning) (rule : Rule) (places : Layout) : Type 0 where
  pub by_the_rule : (b : ℕ) → b < m.banks → Placing (bank_of s m b) rule (places b)
  pub full : (b : ℕ) → b < m.banks → Full (bank_of s m b) (places b)
  pub nowhere_else : (b x : ℕ) → home s m b x ≡ false → places b x ≡ None

-- bank b is the first that lacks space, and x the first of its objects by turn that no gap holds
pub record NoRoom (s : Sheet) (m : Meaning) (rule : Rule) (b x : ℕ) : Type 0 where
  pub bank : b < m.banks
  pub places : Layout
  pub lacks : LacksSpace (bank_of s m b) rule (places b) x
  pub lower_by_the_rule : (c : ℕ) → c < b → Placing (bank_of s m c) rule (places c)
  pub lower_full : (c : ℕ) → c < b → Full (bank_of s m c) (places c)

-- no byte of the bank has both
abbrev pub ShareNoByte : Bank → Places → ℕ → ℕ → Type 0
ShareNoByte bank places x y = (b : ℕ) → LiesOn bank places x b → LiesOn bank places y b → ⊥

-- a layout that may be run, however its places were found
pub record SoundLayout (s : Sheet) (m : Meaning) (places : Layout) : Type 0 where
  -- each home has a place, on the grain and within its bank
  pub each_home_has_a_place : (b x : ℕ) → b < m.banks → home s m b x ≡ true → (p : ℕ) × (places b x ≡ Some p)
  pub on_the_grain : (b x p : ℕ) → b < m.banks → places b x ≡ Some p → OnGrain s.machine.grain p
  pub within_the_bank : (b x p : ℕ) → b < m.banks → places b x ≡ Some p → p + size s x ≤ m.capacity b
  -- objects that exclude each other share no byte of a bank
  pub excluding_share_no_byte : (b x y : ℕ) → b < m.banks → Excludes s x y → ShareNoByte (bank_of s m b) (places b) x y
