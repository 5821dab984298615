-- What a fabric means. A set of cores or of banks is a word.
use Rattle.std.specs.Prelude.{◌≡◌, ℕ, ◌+◌, ◌*◌, ◌/◌, ◌%◌, ◌^◌, ◌<◌, Bool, true, cond, ◌&&◌, ◌||◌, ◌==◌, bit_or, count_ones, nat_lt}
use Rattle.rules.specs.declared.sheet.Machine.{Machine}
use Rattle.rules.specs.declared.sheet.Kind.{Kind}
use Rattle.rules.specs.declared.sheet.Kind.TheVariants.{Unified, Private, Hybrid}

pub record Meaning : Type 0 where
  -- how many cores and banks there are
  pub cores : ℕ
  pub banks : ℕ
  -- the bytes of a bank
  pub capacity : ℕ → ℕ
  -- whether a core reaches a bank
  pub reaches : ℕ → ℕ → Bool
  -- the set of banks in which an object has its homes, for the set of cores that touch it
  pub homes : ℕ → ℕ

-- one bank, shared by all cores, the home of everything
abbrev pub unified : ℕ → ℕ → Meaning
unified cores shared =
    record { cores = cores; banks = 1; capacity = λ b. shared; reaches = λ c b. (b == 0); homes = λ touching. 1 }

-- bank c is private to core c, and an object has a home in the bank of each core that touches it
abbrev pub separate : ℕ → ℕ → Meaning
separate cores private =
    record { cores = cores; banks = cores; capacity = λ b. private; reaches = λ c b. (c == b); homes = λ touching. touching }

-- bank 0 is shared and bank c + 1 is private to core c: an object that one core touches has that core's bank as its
-- home, any other has bank 0
abbrev pub hybrid : ℕ → ℕ → ℕ → Meaning
hybrid cores shared private =
    record {
      cores = cores;
      banks = cores + 1;
      capacity = λ b. cond (b == 0) shared private;
      reaches = λ c b. (b == 0) || (b == c + 1);
      homes = λ touching. cond (count_ones touching == 1 && nat_lt touching (2 ^ cores)) (touching * 2) 1;
    }

-- what a machine's kind says
abbrev pub by_kind : Kind → ℕ → ℕ → ℕ → Meaning
by_kind Unified cores shared private = unified cores shared
by_kind Private cores shared private = separate cores private
by_kind Hybrid cores shared private = hybrid cores shared private

-- the fabric of a machine
abbrev pub fabric_of : Machine → Meaning
fabric_of m = by_kind m.kind m.cores m.shared m.private

-- whether number k is in the set
abbrev pub member : ℕ → ℕ → Bool
member set k = (set / 2 ^ k % 2) == 1

-- a set of one or two of the cores
abbrev pub OfOneOrTwo : ℕ → ℕ → Type 0
OfOneOrTwo cores set = (a : ℕ) × (b : ℕ) × (a < cores) × (b < cores) × (set ≡ bit_or (2 ^ a) (2 ^ b))

-- the homes of an object that a set of cores touches
pub record Homely (m : Meaning) (touching : ℕ) : Type 0 where
  -- each touching core reaches a home
  pub each_reaches :
      (c : ℕ) → member touching c ≡ true → (b : ℕ) × (member (m.homes touching) b ≡ true) × (m.reaches c b ≡ true)
  -- each home is a bank
  pub homes_are_banks : (b : ℕ) → member (m.homes touching) b ≡ true → b < m.banks
  -- each home is reached by a touching core
  pub each_is_reached :
      (b : ℕ) → member (m.homes touching) b ≡ true → (c : ℕ) × (member touching c ≡ true) × (m.reaches c b ≡ true)
