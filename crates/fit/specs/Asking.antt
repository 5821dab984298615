-- What a fit rule gives to a question from outside.
use Rattle.std.specs.Prelude.{ℕ, ◌<◌, ◌≤◌, Bool, cond, ◌&&◌, List, length, None, Some, Ok, Err, Option, Result, nat_le, nat_lt}
use Rattle.rules.specs.declared.memory.Stretch.{Stretch}
use Rattle.rules.specs.Stretches.{Every}
use Rattle.rules.specs.Fitting.{Answers, Ascending, OnTheTable, Proper, Rule, ascend_from, is_grain}
use Rattle.fit.specs.declared.faults.AskFault.{AskFault}
use Rattle.fit.specs.declared.faults.AskFault.TheVariants.{OffRange, TooMany}

-- whether a gap has a byte and ends within 32 bits
abbrev pub filled : Stretch → Bool
filled g = nat_lt g.start g.end && nat_le g.end 4294967295

-- whether size, grain and every gap are in range, however many gaps there are
abbrev pub in_range : List Stretch → ℕ → ℕ → Bool
in_range gs size grain = nat_le 1 size && (nat_le size 16777216 && (is_grain grain && ascend_from 0 gs))

-- the refusal that a question meets, or the rule's answer
abbrev pub asked : Rule → List Stretch → ℕ → ℕ → Result (Option (ℕ × ℕ)) AskFault
asked rule gs size grain =
    cond (in_range gs size grain) (cond (nat_le (length gs) 256) (Ok (rule gs size grain)) (Err TooMany)) (Err OffRange)

-- the refusal that a question meets, if it meets one
abbrev pub refusal : List Stretch → ℕ → ℕ → Option AskFault
refusal gs size grain = cond (in_range gs size grain) (cond (nat_le (length gs) 256) None (Some TooMany)) (Some OffRange)

-- all that a proper question keeps but the count of its gaps
pub record InRange (gs : List Stretch) (size grain : ℕ) : Type 0 where
  pub size_in_range : (0 < size) × (size ≤ 16777216)
  pub grain_on_the_table : OnTheTable grain
  pub gaps_in_range : Every (λ g. (g.start < g.end) × (g.end ≤ 4294967295)) gs
  pub ascending : Ascending gs

-- a question off range is refused as such, then one with too many gaps; a proper question gets the rule's answer
pub data Outcome (rule : Rule) (gs : List Stretch) (size grain : ℕ) : Result (Option (ℕ × ℕ)) AskFault → Type 0 where
  off_range : (InRange gs size grain → ⊥) → Outcome rule gs size grain (Err OffRange)
  too_many : InRange gs size grain → 256 < length gs → Outcome rule gs size grain (Err TooMany)
  answered : Proper gs size grain → Answers gs size grain (rule gs size grain) → Outcome rule gs size grain (Ok (rule gs size grain))
