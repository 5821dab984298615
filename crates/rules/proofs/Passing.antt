-- The checks of an entry in the order of their numbers.
use Rattle.std.proofs.Common.{ℕ, suc, ◌<◌, ◌≤◌, cond, eqb, subst, inl, inr, arith}
use Rattle.std.proofs.lemmas.Bool.{cases_eq}
use Rattle.rules.specs.declared.sheet.Entry.{Entry}
use Rattle.rules.specs.Lists.{Lowest}
use Rattle.rules.specs.Drafts.{Draft, InTurn, InRange, Refuses, out_of_turn, off_range, unknown_core, unknown_from, unknown_to, too_many_actors, too_many_fifos, equal_ends, across_cores, backward, Free}
use Rattle.rules.proofs.Meeting.{Unknown, HasTooMany, HasEqualEnds, Across, Against}

-- what a refusal says by its number; at a numeral it computes
abbrev pub Fails : Draft → Entry → ℕ → Type 0
Fails d e n =
    cond (eqb n 4) (InTurn d e → ⊥)
    (cond (eqb n 5) (InRange e → ⊥)
    (cond (eqb n 6) (Unknown d e)
    (cond (eqb n 7) (HasTooMany d e)
    (cond (eqb n 8) (HasEqualEnds e)
    (cond (eqb n 9) (Across d e)
    (cond (eqb n 10) (Against d e) ⊥))))))

-- an entry that refusal n meets fails the check with that number, which is one from 4 to 10
pub refusal_fails : {d : Draft} {e : Entry} {n : ℕ} → Refuses d e n → Fails d e n × (4 ≤ n) × (n ≤ 10)
refusal_fails (out_of_turn e h) = (h, omega arith, omega arith)
refusal_fails (off_range e h) = (h, omega arith, omega arith)
refusal_fails (unknown_core a h) = (h, omega arith, omega arith)
refusal_fails (unknown_from k h) = (inl h, omega arith, omega arith)
refusal_fails (unknown_to k h) = (inr h, omega arith, omega arith)
refusal_fails (too_many_actors a h) = (h, omega arith, omega arith)
refusal_fails (too_many_fifos k b h) = ((b, h), omega arith, omega arith)
refusal_fails (equal_ends k o h) = ((o, h), omega arith, omega arith)
refusal_fails (across_cores q h) = (h, omega arith, omega arith)
refusal_fails (backward k o h) = ((o, h), omega arith, omega arith)

-- no refusal with a number below n meets the entry
abbrev pub Passed : Draft → Entry → ℕ → Type 0
Passed d e n = (k : ℕ) → k < n → Refuses d e k → ⊥

-- the numbers begin with 4
pub passed_none : (d : Draft) (e : Entry) → Passed d e 4
passed_none d e k l r = omega (arith, (refusal_fails r).1)

-- one check more is passed
pub passed_more : (d : Draft) (e : Entry) (n : ℕ) → Passed d e n → (Fails d e n → ⊥) → Passed d e (suc n)
passed_more d e n p h k l r =
    elim (cases_eq k n) [ inl same ↦ h (refusal_fails (subst (λ (m : ℕ). Refuses d e m) same r)).0 | inr other ↦ p k (omega arith) r ]

-- the first check that is not passed has the lowest number
pub lowest_at : (d : Draft) (e : Entry) (n : ℕ) → Passed d e n → Refuses d e n → Lowest (Refuses d e) n
lowest_at d e n p r = record { holds = r; least = λ m q. not_below m q }
  where
    not_below : (m : ℕ) → Refuses d e m → n ≤ m
    not_below m q = let none : m < n → ⊥ = λ l. p m l q in omega arith

-- an entry that passes every check
pub free_at : (d : Draft) (e : Entry) → Passed d e 11 → Free d e
free_at d e p n r = p n (omega (arith, (refusal_fails r).2)) r
