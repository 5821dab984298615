-- Every entry is judged: some refusal with the lowest number meets it, or none does. All of it computes.
use Rattle.std.proofs.Common.{◌≡◌, ℕ, ◌≤◌, Bool, true, false, ◌⊎◌, List, [], ◌∷◌, length, sym, refl, ap, ◌∙◌, inl, inr, arith}
use native.Mathlib.Decide.{dec_le}
use Rattle.std.proofs.lemmas.Bool.{both_ways}
use Rattle.rules.specs.declared.sheet.Kind.{Kind}
use Rattle.rules.specs.declared.sheet.Kind.TheVariants.{Unified, Private, Hybrid}
use Rattle.rules.specs.declared.sheet.Layer.{Layer}
use Rattle.rules.specs.declared.sheet.Layer.TheVariants.{LowLine, SnugLimit}
use Rattle.rules.specs.declared.sheet.Link.{Link}
use Rattle.rules.specs.declared.sheet.Link.TheVariants.{Plain, Delayed, Ordered}
use Rattle.rules.specs.declared.sheet.Entry.{Entry}
use Rattle.rules.specs.declared.sheet.Entry.TheVariants.{OnMachine, ByFit, WithLayer, NextActor, NextLink}
use Rattle.rules.specs.Lists.{Lowest}
use Rattle.rules.specs.Fitting.{OnTheTable, is_grain}
use Rattle.rules.specs.Sheets.{Sheet, core_in}
use Rattle.rules.specs.Order.{edges}
use Rattle.rules.specs.Drafts.{Draft, nothing, machined, sheet, cores_of, actors_of, links_of, InTurn, Size, Lacking, InRange, from, to, fifo_count, Buffers, plain, delayed, Refuses, out_of_turn, off_range, Free}
use Rattle.rules.specs.Reading.{Complete}
use Rattle.rules.proofs.Questions.{table_from_test, test_from_table}
use Rattle.rules.proofs.Deciding.{Decided, decided, turned, not, both, either, same_number, by_decision}
use Rattle.rules.proofs.Orderings.{linked}
use Rattle.rules.proofs.Joining.{orders}
use Rattle.rules.proofs.Meeting.{NoLow, NoSnug, Turn, turns, in_turn, Unknown, HasTooMany, HasEqualEnds, Across, Against, unknown_refuses, too_many_refuses, equal_ends_refuses, across_refuses, against_refuses}
use Rattle.rules.proofs.Passing.{Passed, passed_none, passed_more, lowest_at, free_at}

-- whether one number is at most another
unfoldable pub at_most : (a b : ℕ) → Decided (a ≤ b)
unfolding decided dec_le
at_most a b = decided (dec_le a b)

-- whether a list is empty
unfoldable pub empty : {X : Type 0} (xs : List X) → Decided (xs ≡ [])
empty [] = inl refl
empty (x ∷ xs) = inr (λ e. let z : ◌≡◌ {A = ℕ} 0 1 = cc in omega arith)

-- ---- the turn

-- whether no low line is there yet
unfoldable pub no_low : (layers : List Layer) → Decided (NoLow layers)
no_low [] = inl (λ k m. m)
no_low (LowLine n ∷ layers) = inr (λ none. none n (inl refl))
no_low (SnugLimit n ∷ layers) =
    elim (no_low layers) [
      | inl none ↦ inl (λ k m. elim m [ inl e ↦ let z : ◌≡◌ {A = ℕ} 0 1 = cc in omega arith | inr m ↦ none k m ])
      | inr some ↦ inr (λ none. some (λ k m. none k (inr m)))
    ]

-- whether no snug limit is there yet
unfoldable pub no_snug : (layers : List Layer) → Decided (NoSnug layers)
no_snug [] = inl (λ k m. m)
no_snug (SnugLimit n ∷ layers) = inr (λ none. none n (inl refl))
no_snug (LowLine n ∷ layers) =
    elim (no_snug layers) [
      | inl none ↦ inl (λ k m. elim m [ inl e ↦ let z : ◌≡◌ {A = ℕ} 0 1 = cc in omega arith | inr m ↦ none k m ])
      | inr some ↦ inr (λ none. some (λ k m. none k (inr m)))
    ]

all_three : {A B C : Type 0} → Decided A → Decided B → Decided C → Decided (A × B × C)
all_three (inl a) (inl b) (inl c) = inl (a, b, c)
all_three (inl a) (inl b) (inr n) = inr (λ p. n p.2)
all_three (inl a) (inr n) c = inr (λ p. n p.1)
all_three (inr n) b c = inr (λ p. n p.0)

-- the turn, by cases
unfoldable pub turn_cases : (d : Draft) (e : Entry) → Decided (Turn d e)
unfolding all_three empty no_low no_snug not
turn_cases nothing (OnMachine m) = inl tt
turn_cases nothing (ByFit f) = inr (λ t. t)
turn_cases nothing (WithLayer l) = inr (λ t. t)
turn_cases nothing (NextActor a) = inr (λ t. t)
turn_cases nothing (NextLink k) = inr (λ t. t)
turn_cases (machined m) (OnMachine n) = inr (λ t. t)
turn_cases (machined m) (ByFit f) = inl tt
turn_cases (machined m) (WithLayer l) = inr (λ t. t)
turn_cases (machined m) (NextActor a) = inr (λ t. t)
turn_cases (machined m) (NextLink k) = inr (λ t. t)
turn_cases (sheet s) (OnMachine m) = inr (λ t. t)
turn_cases (sheet s) (ByFit f) = inr (λ t. t)
turn_cases (sheet s) (WithLayer (LowLine n)) = all_three (empty s.actors) (empty s.links) (no_low s.layers)
turn_cases (sheet s) (WithLayer (SnugLimit n)) = all_three (empty s.actors) (empty s.links) (no_snug s.layers)
turn_cases (sheet s) (NextActor a) = empty s.links
turn_cases (sheet s) (NextLink k) = not (empty s.actors)

-- whether an entry comes in turn
unfoldable pub turn_decided : (d : Draft) (e : Entry) → Decided (InTurn d e)
unfolding turned turn_cases
turn_decided d e = turned (in_turn d e) (λ t. turns t) (turn_cases d e)

-- ---- the range

-- whether a grain is on the table
unfoldable pub grain_decided : (g : ℕ) → Decided (OnTheTable g)
grain_decided g = by_test (is_grain g) refl
  where
    by_test : (b : Bool) → is_grain g ≡ b → Decided (OnTheTable g)
    by_test true t = inl (table_from_test g t)
    by_test false t = inr (λ h. both_ways (is_grain g) t (test_from_table g h))

-- whether the memory that a kind lacks has no bytes
unfoldable pub lacking_decided : (k : Kind) (shared private : ℕ) → Decided (Lacking k shared private)
unfolding same_number
lacking_decided Unified shared private = same_number private 0
lacking_decided Private shared private = same_number shared 0
lacking_decided Hybrid shared private = inl tt

-- whether an object may have a size
unfoldable pub size_decided : (n : ℕ) → Decided (Size n)
unfolding both at_most
size_decided n = both (at_most 1 n) (λ l. at_most n 16777216)

-- whether the numbers of an entry are in range
unfoldable pub range_decided : (e : Entry) → Decided (InRange e)
unfolding turned both at_most grain_decided lacking_decided size_decided
range_decided (OnMachine m) =
    turned (λ p. (p.0.0, p.0.1, p.1.0, p.1.1)) (λ q. ((q.0, q.1), (q.2, q.3)))
    (both (both (at_most 1 m.cores) (λ l. at_most m.cores 8))
    (λ c. both (grain_decided m.grain) (λ g. lacking_decided m.kind m.shared m.private)))
range_decided (ByFit f) = inl tt
range_decided (WithLayer (LowLine n)) = at_most 1 n
range_decided (WithLayer (SnugLimit n)) = inl tt
range_decided (NextActor a) = at_most a.work 16777216
range_decided (NextLink (Plain f)) = size_decided f.size
range_decided (NextLink (Delayed f)) = size_decided f.size
range_decided (NextLink (Ordered q)) = inl tt

-- ---- the other checks

-- whether an entry names a core or an actor that is not there
unfoldable pub unknown_decided : (d : Draft) (e : Entry) → Decided (Unknown d e)
unfolding either at_most
unknown_decided d (OnMachine m) = inr (λ h. h)
unknown_decided d (ByFit f) = inr (λ h. h)
unknown_decided d (WithLayer l) = inr (λ h. h)
unknown_decided d (NextActor a) = at_most (cores_of d) a.core
unknown_decided d (NextLink k) = either (at_most (length (actors_of d)) (from k)) (λ l. at_most (length (actors_of d)) (to k))

-- whether a link is a FIFO
unfoldable pub buffers_decided : (k : Link) → Decided (Buffers k)
buffers_decided (Plain f) = inl (plain f)
buffers_decided (Delayed f) = inl (delayed f)
buffers_decided (Ordered q) = inr (λ b. elim b [ ])

-- whether there are as many already as may be
unfoldable pub too_many_decided : (d : Draft) (e : Entry) → Decided (HasTooMany d e)
unfolding both at_most buffers_decided
too_many_decided d (OnMachine m) = inr (λ h. h)
too_many_decided d (ByFit f) = inr (λ h. h)
too_many_decided d (WithLayer l) = inr (λ h. h)
too_many_decided d (NextActor a) = at_most 64 (length (actors_of d))
too_many_decided d (NextLink k) = both (buffers_decided k) (λ b. at_most 192 (fifo_count (links_of d)))

-- whether an entry orders an actor before itself
unfoldable pub equal_ends_decided : (e : Entry) → Decided (HasEqualEnds e)
unfolding both same_number orders
equal_ends_decided (OnMachine m) = inr (λ h. h)
equal_ends_decided (ByFit f) = inr (λ h. h)
equal_ends_decided (WithLayer l) = inr (λ h. h)
equal_ends_decided (NextActor a) = inr (λ h. h)
equal_ends_decided (NextLink k) = both (orders k) (λ o. same_number (from k) (to k))

-- whether it orders actors of two cores
unfoldable pub across_decided : (d : Draft) (e : Entry) → Decided (Across d e)
unfolding not same_number
across_decided d (OnMachine m) = inr (λ h. h)
across_decided d (ByFit f) = inr (λ h. h)
across_decided d (WithLayer l) = inr (λ h. h)
across_decided d (NextActor a) = inr (λ h. h)
across_decided d (NextLink (Plain f)) = inr (λ h. h)
across_decided d (NextLink (Delayed f)) = inr (λ h. h)
across_decided d (NextLink (Ordered q)) = not (same_number (core_in (actors_of d) q.first) (core_in (actors_of d) q.second))

-- whether it goes against the order so far
unfoldable pub against_decided : (d : Draft) (e : Entry) → Decided (Against d e)
unfolding both orders linked
against_decided d (OnMachine m) = inr (λ h. h)
against_decided d (ByFit f) = inr (λ h. h)
against_decided d (WithLayer l) = inr (λ h. h)
against_decided d (NextActor a) = inr (λ h. h)
against_decided d (NextLink k) = both (orders k) (λ o. linked (edges (links_of d)) (to k) (from k))

-- ---- all of them

-- a refusal with the lowest number meets it, or none does
abbrev pub Judged : Draft → Entry → Type 0
Judged d e = ((n : ℕ) × Lowest (Refuses d e) n) ⊎ Free d e

-- every entry is judged, by its checks in their order
unfoldable pub judged : (d : Draft) (e : Entry) → Judged d e
unfolding turn_decided range_decided unknown_decided too_many_decided equal_ends_decided across_decided against_decided
judged d e = by_turn (turn_decided d e)
  where
    by_against : Passed d e 10 → Decided (Against d e) → Judged d e
    by_against p (inl h) = inl (10, lowest_at d e 10 p (against_refuses d e h))
    by_against p (inr h) = inr (free_at d e (passed_more d e 10 p h))

    by_across : Passed d e 9 → Decided (Across d e) → Judged d e
    by_across p (inl h) = inl (9, lowest_at d e 9 p (across_refuses d e h))
    by_across p (inr h) = by_against (passed_more d e 9 p h) (against_decided d e)

    by_ends : Passed d e 8 → Decided (HasEqualEnds e) → Judged d e
    by_ends p (inl h) = inl (8, lowest_at d e 8 p (equal_ends_refuses d e h))
    by_ends p (inr h) = by_across (passed_more d e 8 p h) (across_decided d e)

    by_count : Passed d e 7 → Decided (HasTooMany d e) → Judged d e
    by_count p (inl h) = inl (7, lowest_at d e 7 p (too_many_refuses d e h))
    by_count p (inr h) = by_ends (passed_more d e 7 p h) (equal_ends_decided e)

    by_names : Passed d e 6 → Decided (Unknown d e) → Judged d e
    by_names p (inl h) = inl (6, lowest_at d e 6 p (unknown_refuses d e h))
    by_names p (inr h) = by_count (passed_more d e 6 p h) (too_many_decided d e)

    by_range : Passed d e 5 → Decided (InRange e) → Judged d e
    by_range p (inl h) = by_names (passed_more d e 5 p (λ none. none h)) (unknown_decided d e)
    by_range p (inr h) = inl (5, lowest_at d e 5 p (off_range e h))

    by_turn : Decided (InTurn d e) → Judged d e
    by_turn (inl h) = by_range (passed_more d e 4 (passed_none d e) (λ none. none h)) (range_decided e)
    by_turn (inr h) = inl (4, lowest_at d e 4 (passed_none d e) (out_of_turn e h))

-- what no refusal meets comes in turn
pub free_in_turn : (d : Draft) (e : Entry) → Free d e → InTurn d e
free_in_turn d e free = by_decision (turn_decided d e) (λ h. free 4 (out_of_turn e h))

-- and its numbers are in range
pub free_in_range : (d : Draft) (e : Entry) → Free d e → InRange e
free_in_range d e free = by_decision (range_decided e) (λ h. free 5 (off_range e h))

-- whether nothing is missing
unfoldable pub complete_decided : (d : Draft) → ((s : Sheet) × Complete d s) ⊎ ((s : Sheet) → Complete d s → ⊥)
unfolding empty
complete_decided nothing = inr (λ s c. let p = c.0 in let z : ◌≡◌ {A = ℕ} 0 1 = cc in omega arith)
complete_decided (machined m) = inr (λ s c. let p = c.0 in let z : ◌≡◌ {A = ℕ} 0 1 = cc in omega arith)
complete_decided (sheet s) = by_actors (empty s.actors)
  where
    by_actors : Decided (s.actors ≡ []) → ((t : Sheet) × Complete (sheet s) t) ⊎ ((t : Sheet) → Complete (sheet s) t → ⊥)
    by_actors (inl none) = inr (λ t c. let p = c.0 in let q : s ≡ t = cc in c.1 (sym (ap (λ (x : Sheet). x.actors) q) ∙ none))
    by_actors (inr some) = inl (s, (refl, some))
