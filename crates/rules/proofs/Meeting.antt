-- The checks of an entry one by one, by cases of the entry.
use Rattle.std.proofs.Common.{◌≡◌, ℕ, ◌≤◌, ◌⊎◌, List, [], length, inl, inr}
use Rattle.rules.specs.declared.sheet.Layer.{Layer}
use Rattle.rules.specs.declared.sheet.Layer.TheVariants.{LowLine, SnugLimit}
use Rattle.rules.specs.declared.sheet.Link.TheVariants.{Plain, Delayed, Ordered}
use Rattle.rules.specs.declared.sheet.Entry.{Entry}
use Rattle.rules.specs.declared.sheet.Entry.TheVariants.{OnMachine, ByFit, WithLayer, NextActor, NextLink}
use Rattle.rules.specs.Lists.{◌∈◌}
use Rattle.rules.specs.Sheets.{core_in}
use Rattle.rules.specs.Order.{Linked, edges}
use Rattle.rules.specs.Drafts.{Draft, nothing, machined, sheet, cores_of, actors_of, links_of, InTurn, machine_first, fit_next, low_once, snug_once, actor_then, link_last, from, to, fifo_count, Orders, Buffers, Refuses, unknown_core, unknown_from, unknown_to, too_many_actors, too_many_fifos, equal_ends, across_cores, backward}

-- ---- the turn

-- no low line is there yet
abbrev pub NoLow : List Layer → Type 0
NoLow layers = (k : ℕ) → LowLine k ∈ layers → ⊥

-- no snug limit is there yet
abbrev pub NoSnug : List Layer → Type 0
NoSnug layers = (k : ℕ) → SnugLimit k ∈ layers → ⊥

-- when an entry comes in turn
abbrev pub Turn : Draft → Entry → Type 0
Turn nothing (OnMachine m) = Unit {0}
Turn nothing (ByFit f) = ⊥
Turn nothing (WithLayer l) = ⊥
Turn nothing (NextActor a) = ⊥
Turn nothing (NextLink k) = ⊥
Turn (machined m) (OnMachine n) = ⊥
Turn (machined m) (ByFit f) = Unit {0}
Turn (machined m) (WithLayer l) = ⊥
Turn (machined m) (NextActor a) = ⊥
Turn (machined m) (NextLink k) = ⊥
Turn (sheet s) (OnMachine m) = ⊥
Turn (sheet s) (ByFit f) = ⊥
Turn (sheet s) (WithLayer (LowLine n)) = (s.actors ≡ []) × (s.links ≡ []) × NoLow s.layers
Turn (sheet s) (WithLayer (SnugLimit n)) = (s.actors ≡ []) × (s.links ≡ []) × NoSnug s.layers
Turn (sheet s) (NextActor a) = s.links ≡ []
Turn (sheet s) (NextLink k) = s.actors ≡ [] → ⊥

-- an entry in turn, by cases
pub turns : {d : Draft} {e : Entry} → InTurn d e → Turn d e
turns (machine_first m) = tt
turns (fit_next m f) = tt
turns (low_once s n a k l) = (a, k, l)
turns (snug_once s n a k l) = (a, k, l)
turns (actor_then s a k) = k
turns (link_last s k a) = a

-- and back
pub in_turn : (d : Draft) (e : Entry) → Turn d e → InTurn d e
in_turn nothing (OnMachine m) t = machine_first m
in_turn nothing (ByFit f) t = absurd t
in_turn nothing (WithLayer l) t = absurd t
in_turn nothing (NextActor a) t = absurd t
in_turn nothing (NextLink k) t = absurd t
in_turn (machined m) (OnMachine n) t = absurd t
in_turn (machined m) (ByFit f) t = fit_next m f
in_turn (machined m) (WithLayer l) t = absurd t
in_turn (machined m) (NextActor a) t = absurd t
in_turn (machined m) (NextLink k) t = absurd t
in_turn (sheet s) (OnMachine m) t = absurd t
in_turn (sheet s) (ByFit f) t = absurd t
in_turn (sheet s) (WithLayer (LowLine n)) t = low_once s n t.0 t.1 t.2
in_turn (sheet s) (WithLayer (SnugLimit n)) t = snug_once s n t.0 t.1 t.2
in_turn (sheet s) (NextActor a) t = actor_then s a t
in_turn (sheet s) (NextLink k) t = link_last s k t

-- ---- the other checks

-- it names a core or an actor that is not there: number 6
abbrev pub Unknown : Draft → Entry → Type 0
Unknown d (OnMachine m) = ⊥
Unknown d (ByFit f) = ⊥
Unknown d (WithLayer l) = ⊥
Unknown d (NextActor a) = cores_of d ≤ a.core
Unknown d (NextLink k) = (length (actors_of d) ≤ from k) ⊎ (length (actors_of d) ≤ to k)

-- there are as many already as may be: number 7
abbrev pub HasTooMany : Draft → Entry → Type 0
HasTooMany d (OnMachine m) = ⊥
HasTooMany d (ByFit f) = ⊥
HasTooMany d (WithLayer l) = ⊥
HasTooMany d (NextActor a) = 64 ≤ length (actors_of d)
HasTooMany d (NextLink k) = Buffers k × (192 ≤ fifo_count (links_of d))

-- it orders an actor before itself: number 8
abbrev pub HasEqualEnds : Entry → Type 0
HasEqualEnds (OnMachine m) = ⊥
HasEqualEnds (ByFit f) = ⊥
HasEqualEnds (WithLayer l) = ⊥
HasEqualEnds (NextActor a) = ⊥
HasEqualEnds (NextLink k) = Orders k × (from k ≡ to k)

-- it orders actors of two cores: number 9
abbrev pub Across : Draft → Entry → Type 0
Across d (OnMachine m) = ⊥
Across d (ByFit f) = ⊥
Across d (WithLayer l) = ⊥
Across d (NextActor a) = ⊥
Across d (NextLink (Plain f)) = ⊥
Across d (NextLink (Delayed f)) = ⊥
Across d (NextLink (Ordered q)) = core_in (actors_of d) q.first ≡ core_in (actors_of d) q.second → ⊥

-- it goes against the order so far: number 10
abbrev pub Against : Draft → Entry → Type 0
Against d (OnMachine m) = ⊥
Against d (ByFit f) = ⊥
Against d (WithLayer l) = ⊥
Against d (NextActor a) = ⊥
Against d (NextLink k) = Orders k × Linked (edges (links_of d)) (to k) (from k)

-- ---- each with its number

-- 6
pub unknown_refuses : (d : Draft) (e : Entry) → Unknown d e → Refuses d e 6
unknown_refuses d (OnMachine m) h = absurd h
unknown_refuses d (ByFit f) h = absurd h
unknown_refuses d (WithLayer l) h = absurd h
unknown_refuses d (NextActor a) h = unknown_core a h
unknown_refuses d (NextLink k) (inl h) = unknown_from k h
unknown_refuses d (NextLink k) (inr h) = unknown_to k h

-- 7
pub too_many_refuses : (d : Draft) (e : Entry) → HasTooMany d e → Refuses d e 7
too_many_refuses d (OnMachine m) h = absurd h
too_many_refuses d (ByFit f) h = absurd h
too_many_refuses d (WithLayer l) h = absurd h
too_many_refuses d (NextActor a) h = too_many_actors a h
too_many_refuses d (NextLink k) h = too_many_fifos k h.0 h.1

-- 8
pub equal_ends_refuses : (d : Draft) (e : Entry) → HasEqualEnds e → Refuses d e 8
equal_ends_refuses d (OnMachine m) h = absurd h
equal_ends_refuses d (ByFit f) h = absurd h
equal_ends_refuses d (WithLayer l) h = absurd h
equal_ends_refuses d (NextActor a) h = absurd h
equal_ends_refuses d (NextLink k) h = equal_ends k h.0 h.1

-- 9
pub across_refuses : (d : Draft) (e : Entry) → Across d e → Refuses d e 9
across_refuses d (OnMachine m) h = absurd h
across_refuses d (ByFit f) h = absurd h
across_refuses d (WithLayer l) h = absurd h
across_refuses d (NextActor a) h = absurd h
across_refuses d (NextLink (Plain f)) h = absurd h
across_refuses d (NextLink (Delayed f)) h = absurd h
across_refuses d (NextLink (Ordered q)) h = across_cores q h

-- 10
pub against_refuses : (d : Draft) (e : Entry) → Against d e → Refuses d e 10
against_refuses d (OnMachine m) h = absurd h
against_refuses d (ByFit f) h = absurd h
against_refuses d (WithLayer l) h = absurd h
against_refuses d (NextActor a) h = absurd h
against_refuses d (NextLink k) h = backward k h.0 h.1
