-- A sheet as it grows line by line, and which entries may come next.
use Rattle.std.specs.Prelude.{◌≡◌, ℕ, ◌+◌, ◌≤◌, List, [], ◌∷◌, ◌++◌, length, ◌≢◌}
use Rattle.rules.specs.declared.sheet.Kind.{Kind}
use Rattle.rules.specs.declared.sheet.Kind.TheVariants.{Unified, Private, Hybrid}
use Rattle.rules.specs.declared.sheet.Machine.{Machine}
use Rattle.rules.specs.declared.sheet.Fit.{Fit}
use Rattle.rules.specs.declared.sheet.Layer.TheVariants.{LowLine, SnugLimit}
use Rattle.rules.specs.declared.sheet.Actor.{Actor}
use Rattle.rules.specs.declared.sheet.Fifo.{Fifo}
use Rattle.rules.specs.declared.sheet.Sequence.{Sequence}
use Rattle.rules.specs.declared.sheet.Link.{Link}
use Rattle.rules.specs.declared.sheet.Link.TheVariants.{Plain, Delayed, Ordered}
use Rattle.rules.specs.declared.sheet.Entry.{Entry}
use Rattle.rules.specs.declared.sheet.Entry.TheVariants.{OnMachine, ByFit, WithLayer, NextActor, NextLink}
use Rattle.rules.specs.Lists.{◌∈◌}
use Rattle.rules.specs.Fitting.{OnTheTable}
use Rattle.rules.specs.Order.{Linked, edges}
use Rattle.rules.specs.Sheets.{Sheet, core_in}

-- what has been read so far: nothing, the machine alone, or a sheet that may still grow
pub data Draft : Type 0 where
  nothing : Draft
  machined : Machine → Draft
  sheet : Sheet → Draft

abbrev pub cores_of : Draft → ℕ
cores_of nothing = 0
cores_of (machined m) = m.cores
cores_of (sheet s) = s.machine.cores

abbrev pub actors_of : Draft → List Actor
actors_of nothing = []
actors_of (machined m) = []
actors_of (sheet s) = s.actors

abbrev pub links_of : Draft → List Link
links_of nothing = []
links_of (machined m) = []
links_of (sheet s) = s.links

-- an entry comes in turn: one machine, one fit, at most one low line and one snug limit in either order, actors, then links
pub data InTurn : Draft → Entry → Type 0 where
  machine_first : (m : Machine) → InTurn nothing (OnMachine m)
  fit_next : (m : Machine) (f : Fit) → InTurn (machined m) (ByFit f)
  low_once : (s : Sheet) (n : ℕ) → s.actors ≡ [] → s.links ≡ [] → ((k : ℕ) → LowLine k ∈ s.layers → ⊥) → InTurn (sheet s) (WithLayer (LowLine n))
  snug_once : (s : Sheet) (n : ℕ) → s.actors ≡ [] → s.links ≡ [] → ((k : ℕ) → SnugLimit k ∈ s.layers → ⊥) → InTurn (sheet s) (WithLayer (SnugLimit n))
  actor_then : (s : Sheet) (a : Actor) → s.links ≡ [] → InTurn (sheet s) (NextActor a)
  link_last : (s : Sheet) (k : Link) → (s.actors ≢ []) → InTurn (sheet s) (NextLink k)

-- a size that an object may have
abbrev pub Size : ℕ → Type 0
Size n = (1 ≤ n) × (n ≤ 16777216)

-- the memory that a kind lacks has no bytes
abbrev pub Lacking : Kind → ℕ → ℕ → Type 0
Lacking Unified shared private = private ≡ 0
Lacking Private shared private = shared ≡ 0
Lacking Hybrid shared private = Unit {0}

-- the numbers of an entry are in range
abbrev pub InRange : Entry → Type 0
InRange (OnMachine m) = (1 ≤ m.cores) × (m.cores ≤ 8) × OnTheTable m.grain × Lacking m.kind m.shared m.private
InRange (ByFit f) = Unit {0}
InRange (WithLayer (LowLine n)) = 1 ≤ n
InRange (WithLayer (SnugLimit n)) = Unit {0}
InRange (NextActor a) = a.work ≤ 16777216
InRange (NextLink (Plain f)) = Size f.size
InRange (NextLink (Delayed f)) = Size f.size
InRange (NextLink (Ordered q)) = Unit {0}

-- the actors that a link names
abbrev pub from : Link → ℕ
from (Plain f) = f.from
from (Delayed f) = f.from
from (Ordered q) = q.first

abbrev pub to : Link → ℕ
to (Plain f) = f.to
to (Delayed f) = f.to
to (Ordered q) = q.second

-- how many of the links are FIFOs
abbrev pub fifo_count : List Link → ℕ
fifo_count [] = 0
fifo_count (Plain f ∷ ks) = 1 + fifo_count ks
fifo_count (Delayed f ∷ ks) = 1 + fifo_count ks
fifo_count (Ordered q ∷ ks) = fifo_count ks

-- a link that orders its ends: a FIFO without initial tokens, or an ordering
pub data Orders : Link → Type 0 where
  by_fifo : (f : Fifo) → Orders (Plain f)
  by_sequence : (q : Sequence) → Orders (Ordered q)

-- a link that is a FIFO
pub data Buffers : Link → Type 0 where
  plain : (f : Fifo) → Buffers (Plain f)
  delayed : (f : Fifo) → Buffers (Delayed f)

-- refusal n meets a well-written entry
pub data Refuses (d : Draft) : Entry → ℕ → Type 0 where
  out_of_turn : (e : Entry) → (InTurn d e → ⊥) → Refuses d e 4
  off_range : (e : Entry) → (InRange e → ⊥) → Refuses d e 5
  unknown_core : (a : Actor) → cores_of d ≤ a.core → Refuses d (NextActor a) 6
  unknown_from : (k : Link) → length (actors_of d) ≤ from k → Refuses d (NextLink k) 6
  unknown_to : (k : Link) → length (actors_of d) ≤ to k → Refuses d (NextLink k) 6
  too_many_actors : (a : Actor) → 64 ≤ length (actors_of d) → Refuses d (NextActor a) 7
  too_many_fifos : (k : Link) → Buffers k → 192 ≤ fifo_count (links_of d) → Refuses d (NextLink k) 7
  equal_ends : (k : Link) → Orders k → from k ≡ to k → Refuses d (NextLink k) 8
  across_cores : (q : Sequence) → (core_in (actors_of d) q.first ≢ core_in (actors_of d) q.second) → Refuses d (NextLink (Ordered q)) 9
  backward : (k : Link) → Orders k → Linked (edges (links_of d)) (to k) (from k) → Refuses d (NextLink k) 10

-- no refusal meets it
abbrev pub Free : Draft → Entry → Type 0
Free d e = (n : ℕ) → Refuses d e n → ⊥

-- the draft with an entry added; one out of turn adds nothing
abbrev pub next : Draft → Entry → Draft
next nothing (OnMachine m) = machined m
next nothing (ByFit f) = nothing
next nothing (WithLayer l) = nothing
next nothing (NextActor a) = nothing
next nothing (NextLink k) = nothing
next (machined m) (OnMachine n) = machined m
next (machined m) (ByFit f) = sheet (record { machine = m; fit = f; layers = []; actors = []; links = [] })
next (machined m) (WithLayer l) = machined m
next (machined m) (NextActor a) = machined m
next (machined m) (NextLink k) = machined m
next (sheet s) (OnMachine m) = sheet s
next (sheet s) (ByFit f) = sheet s
next (sheet s) (WithLayer l) = sheet (record { machine = s.machine; fit = s.fit; layers = s.layers ++ (l ∷ []); actors = s.actors; links = s.links })
next (sheet s) (NextActor a) = sheet (record { machine = s.machine; fit = s.fit; layers = s.layers; actors = s.actors ++ (a ∷ []); links = s.links })
next (sheet s) (NextLink k) = sheet (record { machine = s.machine; fit = s.fit; layers = s.layers; actors = s.actors; links = s.links ++ (k ∷ []) })
