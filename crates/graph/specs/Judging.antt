-- The checks of a line in the order they are tried: what the private functions of the reader cite.
use Rattle.std.specs.List.{list_any}
use Rattle.std.specs.Prelude.{ℕ, Bool, true, false, cond, not, ◌&&◌, List, Some, None, Option, ◌==◌, nat_le, nat_lt}
use Rattle.rules.specs.declared.sheet.Machine.{Machine}
use Rattle.rules.specs.declared.sheet.Layer.{Layer}
use Rattle.rules.specs.declared.sheet.Layer.TheVariants.{LowLine, SnugLimit}
use Rattle.rules.specs.declared.sheet.Actor.{Actor}
use Rattle.rules.specs.declared.sheet.Fifo.{Fifo}
use Rattle.rules.specs.declared.sheet.Sequence.{Sequence}
use Rattle.graph.specs.declared.faults.Refusal.{Refusal}
use Rattle.graph.specs.declared.faults.Refusal.TheVariants.{OutOfTurn, OffRange, Unknown, TooMany, EqualEnds, AcrossCores, Backward}
use Rattle.graph.specs.declared.stage.Stage.{Stage}
use Rattle.graph.specs.declared.stage.Stage.TheVariants.{Blank, Machined, Ruled}
use Rattle.graph.specs.Ranges.{machine_in_range, size_in_range}
use Rattle.graph.specs.Rows.{may_join}

-- passed, or refused so
abbrev pub unless : Bool → Refusal → Option Refusal → Option Refusal
unless passed f rest = cond passed rest (Some f)

abbrev pub judge_machine : Stage → Machine → Option Refusal
judge_machine Blank m = unless (machine_in_range m) OffRange None
judge_machine (Machined n) m = Some OutOfTurn
judge_machine (Ruled n f) m = Some OutOfTurn

abbrev pub judge_fit : Stage → Option Refusal
judge_fit Blank = Some OutOfTurn
judge_fit (Machined n) = None
judge_fit (Ruled n f) = Some OutOfTurn

-- whether two layers are of one sort
abbrev pub same_sort : Layer → Layer → Bool
same_sort (LowLine m) (LowLine n) = true
same_sort (LowLine m) (SnugLimit n) = false
same_sort (SnugLimit m) (LowLine n) = false
same_sort (SnugLimit m) (SnugLimit n) = true

-- whether a layer of the sort is there
abbrev pub has_sort : Layer → List Layer → Bool
has_sort l ks = list_any (λ k. same_sort k l) ks

abbrev pub layer_in_range : Layer → Bool
layer_in_range (LowLine n) = nat_le 1 n
layer_in_range (SnugLimit n) = true

-- with so many actors before
abbrev pub judge_layer : Stage → ℕ → List Layer → Layer → Option Refusal
judge_layer Blank actors layers l = Some OutOfTurn
judge_layer (Machined n) actors layers l = Some OutOfTurn
judge_layer (Ruled n f) actors layers l = unless (actors == 0 && not (has_sort l layers)) OutOfTurn (unless (layer_in_range l) OffRange None)

-- with so many actors and links before
abbrev pub judge_actor : Stage → ℕ → ℕ → Actor → Option Refusal
judge_actor Blank actors links a = Some OutOfTurn
judge_actor (Machined m) actors links a = Some OutOfTurn
judge_actor (Ruled m f) actors links a =
    unless (links == 0) OutOfTurn
    (unless (nat_le a.work 16777216) OffRange
    (unless (nat_lt a.core m.cores) Unknown
    (unless (nat_lt actors 64) TooMany None)))

-- the checks of a FIFO before those of its order, and what they lead to
abbrev pub judge_fifo : ℕ → ℕ → Fifo → Option Refusal → Option Refusal
judge_fifo actors fifos f rest =
    unless (not (actors == 0)) OutOfTurn
    (unless (size_in_range f.size) OffRange
    (unless (nat_lt f.from actors && nat_lt f.to actors) Unknown
    (unless (nat_lt fifos 192) TooMany rest)))

-- a FIFO without initial tokens
abbrev pub judge_plain : ℕ → ℕ → List ℕ → Fifo → Option Refusal
judge_plain actors fifos rows f =
    judge_fifo actors fifos f (unless (not (f.from == f.to)) EqualEnds (unless (may_join rows f.from f.to) Backward None))

-- an ordering, between actors of these cores
abbrev pub judge_sequence : ℕ → (ℕ → ℕ) → List ℕ → Sequence → Option Refusal
judge_sequence actors core rows q =
    unless (not (actors == 0)) OutOfTurn
    (unless (nat_lt q.first actors && nat_lt q.second actors) Unknown
    (unless (not (q.first == q.second)) EqualEnds
    (unless (core q.first == core q.second) AcrossCores
    (unless (may_join rows q.first q.second) Backward None))))
