-- Objects that are live at one moment exclude each other.
use Rattle.std.proofs.Common.{◌≡◌, ℕ, true, false, ◌⊎◌, inl, inr, arith}
use Rattle.rules.specs.Sheets.{Sheet}
use Rattle.rules.specs.Order.{Before}
use Rattle.rules.specs.Objects.{first, last, always_live}
use Rattle.rules.specs.Exclusion.{Apart}
use Rattle.rules.specs.Runs.{State, Started, Finished}
use Rattle.rules.specs.Lives.{Live}
use Rattle.rules.specs.RunLaws.{LiveObjectsExclude}
use Rattle.rules.proofs.Orderly.{Orderly, along, before_ahead, reached_orderly}

-- a live object that is not always live has its first actor started and its last not finished
pub passing_lives : (s : Sheet) (st : State) (x : ℕ) → Live s st x → always_live s x ≡ false → Started st (first s x) × (Finished st (last s x) → ⊥)
passing_lives s st x live passes = pick live.lives
  where
    pick : (always_live s x ≡ true) ⊎ (Started st (first s x) × (Finished st (last s x) → ⊥)) → Started st (first s x) × (Finished st (last s x) → ⊥)
    pick (inl e) = let z : ◌≡◌ {A = ℕ} 0 1 = cc in absurd (omega arith)
    pick (inr h) = h

-- of two objects live in an orderly state, neither ends before the other begins
pub live_overlap : (s : Sheet) (st : State) → Orderly s st → (x y : ℕ) → Live s st x → always_live s x ≡ false → Live s st y → always_live s y ≡ false →
    Before s (last s x) (first s y) → ⊥
live_overlap s st orderly x y lx px ly py c =
    (passing_lives s st x lx px).1 (along s st orderly (before_ahead s st c) (passing_lives s st y ly py).0)

-- two different live objects exclude each other
pub live_objects_exclude : LiveObjectsExclude
live_objects_exclude s cs st r x y different lx ly =
    record { known = lx.known; known_too = ly.known; different = different; not_apart = λ a. meet a a.ordered }
  where
    meet : Apart s x y → Before s (last s x) (first s y) ⊎ Before s (last s y) (first s x) → ⊥
    meet a (inl c) = live_overlap s st (reached_orderly s r) x y lx a.passes ly a.passes_too c
    meet a (inr c) = live_overlap s st (reached_orderly s r) y x ly a.passes_too lx a.passes c
