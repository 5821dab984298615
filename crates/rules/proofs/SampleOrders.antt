-- The lean order of the sample sheet, and its peak.
use Rattle.std.proofs.Common.{[], ◌∷◌, refl}
use Rattle.rules.specs.Lean.{Lean, Peak}
use Rattle.rules.specs.Samples.{A}
use Rattle.rules.proofs.Deciding.{by_yes}
use Rattle.rules.proofs.LeanChecks.{lean_from}
use Rattle.rules.proofs.PeakChecks.{is_peak, peak_so}

-- the actors of A are listed by number
pub lean_order_of_A : Lean A (0 ∷ 1 ∷ 2 ∷ 3 ∷ [])
unfolding lean_from
lean_order_of_A = by_yes (lean_from A [] (0 ∷ 1 ∷ 2 ∷ 3 ∷ [])) tt

-- of the objects of A at most 21 bytes are live at once in that order
pub peak_of_A : Peak A (0 ∷ 1 ∷ 2 ∷ 3 ∷ []) 21
unfolding is_peak
peak_of_A = peak_so A (0 ∷ 1 ∷ 2 ∷ 3 ∷ []) 21 refl
