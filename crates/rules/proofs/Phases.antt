-- The phases of actors: they differ, can be told apart, and change one at a time.
use Rattle.std.proofs.Common.{◌≡◌, ℕ, ◌<◌, ◌≤◌, ◌≢◌, ◌⊎◌, List, length, get_or, set, replicate, refl, ap, ◌∙◌, inl, inr, arith}
use Rattle.std.proofs.lemmas.List.{get_or-set_same, get_or-set_other, set_past, get_or-replicate, get_or_past, length-replicate}
use Rattle.rules.specs.Runs.{Phase, waiting, running, finished}
use Rattle.rules.proofs.Deciding.{Decided, same_number, below}

-- running is not waiting
pub running_not_waiting : {p : Phase} → p ≡ running → p ≢ waiting
running_not_waiting e w = let z : ◌≡◌ {A = ℕ} 0 1 = cc in absurd (omega arith)

-- finished is not waiting
pub finished_not_waiting : {p : Phase} → p ≡ finished → p ≢ waiting
finished_not_waiting e w = let z : ◌≡◌ {A = ℕ} 0 1 = cc in absurd (omega arith)

-- finished is not running
pub finished_not_running : {p : Phase} → p ≡ finished → p ≢ running
finished_not_running e r = let z : ◌≡◌ {A = ℕ} 0 1 = cc in absurd (omega arith)

-- whether a phase is waiting
unfoldable pub is_waiting : (p : Phase) → Decided (p ≡ waiting)
is_waiting waiting = inl refl
is_waiting running = inr (running_not_waiting refl)
is_waiting finished = inr (finished_not_waiting refl)

-- whether it is running
unfoldable pub is_running : (p : Phase) → Decided (p ≡ running)
is_running waiting = inr (λ e. running_not_waiting e refl)
is_running running = inl refl
is_running finished = inr (finished_not_running refl)

-- whether it is finished
unfoldable pub is_finished : (p : Phase) → Decided (p ≡ finished)
is_finished waiting = inr (λ e. finished_not_waiting e refl)
is_finished running = inr (λ e. finished_not_running e refl)
is_finished finished = inl refl

-- once a phase is set, an actor's is what it was, unless it is that actor's
pub at_set : (ps : List Phase) (a : ℕ) (p : Phase) (x : ℕ) →
    (get_or (set ps a p) x waiting ≡ get_or ps x waiting) ⊎ ((x ≡ a) × (get_or (set ps a p) x waiting ≡ p))
at_set ps a p x = pick (same_number x a) (below a (length ps))
  where
    pick : Decided (x ≡ a) → Decided (a < length ps) →
        (get_or (set ps a p) x waiting ≡ get_or ps x waiting) ⊎ ((x ≡ a) × (get_or (set ps a p) x waiting ≡ p))
    pick (inr other) known = inl (get_or-set_other ps a x p waiting other)
    pick (inl same) (inl known) = inr (same, ap (λ (k : ℕ). get_or (set ps a p) k waiting) same ∙ get_or-set_same ps a p waiting known)
    pick (inl same) (inr unknown) =
        let past : length ps ≤ a = omega arith in inl (ap (λ (qs : List Phase). get_or qs x waiting) (set_past ps a p past))

-- where nothing has started, every actor waits
pub all_waiting : (n x : ℕ) → get_or (replicate n waiting) x waiting ≡ waiting
all_waiting n x = pick (below x n)
  where
    pick : Decided (x < n) → get_or (replicate n waiting) x waiting ≡ waiting
    pick (inl known) = get_or-replicate n x waiting waiting known
    pick (inr unknown) = let same = length-replicate n waiting in get_or_past (replicate n waiting) x waiting (omega arith)
