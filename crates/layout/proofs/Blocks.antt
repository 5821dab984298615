-- The items that exclude an object.

use Rattle.std.proofs.Common.{◌≡◌, ℕ, ◌≤◌, Bool, true, false, cond, ◌⊎◌, ◌↔◌, List, [], ◌∷◌, filter, sym, refl, ap, ◌∙◌, inl, inr, ⊎_elim, arith}
use Rattle.rules.specs.declared.memory.Stretch.{Stretch}
use Rattle.rules.specs.Lists.{Every, Any}
use Rattle.rules.specs.Stretches.{Covers, Blocked}
use Rattle.layout.specs.declared.items.Item.{Item}
use Rattle.layout.specs.Starts.{ByStart}
use Rattle.layout.specs.Items.{spans, blocking}

module _ (excluding : ℕ → ℕ → Bool) (x : ℕ) where
  -- the bytes of the items that a test keeps
  pub kept_blocking : (items : List Item) → spans (filter (λ (it : Item). excluding it.object x) items) ≡ blocking excluding x items
  kept_blocking [] = refl
  kept_blocking (k ∷ ks) = by (kept_blocking ks) (excluding k.object x)
    where
      by : spans (filter (λ (it : Item). excluding it.object x) ks) ≡ blocking excluding x ks → (b : Bool) →
          spans (cond b (k ∷ filter (λ (it : Item). excluding it.object x) ks) (filter (λ (it : Item). excluding it.object x) ks)) ≡ cond b (k.on ∷ blocking excluding x ks) (blocking excluding x ks)
      by rest true = ap (λ ss. k.on ∷ ss) rest
      by rest false = rest

  -- what holds of the bytes of all items holds of those
  blocking_all : (P : Stretch → Type 0) (items : List Item) → Every P (spans items) → Every P (blocking excluding x items)
  blocking_all P [] a = tt
  blocking_all P (k ∷ ks) a = by (blocking_all P ks a.1) (excluding k.object x)
    where
      by : Every P (blocking excluding x ks) → (b : Bool) → Every P (cond b (k.on ∷ blocking excluding x ks) (blocking excluding x ks))
      by rest true = (a.0, rest)
      by rest false = rest

  -- they are in the order of the items
  pub blocking_sorted : (items : List Item) → ByStart (spans items) → ByStart (blocking excluding x items)
  blocking_sorted [] b = tt
  blocking_sorted (k ∷ ks) b = by (blocking_sorted ks b.1) (excluding k.object x)
    where
      by : ByStart (blocking excluding x ks) → (c : Bool) → ByStart (cond c (k.on ∷ blocking excluding x ks) (blocking excluding x ks))
      by rest true = (blocking_all (λ t. k.on.start ≤ t.start) ks b.0, rest)
      by rest false = rest

  -- a byte is blocked where some item that excludes x lies on it
  pub blocked_by : (items : List Item) (b : ℕ) → Blocked (blocking excluding x items) b ↔ Any (λ it. (excluding it.object x ≡ true) × Covers it.on b) items
  blocked_by [] b = (λ t. t, λ t. t)
  blocked_by (k ∷ ks) b = by (blocked_by ks b) (excluding k.object x) refl
    where
      by : Blocked (blocking excluding x ks) b ↔ Any (λ it. (excluding it.object x ≡ true) × Covers it.on b) ks → (c : Bool) → excluding k.object x ≡ c →
          Blocked (cond c (k.on ∷ blocking excluding x ks) (blocking excluding x ks)) b
          ↔ (((excluding k.object x ≡ true) × Covers k.on b) ⊎ Any (λ it. (excluding it.object x ≡ true) × Covers it.on b) ks)
      by rest true e = (⊎_elim (λ h. inl (e, h)) (λ t. inr (rest.0 t)), ⊎_elim (λ h. inl h.1) (λ t. inr (rest.1 t)))
      by rest false e = (
        λ t. inr (rest.0 t),
        ⊎_elim (λ h. let z : ◌≡◌ {A = Bool} true false = sym h.0 ∙ e in let n : ◌≡◌ {A = ℕ} 0 1 = cc in absurd (omega arith)) (λ t. rest.1 t),
      )
