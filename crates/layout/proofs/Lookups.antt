-- Where a list of items says that objects lie, and one item more.

use Rattle.std.proofs.Common.{◌≡◌, ℕ, Bool, true, false, cond, eqb, ◌⊎◌, List, [], ◌∷◌, ◌++◌, take, drop, Some, None, sym, refl, ap, ◌∙◌, subst, inl, inr, arith}
use Rattle.std.specs.List.{insert}
use Rattle.std.proofs.lemmas.List.{take-append-drop}
use Rattle.std.proofs.lemmas.Bool.{eqb-true, eq-eqb, ne_eqb, cond-true, cond-false}
use Rattle.rules.specs.Lists.{Every, Any}
use Rattle.layout.specs.declared.items.Item.{Item}
use Rattle.layout.specs.Items.{place_of}

-- an object that has a place has an item
pub found : (items : List Item) (y p : ℕ) → place_of items y ≡ Some p → Any (λ it. it.object ≡ y) items
found [] y p e = let z : ◌≡◌ {A = ℕ} 0 1 = cc in absurd (omega arith)
found (k ∷ ks) y p e = by (found ks y p) (eqb k.object y) refl e
  where
    by : (place_of ks y ≡ Some p → Any (λ it. it.object ≡ y) ks) → (b : Bool) → eqb k.object y ≡ b → cond b (Some k.on.start) (place_of ks y) ≡ Some p →
        (k.object ≡ y) ⊎ Any (λ it. it.object ≡ y) ks
    by ih true t e = inl (eqb-true k.object y t)
    by ih false t e = inr (ih e)

module _ (it : Item) where
  own_at : (front back : List Item) → place_of (front ++ back) it.object ≡ None → place_of (front ++ it ∷ back) it.object ≡ Some it.on.start
  own_at [] back e = cond-true (eqb it.object it.object) (Some it.on.start) (place_of back it.object) (eq-eqb it.object it.object refl)
  own_at (k ∷ ks) back e = by (own_at ks back) (eqb k.object it.object) e
    where
      by : (place_of (ks ++ back) it.object ≡ None → place_of (ks ++ it ∷ back) it.object ≡ Some it.on.start) → (b : Bool) →
          cond b (Some k.on.start) (place_of (ks ++ back) it.object) ≡ None →
          cond b (Some k.on.start) (place_of (ks ++ it ∷ back) it.object) ≡ Some it.on.start
      by ih true e = let z : ◌≡◌ {A = ℕ} 0 1 = cc in absurd (omega arith)
      by ih false e = ih e

  other_at : (front back : List Item) (y : ℕ) → (y ≡ it.object → ⊥) → place_of (front ++ it ∷ back) y ≡ place_of (front ++ back) y
  other_at [] back y n = cond-false (eqb it.object y) (Some it.on.start) (place_of back y) (ne_eqb it.object y (λ e. n (sym e)))
  other_at (k ∷ ks) back y n = ap (λ o. cond (eqb k.object y) (Some k.on.start) o) (other_at ks back y n)

  module _ (items : List Item) (i : ℕ) where
    -- the object of an item that is put in lies on it
    pub place_own : place_of items it.object ≡ None → place_of (insert items i it) it.object ≡ Some it.on.start
    place_own e = own_at (take i items) (drop i items) (subst (λ ks. place_of ks it.object ≡ None) (sym (take-append-drop i items)) e)

    -- the others lie where they lay
    pub place_other : (y : ℕ) → (y ≡ it.object → ⊥) → place_of (insert items i it) y ≡ place_of items y
    place_other y n = other_at (take i items) (drop i items) y n ∙ ap (λ ks. place_of ks y) (take-append-drop i items)

-- what holds of all items and of one that is put in holds of all
all_in : (P : Item → Type 0) (it : Item) (front back : List Item) → P it → Every P (front ++ back) → Every P (front ++ it ∷ back)
all_in P it [] back p a = (p, a)
all_in P it (k ∷ ks) back p a = (a.0, all_in P it ks back p a.1)

pub all_inserted : (P : Item → Type 0) (it : Item) (items : List Item) (i : ℕ) → P it → Every P items → Every P (insert items i it)
all_inserted P it items i p a = all_in P it (take i items) (drop i items) p (subst (Every P) (sym (take-append-drop i items)) a)
