-- First fit finds the first gap that holds the size.
use Rattle.std.proofs.Common.{◌≡◌, ℕ, zero, suc, ◌+◌, ◌<◌, List, [], ◌∷◌, length, get_or, Some, None, Option, Bor, refl, sym, ap, ◌∙◌, arith}
use Rattle.std.specs.Option.{option_or, MatchOption}
use Rattle.std.specs.Bool.{IsTrue}
use Rattle.std.specs.Fn.{Called}
use Rattle.std.specs.Iterator.Runs.{Run, ItemsMapTo, AllItemsGive, IsFirstToGive}
use denote.Param.Members.{Mut}
use Rattle.rules.specs.declared.memory.Stretch.{Stretch}
use Rattle.fit.proofs.Offers.{gave, gave_some, keeps}
use Rattle.rules.specs.Choosing.{offer, first_of}

module _ (size grain : ℕ) where
  first_absent : (gs : List Stretch) → ((k : ℕ) (d : Stretch) → k < length gs → offer (get_or gs k d) size grain ≡ None) → None ≡ first_of gs size grain
  first_absent [] none = refl
  first_absent (g ∷ gs) none =
      first_absent gs (λ k d h. none (suc k) d (omega arith)) ∙ sym (ap (λ o. option_or o (first_of gs size grain)) (none 0 g (omega arith)))

  first_at : (gs : List Stretch) (i : ℕ) (d : Stretch) (a : ℕ × ℕ) → i < length gs → offer (get_or gs i d) size grain ≡ Some a →
      ((k : ℕ) → k < i → offer (get_or gs k d) size grain ≡ None) → Some a ≡ first_of gs size grain
  first_at [] i d a h found none = absurd (omega arith)
  first_at (g ∷ gs) zero d a h found none = sym (ap (λ o. option_or o (first_of gs size grain)) found)
  first_at (g ∷ gs) (suc i) d a h found none =
      first_at gs i d a (omega arith) found (λ k l. none (suc k) (omega arith)) ∙ sym (ap (λ o. option_or o (first_of gs size grain)) (none 0 (omega arith)))

-- a run over the gaps, with a closure that places the object in one
module _ {S F : Type 0} {steps : S → Option (Bor Stretch) → S → Type 0} (size grain : ℕ) (gs : List Stretch) (p : Run steps) (g : Mut F (Bor Stretch × Unit {0}) (Option (ℕ × ℕ)))
    (f : F) (read : ItemsMapTo p (λ y. y.now) gs) (places : (x : Bor Stretch) (r : Option (ℕ × ℕ)) (q : F) → Called g f (x, tt) r q → (q ≡ f) × (r ≡ offer x.now size grain)) where
  pub finds_first : (r : Option (ℕ × ℕ)) →
      MatchOption r (IsTrue p.whole × AllItemsGive p g f None) (λ y. (i : ℕ) × (i < p.len) × (p.len ≡ i + 1) × IsFirstToGive p g f (Some y) None i) → r ≡ first_of gs size grain
  finds_first None m =
      let len : p.len ≡ length gs = read.1 m.0 in
      first_absent size grain gs (λ k d h. gave size grain g f places None (p.at k) (get_or gs k d) (read.2 k d (omega arith)) (m.1 (keeps size grain g f places) k))
  finds_first (Some a) m =
      let d : Stretch = record { start = 0; end = 0 } in
      let all = m.3 (keeps size grain g f places) in
      first_at size grain gs m.0 d a (omega (arith, m.1, read.0)) (gave_some size grain g f places (Some a) (p.at m.0) (get_or gs m.0 d) (read.2 m.0 d m.1) all.0)
      (λ k l. gave_some size grain g f places None (p.at k) (get_or gs k d) (read.2 k d (omega (arith, m.1))) (all.1 k l))
