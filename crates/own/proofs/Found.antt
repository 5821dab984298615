-- Last fit finds the last gap that holds the size.
use Rattle.std.proofs.Common.{◌≡◌, ℕ, zero, suc, ◌+◌, ◌-◌, ◌<◌, ◌≤◌, true, List, [], ◌∷◌, length, get_or, Some, None, Option, Bor, refl, sym, ap, subst, ◌∙◌, arith}
use Rattle.std.specs.Option.{option_or, option_map, MatchOption, IsSomeAnd}
use Rattle.std.specs.Bool.{IsTrue}
use Rattle.std.specs.Fn.{Called}
use Rattle.std.specs.Iterator.Runs.{Run, AllItemsGive, IsFirstToGive}
use denote.Param.Members.{Mut}
use Rattle.rules.specs.declared.memory.Stretch.{Stretch}
use Rattle.fit.proofs.Offers.{gave, gave_some, keeps}
use Rattle.rules.specs.Choosing.{offer}
use Rattle.own.specs.Lasting.{last_of}

module _ (size grain : ℕ) where
  last_absent : (gs : List Stretch) → ((k : ℕ) (d : Stretch) → k < length gs → offer (get_or gs k d) size grain ≡ None) → last_of gs size grain ≡ None
  last_absent [] none = refl
  last_absent (g ∷ gs) none =
      ap (λ o. option_or o (offer g size grain)) (last_absent gs (λ k d h. none (suc k) d (omega arith))) ∙ none 0 g (omega arith)

  last_at : (gs : List Stretch) (i : ℕ) (d : Stretch) (a : ℕ × ℕ) → i < length gs → offer (get_or gs i d) size grain ≡ Some a →
      ((k : ℕ) (e : Stretch) → i < k → k < length gs → offer (get_or gs k e) size grain ≡ None) → last_of gs size grain ≡ Some a
  last_at [] i d a h found none = absurd (omega arith)
  last_at (g ∷ gs) zero d a h found none =
      ap (λ o. option_or o (offer g size grain)) (last_absent gs (λ k e l. none (suc k) e (omega arith) (omega arith))) ∙ found
  last_at (g ∷ gs) (suc i) d a h found none =
      ap (λ o. option_or o (offer g size grain)) (last_at gs i d a (omega arith) found (λ k e m l. none (suc k) e (omega arith) (omega arith)))

-- a run over the gaps from the last to the first, with a closure that places the object in one
module _ {S F : Type 0} {steps : S → Option (Bor Stretch) → S → Type 0} (size grain : ℕ) (gs : List Stretch) (p : Run steps)
    (g : Mut F (Bor Stretch × Unit {0}) (Option (ℕ × ℕ))) (f : F) (within : p.len ≤ length gs) (all_read : p.whole ≡ true → p.len ≡ length gs)
    (item : (k : ℕ) (d : Stretch) → k < length gs → length gs - 1 - k < p.len → option_map (λ y. y.now) (p.at (length gs - 1 - k)) ≡ Some (get_or gs k d))
    (places : (x : Bor Stretch) (r : Option (ℕ × ℕ)) (h : F) → Called g f (x, tt) r h → (h ≡ f) × (r ≡ offer x.now size grain)) where
  pub finds_last : (r : Option (ℕ × ℕ)) →
      MatchOption r (IsTrue p.whole × AllItemsGive p g f None) (λ y. (i : ℕ) × (i < p.len) × (p.len ≡ i + 1) × IsFirstToGive p g f (Some y) None i) → r ≡ last_of gs size grain
  finds_last None m =
      let len : p.len ≡ length gs = all_read m.0 in
      sym (last_absent size grain gs
      (λ k d h. gave size grain g f places None (p.at (length gs - 1 - k)) (get_or gs k d) (item k d h (omega arith)) (m.1 (keeps size grain g f places) (length gs - 1 - k))))
  finds_last (Some a) m =
      let d : Stretch = record { start = 0; end = 0 } in
      let all = m.3 (keeps size grain g f places) in
      let i = m.0 in
      let k : ℕ = length gs - 1 - i in
      let back : i ≡ length gs - 1 - k = omega (arith, m.1) in
      sym (last_at size grain gs k d a (omega (arith, m.1))
      (gave_some size grain g f places (Some a) (p.at (length gs - 1 - k)) (get_or gs k d) (item k d (omega (arith, m.1)) (omega (arith, m.1)))
      (subst (λ j. IsSomeAnd (p.at j) (λ x. Called g f (x, tt) (Some a) f)) back all.0))
      (λ j e l h. gave_some size grain g f places None (p.at (length gs - 1 - j)) (get_or gs j e) (item j e h (omega (arith, m.1))) (all.1 (length gs - 1 - j) (omega (arith, m.1)))))
