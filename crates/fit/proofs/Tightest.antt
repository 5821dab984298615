-- Best fit finds the first of the gaps with the fewest bytes that hold the size.
use Rattle.std.proofs.Common.{◌≡◌, ℕ, ◌+◌, ◌<◌, Bool, true, false, cond, ◌&&◌, ltb, leb, List, [], ◌∷◌, map, filter, Some, None, Option, Bor, nat_cmp, refl, sym, ap, ◌∙◌, subst, arith}
use Rattle.std.specs.Option.{option_map, is_some}
use Rattle.std.specs.List.{FoldsTo, fold, reduce}
use Rattle.std.specs.declared.cmp.Ordering.{Ordering}
use Rattle.std.specs.declared.cmp.Ordering.TheVariants.{Less, Equal, Greater}
use Rattle.std.specs.Ordering.{MatchOrdering, min_by_ordering}
use Rattle.std.specs.Fn.{CalledAt}
use Rattle.std.specs.Iterator.{Drains, DrainsIf, KeyTurn, PicksMinByKey}
use Rattle.std.proofs.lemmas.Bool.{le-ltb, lt-ltb}
use Rattle.std.proofs.lemmas.Cmp.{ranked}
use Rattle.std.proofs.lemmas.Iterator.{YieldsList, items_from_drains}
use denote.Param.Members.{Mut}
use Rattle.rules.specs.declared.memory.Stretch.{Stretch}
use Rattle.rules.specs.Fitting.{place_in, answer_from, width}
use Rattle.rules.specs.Choosing.{offer, best_from, best_of, taken}

-- ---- the least by a key, the first of equals

-- the one with the lesser key, the first where the keys are equal
abbrev pub lesser : {B : Type 0} → (B → ℕ) → B → B → B
lesser key b x = cond (ltb (key x) (key b)) x b

module _ {A F B : Type 0} (v : A → B) (key : B → ℕ) (g : Mut F (Bor A × Unit {0}) ℕ) (f : F)
    (computes : (x : A) (k : ℕ) (q : F) → CalledAt g f x k q → (q ≡ f) × (k ≡ key (v x))) where
  picked : (m n : ℕ) (b x : A) (o : Ordering) → MatchOrdering o (m < n) (m ≡ n) (n < m) → v (min_by_ordering o b x) ≡ cond (ltb n m) (v x) (v b)
  picked m n b x Less h = sym (ap (λ w. cond w (v x) (v b)) (le-ltb n m (omega arith)))
  picked m n b x Equal h = sym (ap (λ w. cond w (v x) (v b)) (le-ltb n m (omega arith)))
  picked m n b x Greater h = sym (ap (λ w. cond w (v x) (v b)) (lt-ltb n m h))

  key_picked : (b x : A) (o : Ordering) → min_by_ordering o (key (v b)) (key (v x)) ≡ key (v (min_by_ordering o b x))
  key_picked b x Less = refl
  key_picked b x Equal = refl
  key_picked b x Greater = refl

  -- the state of the run: the closure, the least key so far and its item
  abbrev Turn : (F × ℕ) × A → A → (F × ℕ) × A → Type 0
  Turn = KeyTurn min_by_ordering min_by_ordering g nat_cmp

  -- an item's turn leaves the closure, and keeps the lesser of both
  turned : (b x : A) (q : (F × ℕ) × A) → Turn ((f, key (v b)), b) x q → (q ≡ ((f, key (v q.1)), q.1)) × (v q.1 ≡ lesser key (v b) (v x))
  turned b x q t =
      let m = computes x t.0 q.0.0 t.2 in
      let o : t.1 ≡ nat_cmp (key (v b)) (key (v x)) = sym (ap (nat_cmp (key (v b))) (sym m.1) ∙ t.3) in
      let k : q.0.1 ≡ key (v q.1) = t.4 ∙ ap (min_by_ordering t.1 (key (v b))) m.1 ∙ key_picked b x t.1 ∙ sym (ap (λ y. key (v y)) t.5) in (
        (λ i. ((m.0 i, k i), q.1)),
        ap v t.5 ∙ picked (key (v b)) (key (v x)) b x t.1 (ranked (key (v b)) (key (v x)) t.1 o),
      )

  ran : (xs : List A) (b : A) (q : F × ℕ) (y : A) → FoldsTo {P = (F × ℕ) × A} Turn ((f, key (v b)), b) xs (q, y) → v y ≡ fold (lesser key) (v b) (map v xs)
  ran [] b q y c = ap v (sym (ap (λ (p : (F × ℕ) × A). p.1) c))
  ran (x ∷ xs) b q y c =
      let t = turned b x c.0 c.1 in
      ran xs c.0.1 q y (subst (λ (p : (F × ℕ) × A). FoldsTo {P = (F × ℕ) × A} Turn p xs (q, y)) t.0 c.2) ∙ ap (λ z. fold (lesser key) z (map v xs)) t.1

-- the calls that took every item, as the library's lemma asks for them
ended : {S A : Type 0} (steps : S → Option A → S → Type 0) (s : S) (xs : List A) → Drains steps s xs → DrainsIf steps (Unit {0}) s xs
ended steps s xs d = (d.1.0, d.1.1, λ _. (d.0, d.1.2))

module _ {S A F B : Type 0} {steps : S → Option A → S → Type 0} {v : A → B} {s : S} {all : List B} (key : B → ℕ) (g : Mut F (Bor A × Unit {0}) ℕ) {f : F} where
  pub least_from_yields_List : (r : Option A) → PicksMinByKey steps g nat_cmp s f r → YieldsList steps v s all →
      ((x : A) (k : ℕ) (q : F) → CalledAt g f x k q → (q ≡ f) × (k ≡ key (v x))) → option_map v r ≡ reduce (lesser key) all
  least_from_yields_List None d e computes =
      ap (reduce (lesser key)) (items_from_drains [] (ended steps s [] d) e)
  least_from_yields_List (Some y) d e computes =
      let m = computes d.0 d.2 d.3 d.6 in
      let first : ((d.3, d.2), d.0) ≡ ((f, key (v d.0)), d.0) = λ i. ((m.0 i, m.1 i), d.0) in
      ap Some (ran v key g f computes d.1 d.0 d.4 y (subst (λ (p : (F × ℕ) × A). FoldsTo {P = (F × ℕ) × A} (Turn v key g f computes) p d.1 (d.4, y)) first d.7))
      ∙ ap (reduce (lesser key)) (items_from_drains (d.0 ∷ d.1) (ended steps s (d.0 ∷ d.1) d.5) e)

-- ---- the gaps

module _ (size grain : ℕ) where
  -- whether a gap holds the size
  abbrev pub holds : Stretch → Bool
  holds g = is_some (offer g size grain)

  goes_on : (b g : Stretch) (gs : List Stretch) → ((c : Stretch) → best_from size grain (Some c) gs ≡ Some (fold (lesser width) c (filter holds gs))) →
      (t u : Bool) → ltb (width g) (width b) ≡ u → best_from size grain (cond (t && u) (Some g) (Some b)) gs
      ≡ Some (fold (lesser width) b (cond (is_some (cond t (Some (answer_from g size grain)) None)) (g ∷ filter holds gs) (filter holds gs)))
  goes_on b g gs on false u e = on b
  goes_on b g gs on true true e = on g ∙ ap (λ w. Some (fold (lesser width) (cond w g b) (filter holds gs))) (sym e)
  goes_on b g gs on true false e = on b ∙ ap (λ w. Some (fold (lesser width) (cond w g b) (filter holds gs))) (sym e)

  best_after : (b : Stretch) (gs : List Stretch) → best_from size grain (Some b) gs ≡ Some (fold (lesser width) b (filter holds gs))
  best_after b [] = refl
  best_after b (g ∷ gs) = goes_on b g gs (λ c. best_after c gs) (leb (place_in g grain + size) g.end) (ltb (width g) (width b)) refl

  starts : (g : Stretch) (gs : List Stretch) → best_from size grain None gs ≡ reduce (lesser width) (filter holds gs) → (t : Bool) →
      best_from size grain (cond t (Some g) None) gs
      ≡ reduce (lesser width) (cond (is_some (cond t (Some (answer_from g size grain)) None)) (g ∷ filter holds gs) (filter holds gs))
  starts g gs rest true = best_after g gs
  starts g gs rest false = rest

  best_is_least : (gs : List Stretch) → best_from size grain None gs ≡ reduce (lesser width) (filter holds gs)
  best_is_least [] = refl
  best_is_least (g ∷ gs) = starts g gs (best_is_least gs) (leb (place_in g grain + size) g.end)

  -- what the least of the gaps that hold the size offers is the answer of best fit
  pub takes_best : (gs : List Stretch) (o p : Option (Bor Stretch)) → o ≡ p → option_map (λ y. y.now) o ≡ reduce (lesser width) (filter holds gs) →
      taken size grain (option_map (λ y. y.now) p) ≡ best_of gs size grain
  takes_best gs o p is least =
      ap (λ q. taken size grain (option_map (λ y. y.now) q)) (sym is) ∙ ap (taken size grain) (least ∙ sym (best_is_least gs))
