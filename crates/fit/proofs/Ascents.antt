-- Gaps ascend if the first has a byte, and each other has one and starts at or beyond the end of the one before it.
use Rattle.std.proofs.Common.{◌≡◌, ℕ, zero, suc, ◌+◌, ◌<◌, ◌≤◌, Bool, true, false, ◌&&◌, ltb, leb, List, [], ◌∷◌, length, get_or, Some, None, Option, Bor, refl, sym, ap, ◌∙◌, subst, arith}
use Rattle.std.specs.List.{AllAdjacentBelow, IsAllAdjacentAnswer, slice_get}
use Rattle.std.specs.Option.{MatchOption, option_copied}
use Rattle.std.proofs.lemmas.Bool.{and_parts, and_from, both_ways, leb-true, ltb-true, lt-ltb, le-leb}
use Rattle.rules.specs.declared.memory.Stretch.{Stretch}
use Rattle.rules.specs.Fitting.{ascend_from}
use Rattle.rules.proofs.Questions.{Next, next_parts, next_from}
use Rattle.fit.specs.Asking.{filled}

-- a gap may stand behind another
abbrev pub follows : Stretch → Stretch → Bool
follows g h = leb g.end h.start && filled h

-- the first gap, if there is one, has a byte
abbrev pub first_filled : List Stretch → Bool
first_filled [] = true
first_filled (g ∷ gs) = filled g

next_of : (low : ℕ) (g : Stretch) → low ≤ g.start → filled g ≡ true → Next low g
next_of low g above fills =
    let f = and_parts (ltb g.start g.end) (leb g.end 4294967295) fills in (above, ltb-true g.start g.end f.0, leb-true g.end 4294967295 f.1)

fills_of : (low : ℕ) (g : Stretch) → Next low g → filled g ≡ true
fills_of low g n = and_from (ltb g.start g.end) (leb g.end 4294967295) (lt-ltb g.start g.end n.1) (le-leb g.end 4294967295 n.2)

ascends : (low : ℕ) (g : Stretch) (gs : List Stretch) → low ≤ g.start → filled g ≡ true →
    AllAdjacentBelow (λ x y. true ≡ follows x y) (g ∷ gs) (length (g ∷ gs)) → ascend_from low (g ∷ gs) ≡ true
ascends low g [] above fills next = next_from low g [] (next_of low g above fills) refl
ascends low g (h ∷ gs) above fills next =
    let on : AllAdjacentBelow (λ x y. true ≡ follows x y) (h ∷ gs) (length (h ∷ gs)) =
    λ k d l. let e : suc k + 1 ≡ suc (k + 1) = omega arith in
    subst (λ j. true ≡ follows (get_or (h ∷ gs) k d) (get_or (g ∷ h ∷ gs) j d)) e (next (suc k) d (omega arith))
    in
    let two = and_parts (leb g.end h.start) (filled h) (sym (next 0 g (omega arith))) in
    next_from low g (h ∷ gs) (next_of low g above fills) (ascends g.end h gs (leb-true g.end h.start two.0) two.1 on)

first_fills : (low : ℕ) (gs : List Stretch) → ascend_from low gs ≡ true → first_filled gs ≡ true
first_fills low [] t = refl
first_fills low (g ∷ gs) t = fills_of low g (next_parts low g gs t).0

next_follows : (low : ℕ) (gs : List Stretch) → ascend_from low gs ≡ true → (k : ℕ) (d : Stretch) → k + 1 < length gs → follows (get_or gs k d) (get_or gs (k + 1) d) ≡ true
next_follows low [] t k d l = absurd (omega arith)
next_follows low (g ∷ []) t k d l = absurd (omega arith)
next_follows low (g ∷ h ∷ gs) t zero d l =
    let n = (next_parts g.end h gs (next_parts low g (h ∷ gs) t).1).0 in
    and_from (leb g.end h.start) (filled h) (le-leb g.end h.start n.0) (fills_of g.end h n)
next_follows low (g ∷ h ∷ gs) t (suc k) d l =
    let e : suc (k + 1) ≡ suc k + 1 = omega arith in
    subst (λ j. follows (get_or (h ∷ gs) k d) (get_or (g ∷ h ∷ gs) j d) ≡ true) e
    (next_follows g.end (h ∷ gs) (next_parts low g (h ∷ gs) t).1 k d (omega arith))

refuted : (b : Bool) → (b ≡ true → ⊥) → false ≡ b
refuted true n = absurd (n refl)
refuted false n = refl

pub sorted_ascends : (gs : List Stretch) (r : Bool) → first_filled gs ≡ true → IsAllAdjacentAnswer (λ x y b. b ≡ follows x y) gs r → r ≡ ascend_from 0 gs
sorted_ascends [] true fills next = refl
sorted_ascends [] false fills next = absurd (omega (arith, next.1))
sorted_ascends (g ∷ gs) true fills next = sym (ascends 0 g gs (omega arith) fills next)
sorted_ascends (g ∷ gs) false fills next =
    refuted (ascend_from 0 (g ∷ gs))
    (λ t. both_ways (follows (get_or (g ∷ gs) next.0 g) (get_or (g ∷ gs) (next.0 + 1) g)) (sym (next.2 g)) (next_follows 0 (g ∷ gs) t next.0 g next.1))

pub empty_refuses : (gs : List Stretch) → first_filled gs ≡ false → false ≡ ascend_from 0 gs
empty_refuses gs empty = refuted (ascend_from 0 gs) (λ t. both_ways (first_filled gs) empty (first_fills 0 gs t))

-- the test of the first gap
pub first_test : (gs : List Stretch) (first : Option (Bor Stretch)) (r : Bool) → option_copied first ≡ slice_get gs 0 →
    MatchOption first (r ≡ true) (λ g. r ≡ filled g.now) → r ≡ first_filled gs
first_test [] None r at is = is
first_test [] (Some h) r at is = absurd (cc)
first_test (g ∷ gs) None r at is = absurd (cc)
first_test (g ∷ gs) (Some h) r at is = let same : h.now ≡ g = cc in is ∙ ap filled same
