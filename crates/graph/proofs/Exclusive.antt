-- What the rows say of exclusion is what the rules say.
use Rattle.std.proofs.Common.{◌≡◌, ℕ, true, not, ◌&&◌, ◌||◌, eqb, ltb, List, sym, inl, inr, ⊎_elim, ne_eqb}
use Rattle.std.proofs.lemmas.Bool.{not_from_false, false_from_ne_true, and_parts, and_from, or_cases, or_left, or_right, not-true, eq-eqb, ltb-true, lt-ltb}
use Rattle.rules.specs.Sheets.{Sheet}
use Rattle.rules.specs.Objects.{objects, object, object_count, first, last, always_live}
use Rattle.rules.specs.Exclusion.{Apart, Excludes}
use Rattle.graph.specs.Rows.{before}
use Rattle.graph.specs.Orders.{Heard, Meant}
use Rattle.graph.specs.Excluding.{apart, excluding}
use Rattle.graph.proofs.Ranged.{refuted}
use Rattle.graph.proofs.Ties.{told}

-- the test of lives that never meet
apart_told : (rows : List ℕ) (s : Sheet) → Meant rows s.links → (x y : ℕ) → apart rows (object s x) (object s y) ≡ true → Apart s x y
apart_told rows s meant x y t =
    let a = and_parts (not (always_live s x)) (not (always_live s y) && (before rows (last s x) (first s y) || before rows (last s y) (first s x))) t in
    let b = and_parts (not (always_live s y)) (before rows (last s x) (first s y) || before rows (last s y) (first s x)) a.1 in
    record {
      passes = not-true (always_live s x) a.0;
      passes_too = not-true (always_live s y) b.0;
      ordered =
          ⊎_elim
          (λ h. inl (told rows s.links meant (last s x) (first s y) h))
          (λ h. inr (told rows s.links meant (last s y) (first s x) h))
          (or_cases (before rows (last s x) (first s y)) (before rows (last s y) (first s x)) b.1);
    }

apart_heard : (rows : List ℕ) (s : Sheet) → Heard rows s.links → (x y : ℕ) → Apart s x y → apart rows (object s x) (object s y) ≡ true
apart_heard rows s heard x y a =
    and_from (not (always_live s x)) (not (always_live s y) && (before rows (last s x) (first s y) || before rows (last s y) (first s x)))
    (not_from_false (always_live s x) a.passes)
    (and_from (not (always_live s y)) (before rows (last s x) (first s y) || before rows (last s y) (first s x))
    (not_from_false (always_live s y) a.passes_too)
    (⊎_elim
    (λ h. or_left (before rows (last s x) (first s y)) (before rows (last s y) (first s x)) (heard (last s x) (first s y) h))
    (λ h. or_right (before rows (last s x) (first s y)) (before rows (last s y) (first s x)) (heard (last s y) (first s x) h))
    a.ordered))

-- the test of exclusion holds exactly where the objects exclude each other
pub excluding_told : (rows : List ℕ) (s : Sheet) → Heard rows s.links → (x y : ℕ) → excluding rows (objects s) x y ≡ true → Excludes s x y
excluding_told rows s heard x y t =
    let a = and_parts (ltb x (object_count s)) (ltb y (object_count s) && (not (eqb y x) && not (apart rows (object s x) (object s y)))) t in
    let b = and_parts (ltb y (object_count s)) (not (eqb y x) && not (apart rows (object s x) (object s y))) a.1 in
    let c = and_parts (not (eqb y x)) (not (apart rows (object s x) (object s y))) b.1 in
    record {
      known = ltb-true x (object_count s) a.0;
      known_too = ltb-true y (object_count s) b.0;
      different = λ e. refuted (eqb y x) (eq-eqb y x) (not-true (eqb y x) c.0) (sym e);
      not_apart = λ h. refuted (apart rows (object s x) (object s y)) (apart_heard rows s heard x y) (not-true (apart rows (object s x) (object s y)) c.1) h;
    }

pub excluding_heard : (rows : List ℕ) (s : Sheet) → Meant rows s.links → (x y : ℕ) → Excludes s x y → excluding rows (objects s) x y ≡ true
excluding_heard rows s meant x y e =
    and_from (ltb x (object_count s)) (ltb y (object_count s) && (not (eqb y x) && not (apart rows (object s x) (object s y)))) (lt-ltb x (object_count s) e.known)
    (and_from (ltb y (object_count s)) (not (eqb y x) && not (apart rows (object s x) (object s y))) (lt-ltb y (object_count s) e.known_too)
    (and_from (not (eqb y x)) (not (apart rows (object s x) (object s y)))
    (not_from_false (eqb y x) (ne_eqb y x (λ h. e.different (sym h))))
    (not_from_false (apart rows (object s x) (object s y)) (false_from_ne_true (apart rows (object s x) (object s y)) (λ t. e.not_apart (apart_told rows s meant x y t))))))
