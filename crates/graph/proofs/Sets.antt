-- Sets of numbers below 256 as four words.
use Rattle.std.proofs.Common.{◌≡◌, ℕ, ◌+◌, ◌<◌, ◌≤◌, Bool, true, false, not, ◌&&◌, ◌||◌, eqb, ltb, List, length, sym, ap, ◌∙◌, ⊎_elim, arith, ne_eqb}
use Rattle.std.proofs.Math.Bool.{or-false, and-true, and-false}
use Rattle.std.proofs.lemmas.Bool.{cases_eq, cases_lt, eq-eqb, lt-ltb, le-ltb}
use Rattle.rules.specs.declared.memory.Object.{Object}
use Rattle.graph.specs.Rows.{in_row}
use Rattle.graph.specs.Excluding.{apart, excluding, object_at}

-- one number more has been looked at: it is in the set where the test holds
pub looked : (words grown : List ℕ) (test : ℕ → Bool) (y : ℕ) (gain : Bool) → ((z : ℕ) → in_row words z ≡ (ltb z y && test z))
    → ((z : ℕ) → in_row grown z ≡ (in_row words z || (gain && eqb y z))) → test y ≡ gain → (z : ℕ) → in_row grown z ≡ (ltb z (y + 1) && test z)
looked words grown test y gain so adds t z =
    adds z ∙ (ap (λ u. u || (gain && eqb y z)) (so z) ∙ ⊎_elim same (λ n. ⊎_elim (less n) (more n) (cases_lt z y)) (cases_eq z y))
  where
    same : z ≡ y → ((ltb z y && test z) || (gain && eqb y z)) ≡ (ltb z (y + 1) && test z)
    same e =
        let a : ltb z y ≡ false = le-ltb z y (omega arith) in
        let b : ltb z (y + 1) ≡ true = lt-ltb z (y + 1) (omega arith) in
        let c : eqb y z ≡ true = eq-eqb y z (sym e) in
        let f : test z ≡ gain = ap test e ∙ t in
        rw (a, b, c, f) (and-true gain)

    less : (z ≡ y → ⊥) → z < y → ((ltb z y && test z) || (gain && eqb y z)) ≡ (ltb z (y + 1) && test z)
    less n l =
        let a : ltb z y ≡ true = lt-ltb z y l in
        let b : ltb z (y + 1) ≡ true = lt-ltb z (y + 1) (omega arith) in
        let c : eqb y z ≡ false = ne_eqb y z (λ e. n (sym e)) in
        rw (a, b, c, and-false gain) (or-false (test z))

    more : (z ≡ y → ⊥) → y ≤ z → ((ltb z y && test z) || (gain && eqb y z)) ≡ (ltb z (y + 1) && test z)
    more n l =
        let a : ltb z y ≡ false = le-ltb z y l in
        let b : ltb z (y + 1) ≡ false = le-ltb z (y + 1) (omega arith) in
        let c : eqb y z ≡ false = ne_eqb y z (λ e. n (sym e)) in
        rw (a, b, c) (and-false gain)

-- of two objects of the list
pub excluding_known : (rows : List ℕ) (objects : List Object) (x y : ℕ) (o : Object) → x < length objects → o ≡ object_at objects x → y < length objects →
    excluding rows objects x y ≡ (not (eqb y x) && not (apart rows o (object_at objects y)))
excluding_known rows objects x y o l is m =
    let a : ltb x (length objects) ≡ true = lt-ltb x (length objects) l in
    let b : ltb y (length objects) ≡ true = lt-ltb y (length objects) m in
    rw (a, b) (ap (λ p. not (eqb y x) && not (apart rows p (object_at objects y))) (sym is))

-- what is no object excludes nothing
pub excluding_within : (rows : List ℕ) (objects : List Object) (x y i : ℕ) → length objects ≤ i → (ltb y i && excluding rows objects x y) ≡ excluding rows objects x y
excluding_within rows objects x y i all = ⊎_elim inside outside (cases_lt y i)
  where
    inside : y < i → (ltb y i && excluding rows objects x y) ≡ excluding rows objects x y
    inside l = ap (λ u. u && excluding rows objects x y) (lt-ltb y i l)

    outside : i ≤ y → (ltb y i && excluding rows objects x y) ≡ excluding rows objects x y
    outside l =
        let none : ltb y (length objects) ≡ false = le-ltb y (length objects) (omega arith) in
        let rest = not (eqb y x) && not (apart rows (object_at objects x) (object_at objects y)) in
        ap (λ u. u && excluding rows objects x y) (le-ltb y i l)
        ∙ sym (ap (λ u. ltb x (length objects) && (u && rest)) none ∙ and-false (ltb x (length objects)))
