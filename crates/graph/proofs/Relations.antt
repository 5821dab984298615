-- A transitive relation that relates nothing to itself stays so with one pair more.
use Rattle.std.proofs.Common.{◌≡◌, ℕ, Bool, true, false, not, ◌&&◌, ◌||◌, eqb, sym, refl, ◌∙◌, subst, ⊎_elim}
use Rattle.std.proofs.lemmas.Bool.{or_cases, or_left, or_right, and_parts, and_from, eqb-true}
use Rattle.graph.specs.Rows.{up_to, joined}

-- what is related through another is related
abbrev pub Through : (ℕ → ℕ → Bool) → Type 0
Through r = (a b c : ℕ) → r a b ≡ true → r b c ≡ true → r a c ≡ true

-- as a test, and back
pub through_from_test : (r : ℕ → ℕ → Bool) → ((a b c : ℕ) → (not (r a b && r b c) || r a c) ≡ true) → Through r
through_from_test r t a b c p q = subst (λ v. (not (v && r b c) || r a c) ≡ true → r a c ≡ true) (sym p) (subst (λ v. (not (true && v) || r a c) ≡ true → r a c ≡ true) (sym q) (λ e. e)) (t a b c)

pub test_from_through : (r : ℕ → ℕ → Bool) → Through r → (a b c : ℕ) → (not (r a b && r b c) || r a c) ≡ true
test_from_through r t a b c = go (r a b) (r b c) (t a b c)
  where
    go : (u v : Bool) → (u ≡ true → v ≡ true → r a c ≡ true) → (not (u && v) || r a c) ≡ true
    go true true h = h refl refl
    go true false h = refl
    go false v h = refl

-- before one that is at or before a is at or before a
onto : (r : ℕ → ℕ → Bool) → Through r → (x y a : ℕ) → r x y ≡ true → up_to r y a ≡ true → up_to r x a ≡ true
onto r t x y a p q =
    or_right (eqb x a) (r x a)
    (⊎_elim (λ e. subst (λ z. r x z ≡ true) (eqb-true y a e) p) (λ h. t x y a p h) (or_cases (eqb y a) (r y a) q))

-- what comes after one that is at or after b is at or after b
on : (r : ℕ → ℕ → Bool) → Through r → (b y z : ℕ) → up_to r b y ≡ true → r y z ≡ true → up_to r b z ≡ true
on r t b y z p q =
    or_right (eqb b z) (r b z)
    (⊎_elim (λ e. subst (λ w. r w z ≡ true) (sym (eqb-true b y e)) q) (λ h. t b y z h q) (or_cases (eqb b y) (r b y) p))

pub joined_through : (r : ℕ → ℕ → Bool) (a b : ℕ) → Through r → Through (joined r a b)
joined_through r a b t x y z p q =
    ⊎_elim
    (λ xy. ⊎_elim
    (λ yz. or_left (r x z) (up_to r x a && up_to r b z) (t x y z xy yz))
    (λ via. let v = and_parts (up_to r y a) (up_to r b z) via in
    or_right (r x z) (up_to r x a && up_to r b z) (and_from (up_to r x a) (up_to r b z) (onto r t x y a xy v.0) v.1))
    (or_cases (r y z) (up_to r y a && up_to r b z) q))
    (λ via. let v = and_parts (up_to r x a) (up_to r b y) via in ⊎_elim
    (λ yz. or_right (r x z) (up_to r x a && up_to r b z) (and_from (up_to r x a) (up_to r b z) v.0 (on r t b y z v.1 yz)))
    (λ again. let w = and_parts (up_to r y a) (up_to r b z) again in
    or_right (r x z) (up_to r x a && up_to r b z) (and_from (up_to r x a) (up_to r b z) v.0 w.1))
    (or_cases (r y z) (up_to r y a && up_to r b z) q))
    (or_cases (r x y) (up_to r x a && up_to r b y) p)

-- from b to x and from x to a leads from b to a
meets : (r : ℕ → ℕ → Bool) → Through r → (b x a : ℕ) → up_to r b x ≡ true → up_to r x a ≡ true → up_to r b a ≡ true
meets r t b x a p q =
    ⊎_elim (λ e. subst (λ z. up_to r z a ≡ true) (sym (eqb-true b x e)) q) (λ h. onto r t b x a h q) (or_cases (eqb b x) (r b x) p)

pub joined_irreflexive : (r : ℕ → ℕ → Bool) (a b : ℕ) → Through r → ((x : ℕ) → r x x ≡ false) → up_to r b a ≡ false → (x : ℕ) → joined r a b x x ≡ false
joined_irreflexive r a b t never not_back x = go (joined r a b x x) refl
  where
    go : (u : Bool) → joined r a b x x ≡ u → u ≡ false
    go false e = refl
    go true e =
        absurd
        (⊎_elim
        (λ own. let not_own = never x in cc)
        (λ via. let v = and_parts (up_to r x a) (up_to r b x) via in let back = meets r t b x a v.1 v.0 in cc)
        (or_cases (r x x) (up_to r x a && up_to r b x) e))

-- relations that agree are transitive together
pub through_alike : (r q : ℕ → ℕ → Bool) → ((x y : ℕ) → r x y ≡ q x y) → Through q → Through r
through_alike r q same t a b c p s = same a c ∙ t a b c (sym (same a b) ∙ p) (sym (same b c) ∙ s)
