-- The exclusions of a sheet, checked against a list of pairs.
use Rattle.std.proofs.Common.{◌≡◌, ℕ, ◌<◌, Bool, true, ◌&&◌, ◌||◌, eqb, ltb, ◌↔◌, List, sym, refl, ◌∙◌, subst, inl, inr, ⊎_elim}
use Rattle.std.proofs.lemmas.Bool.{and_parts, and_from, or_cases, or_left, or_right, eqb-true, eq-eqb, ltb-true}
use Rattle.rules.specs.Lists.{◌∈◌}
use Rattle.rules.specs.Sheets.{Sheet}
use Rattle.rules.specs.Objects.{object_count}
use Rattle.rules.specs.Exclusion.{Excludes}
use Rattle.rules.specs.Samples.{Listed}
use Rattle.rules.proofs.Checking.{says, says_so, so_says, alike, alike_so, all_under, all_under_so, all_of, all_of_so, any_of, any_of_so, so_any_of}
use Rattle.rules.proofs.Excluding.{excludes}

-- whether a pair has these numbers, in this order
unfoldable pub is_pair : ℕ → ℕ → (ℕ × ℕ) → Bool
is_pair x y p = eqb x p.0 && eqb y p.1

-- where the test passes, it is that pair
pub is_pair_so : (x y : ℕ) (p : ℕ × ℕ) → is_pair x y p ≡ true → ◌≡◌ {A = ℕ × ℕ} (x, y) p
unfolding is_pair
is_pair_so x y p t =
    let a = and_parts (eqb x p.0) (eqb y p.1) t in
    λ i. (eqb-true x p.0 a.0 i, eqb-true y p.1 a.1 i)

-- a pair has its own numbers
pub so_is_pair : (x y : ℕ) → is_pair x y (x, y) ≡ true
unfolding is_pair
so_is_pair x y = and_from (eqb x x) (eqb y y) (eq-eqb x x refl) (eq-eqb y y refl)

-- whether the pair is listed, in one order or the other
unfoldable pub is_listed : List (ℕ × ℕ) → ℕ → ℕ → Bool
unfolding any_of is_pair
is_listed pairs x y = any_of (is_pair x y) pairs || any_of (is_pair y x) pairs

one_way : (pairs : List (ℕ × ℕ)) (x y : ℕ) → any_of (is_pair x y) pairs ≡ true → ◌∈◌ {X = ℕ × ℕ} (x, y) pairs
one_way pairs x y t =
    let r = any_of_so (is_pair x y) pairs t in
    subst (λ (p : ℕ × ℕ). p ∈ pairs) (sym (is_pair_so x y r.0 r.2)) r.1

-- where the test passes, the pair is listed
pub is_listed_so : (pairs : List (ℕ × ℕ)) (x y : ℕ) → is_listed pairs x y ≡ true → Listed x y pairs
unfolding is_listed
is_listed_so pairs x y t =
    ⊎_elim (λ a. inl (one_way pairs x y a)) (λ b. inr (one_way pairs y x b))
    (or_cases (any_of (is_pair x y) pairs) (any_of (is_pair y x) pairs) t)

-- a pair that is listed passes
pub so_is_listed : (pairs : List (ℕ × ℕ)) (x y : ℕ) → Listed x y pairs → is_listed pairs x y ≡ true
unfolding is_listed
so_is_listed pairs x y (inl m) =
    or_left (any_of (is_pair x y) pairs) (any_of (is_pair y x) pairs) (so_any_of (is_pair x y) pairs (x, y) m (so_is_pair x y))
so_is_listed pairs x y (inr m) =
    or_right (any_of (is_pair x y) pairs) (any_of (is_pair y x) pairs) (so_any_of (is_pair y x) pairs (y, x) m (so_is_pair y x))

-- whether the two exclude each other
unfoldable pub is_excluding : Sheet → ℕ → ℕ → Bool
unfolding says excludes
is_excluding s x y = says (excludes s x y)

-- whether both numbers are below n
unfoldable pub is_within : ℕ → (ℕ × ℕ) → Bool
is_within n p = ltb p.0 n && ltb p.1 n

-- whether the pairs are the exclusions of the sheet
unfoldable pub exclusions_are : Sheet → List (ℕ × ℕ) → Bool
unfolding all_of all_under alike is_listed is_excluding is_within
exclusions_are s pairs =
    all_of (is_within (object_count s)) pairs
    && all_under (object_count s) (λ x. all_under (object_count s) (λ y. alike (is_excluding s x y) (is_listed pairs x y)))

-- where the test passes, they are
pub exclusions_so : (s : Sheet) (pairs : List (ℕ × ℕ)) → exclusions_are s pairs ≡ true → (x y : ℕ) → Excludes s x y ↔ Listed x y pairs
unfolding exclusions_are is_excluding is_within
exclusions_so s pairs t x y = (to, back)
  where
    parts : (all_of (is_within (object_count s)) pairs ≡ true)
        × (all_under (object_count s) (λ x. all_under (object_count s) (λ y. alike (is_excluding s x y) (is_listed pairs x y))) ≡ true)
    parts =
        and_parts (all_of (is_within (object_count s)) pairs)
        (all_under (object_count s) (λ x. all_under (object_count s) (λ y. alike (is_excluding s x y) (is_listed pairs x y)))) t

    same : x < object_count s → y < object_count s → is_excluding s x y ≡ is_listed pairs x y
    same l k =
        alike_so (is_excluding s x y) (is_listed pairs x y)
        (all_under_so (object_count s) (λ y. alike (is_excluding s x y) (is_listed pairs x y))
        (all_under_so (object_count s) (λ x. all_under (object_count s) (λ y. alike (is_excluding s x y) (is_listed pairs x y))) parts.1 x l) y k)

    within : (a b : ℕ) → ◌∈◌ {X = ℕ × ℕ} (a, b) pairs → (a < object_count s) × (b < object_count s)
    within a b m =
        let r = and_parts (ltb a (object_count s)) (ltb b (object_count s)) (all_of_so (is_within (object_count s)) pairs parts.0 (a, b) m) in
        (ltb-true a (object_count s) r.0, ltb-true b (object_count s) r.1)

    known : Listed x y pairs → (x < object_count s) × (y < object_count s)
    known (inl m) = within x y m
    known (inr m) = let r = within y x m in (r.1, r.0)

    to : Excludes s x y → Listed x y pairs
    to e = is_listed_so pairs x y (sym (same e.known e.known_too) ∙ so_says (excludes s x y) e)

    back : Listed x y pairs → Excludes s x y
    back m = let r = known m in says_so (excludes s x y) (same r.0 r.1 ∙ so_is_listed pairs x y m)
