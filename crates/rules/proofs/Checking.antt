-- Tests over lists and over the numbers below a bound, and what they say.
use Rattle.std.proofs.Common.{◌≡◌, ℕ, zero, suc, ◌<◌, Bool, true, false, not, ◌&&◌, ◌||◌, eqb, List, [], ◌∷◌, sym, refl, ap, ◌∙◌, subst, inl, inr, ⊎_elim, arith}
use Rattle.std.proofs.lemmas.Bool.{and_parts, or_cases, or_left, or_right, eqb-true, true≢false, cases_eq}
use Rattle.rules.specs.Lists.{◌∈◌, Every}
use Rattle.rules.proofs.Deciding.{Decided}

-- whether a decision says that it holds
unfoldable pub says : {P : Type 0} → Decided P → Bool
says (inl p) = true
says (inr n) = false

-- where it says so, it holds
pub says_so : {P : Type 0} (d : Decided P) → says d ≡ true → P
unfolding says
says_so (inl p) t = p
says_so (inr n) t = absurd (true≢false (sym t))

-- where it holds, it says so
pub so_says : {P : Type 0} (d : Decided P) → P → says d ≡ true
unfolding says
so_says (inl p) h = refl
so_says (inr n) h = absurd (n h)

-- whether two tests have the same result
unfoldable pub alike : Bool → Bool → Bool
alike true b = b
alike false b = not b

-- tests that are alike have the same result
pub alike_so : (a b : Bool) → alike a b ≡ true → a ≡ b
unfolding alike
alike_so true true t = refl
alike_so true false t = sym t
alike_so false true t = t
alike_so false false t = refl

-- a test that fails, or another that passes
unfoldable pub unless : Bool → Bool → Bool
unless true b = b
unless false b = true

-- the other passes where the first does
pub unless_so : (a b : Bool) → unless a b ≡ true → a ≡ true → b ≡ true
unfolding unless
unless_so true b t h = t
unless_so false b t h = absurd (true≢false (sym h))

-- whether every number below n passes
unfoldable pub all_under : ℕ → (ℕ → Bool) → Bool
all_under zero f = true
all_under (suc n) f = f n && all_under n f

-- where all pass, each does
pub all_under_so : (n : ℕ) (f : ℕ → Bool) → all_under n f ≡ true → (a : ℕ) → a < n → f a ≡ true
unfolding all_under
all_under_so zero f t a l = absurd (omega arith)
all_under_so (suc n) f t a l =
    let p = and_parts (f n) (all_under n f) t in
    ⊎_elim (λ e. ap f e ∙ p.0) (λ d. all_under_so n f p.1 a (omega arith)) (cases_eq a n)

-- whether every one of a list passes
unfoldable pub all_of : {X : Type 0} → (X → Bool) → List X → Bool
all_of f [] = true
all_of f (x ∷ xs) = f x && all_of f xs

-- where all pass, each member does
pub all_of_so : {X : Type 0} (f : X → Bool) (xs : List X) → all_of f xs ≡ true → (x : X) → x ∈ xs → f x ≡ true
unfolding all_of
all_of_so f [] t x m = absurd m
all_of_so f (y ∷ ys) t x (inl e) = ap f e ∙ (and_parts (f y) (all_of f ys) t).0
all_of_so f (y ∷ ys) t x (inr m) = all_of_so f ys (and_parts (f y) (all_of f ys) t).1 x m

-- whether some one of a list passes
unfoldable pub any_of : {X : Type 0} → (X → Bool) → List X → Bool
any_of f [] = false
any_of f (x ∷ xs) = f x || any_of f xs

-- where some one passes, it has a name
pub any_of_so : {X : Type 0} (f : X → Bool) (xs : List X) → any_of f xs ≡ true → (x : X) × (x ∈ xs) × (f x ≡ true)
unfolding any_of
any_of_so f [] t = absurd (true≢false (sym t))
any_of_so f (x ∷ xs) t =
    ⊎_elim (λ e. (x, inl refl, e)) (λ r. let s = any_of_so f xs r in (s.0, inr s.1, s.2)) (or_cases (f x) (any_of f xs) t)

-- a member that passes is some one
pub so_any_of : {X : Type 0} (f : X → Bool) (xs : List X) (x : X) → x ∈ xs → f x ≡ true → any_of f xs ≡ true
unfolding any_of
so_any_of f [] x m t = absurd m
so_any_of f (y ∷ ys) x (inl e) t = or_left (f y) (any_of f ys) (ap f (sym e) ∙ t)
so_any_of f (y ∷ ys) x (inr m) t = or_right (f y) (any_of f ys) (so_any_of f ys x m t)

-- whether a number is one of a list
unfoldable pub is_among : ℕ → List ℕ → Bool
unfolding any_of
is_among a xs = any_of (eqb a) xs

-- and then it is
pub is_among_so : (a : ℕ) (xs : List ℕ) → is_among a xs ≡ true → a ∈ xs
unfolding is_among
is_among_so a xs t = let r = any_of_so (eqb a) xs t in subst (λ b. b ∈ xs) (sym (eqb-true a r.0 r.2)) r.1

-- where every one passes and what passes has P, all have P
pub all_of_all : {X : Type 0} (P : X → Type 0) (f : X → Bool) → ((x : X) → f x ≡ true → P x) → (xs : List X) → all_of f xs ≡ true → Every P xs
unfolding all_of
all_of_all P f each [] t = tt
all_of_all P f each (x ∷ xs) t =
    let p = and_parts (f x) (all_of f xs) t in (each x p.0, all_of_all P f each xs p.1)
