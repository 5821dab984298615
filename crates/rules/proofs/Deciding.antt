-- Decisions, and how they join; the lowest number of which something holds.
-- The decision of a relation has the relation's name in small letters; all compute.
use Rattle.std.proofs.Common.{◌≡◌, ℕ, zero, suc, ◌<◌, ◌≤◌, Bool, true, false, ◌⊎◌, List, [], ◌∷◌, sym, refl, subst, inl, inr, arith}
use native.Mathlib.Decide.{ℕ_discrete, dec_lt}
use Rattle.rules.specs.Lists.{Every, Any, ◌∈◌, Lowest}

-- it holds, or it does not
abbrev pub Decided : Type 0 → Type 0
Decided A = A ⊎ (A → ⊥)

-- the decision says that it holds
abbrev pub SaysYes : {A : Type 0} → Decided A → Type 0
SaysYes (inl a) = Unit {0}
SaysYes (inr n) = ⊥

-- the decision says that it does not hold
abbrev pub SaysNo : {A : Type 0} → Decided A → Type 0
SaysNo (inl a) = ⊥
SaysNo (inr n) = Unit {0}

-- what a decision says is so
pub by_yes : {A : Type 0} (d : Decided A) → SaysYes d → A
by_yes (inl a) t = a
by_yes (inr n) t = absurd t

-- and what it denies is not so
pub by_no : {A : Type 0} (d : Decided A) → SaysNo d → A → ⊥
by_no (inl a) t h = t
by_no (inr n) t h = n h

-- what cannot fail holds, where it is decided
pub by_decision : {A : Type 0} → Decided A → ((A → ⊥) → ⊥) → A
by_decision (inl a) h = a
by_decision (inr n) h = absurd (h n)

-- a decision of the library's
unfoldable pub decided : {A : Type 0} → Dec A → Decided A
decided (yes a) = inl a
decided (no n) = inr n

-- what holds exactly when something decided does
unfoldable pub turned : {A B : Type 0} → (A → B) → (B → A) → Decided A → Decided B
turned f g (inl a) = inl (f a)
turned f g (inr n) = inr (λ b. n (g b))

-- the contrary
unfoldable pub not : {A : Type 0} → Decided A → Decided (A → ⊥)
not (inl a) = inr (λ n. n a)
not (inr n) = inl n

-- both hold; the second is asked only where the first holds
unfoldable pub both : {A B : Type 0} → Decided A → (A → Decided B) → Decided (A × B)
both (inl a) d = elim (d a) [ inl b ↦ inl (a, b) | inr n ↦ inr (λ p. n p.1) ]
both (inr n) d = inr (λ p. n p.0)

-- one of the two holds; the second is asked only where the first does not hold
unfoldable pub either : {A B : Type 0} → Decided A → ((A → ⊥) → Decided B) → Decided (A ⊎ B)
either (inl a) d = inl (inl a)
either (inr n) d = elim (d n) [ inl b ↦ inl (inr b) | inr m ↦ inr (λ s. elim s [ inl a ↦ n a | inr b ↦ m b ]) ]

-- whether two numbers are equal
unfoldable pub same_number : (a b : ℕ) → Decided (a ≡ b)
unfolding decided ℕ_discrete
same_number a b = decided (ℕ_discrete a b)

-- whether one number is below another
unfoldable pub below : (a b : ℕ) → Decided (a < b)
unfolding decided dec_lt
below a b = decided (dec_lt a b)

-- whether a test is false
unfoldable pub is_false : (b : Bool) → Decided (b ≡ false)
is_false false = inl refl
is_false true = inr (λ e. absurd (subst Falsity (sym e) tt))
  where
    Falsity : Bool → Type 0
    Falsity true = ⊥
    Falsity false = Unit {0}

-- whether P holds of some one of a list
unfoldable pub any_decided : {X : Type 0} (P : X → Type 0) → ((x : X) → Decided (P x)) → (xs : List X) → Decided (Any P xs)
unfolding either
any_decided P each [] = inr (λ a. a)
any_decided P each (x ∷ xs) = either (each x) (λ n. any_decided P each xs)

-- whether P holds of every one of a list
unfoldable pub all_decided : {X : Type 0} (P : X → Type 0) → ((x : X) → Decided (P x)) → (xs : List X) → Decided (Every P xs)
unfolding both
all_decided P each [] = inl tt
all_decided P each (x ∷ xs) = both (each x) (λ p. all_decided P each xs)

-- whether a number is one of a list
unfoldable pub member : (a : ℕ) (xs : List ℕ) → Decided (a ∈ xs)
unfolding any_decided same_number
member a xs = any_decided (λ b. a ≡ b) (same_number a) xs

-- whether P holds of every number below n
unfoldable pub all_below : (P : ℕ → Type 0) → ((a : ℕ) → Decided (P a)) → (n : ℕ) → Decided ((a : ℕ) → a < n → P a)
all_below P each zero = inl (λ a l. absurd (omega arith))
all_below P each (suc n) = step (all_below P each n)
  where
    last : ((a : ℕ) → a < n → P a) → P n → (a : ℕ) → a < suc n → P a
    last rest p a l = elim (same_number a n) [ inl e ↦ subst P (sym e) p | inr d ↦ rest a (omega arith) ]

    step : Decided ((a : ℕ) → a < n → P a) → Decided ((a : ℕ) → a < suc n → P a)
    step (inr no-rest) = inr (λ h. no-rest (λ a l. h a (omega arith)))
    step (inl rest) = elim (each n) [ inl p ↦ inl (last rest p) | inr no_last ↦ inr (λ h. no_last (h n (omega arith))) ]

-- the lowest number below n of which P holds, or none
unfoldable pub search_below : (P : ℕ → Type 0) → ((a : ℕ) → Decided (P a)) → (n : ℕ) →
    ((a : ℕ) × (a < n) × Lowest P a) ⊎ ((a : ℕ) → a < n → P a → ⊥)
search_below P each zero = inr (λ a l p. omega arith)
search_below P each (suc n) = step (search_below P each n)
  where
    least : ((a : ℕ) → a < n → P a → ⊥) → (b : ℕ) → P b → n ≤ b
    least none b p = elim (below b n) [ inl l ↦ absurd (none b l p) | inr h ↦ omega arith ]

    last : ((a : ℕ) → a < n → P a → ⊥) → (P n → ⊥) → (a : ℕ) → a < suc n → P a → ⊥
    last none m a l p = elim (same_number a n) [ inl e ↦ m (subst P e p) | inr d ↦ none a (omega arith) p ]

    step : ((a : ℕ) × (a < n) × Lowest P a) ⊎ ((a : ℕ) → a < n → P a → ⊥) → ((a : ℕ) × (a < suc n) × Lowest P a) ⊎ ((a : ℕ) → a < suc n → P a → ⊥)
    step (inl found) = inl (found.0, omega arith, found.2)
    step (inr none) = elim (each n) [ inl p ↦ inl (n, omega arith, record { holds = p; least = least none }) | inr m ↦ inr (last none m) ]

-- the lowest is one number
pub same_lowest : {P : ℕ → Type 0} {a b : ℕ} → Lowest P a → Lowest P b → a ≡ b
same_lowest {P} {a} {b} p q = let l = p.least b q.holds in let m = q.least a p.holds in omega arith
