-- Chains over any relation, and what one step more adds to them.
use Rattle.std.proofs.Common.{◌≡◌, ℕ, ◌⊎◌, List, [], ◌∷◌, ◌++◌, sym, refl, ap, subst, inl, inr}
use Rattle.rules.specs.Lists.{◌∈◌}
use Rattle.rules.specs.Order.{Chain, one, more}
use Rattle.rules.specs.OrderLaws.{APairCloses, Closes}
use Rattle.rules.proofs.Joined.{any_cases, any_left, any_right}

-- what leads along R leads along S, where each step of R is one of S
pub chain_map : (R S : ℕ → ℕ → Type 0) → ((a b : ℕ) → R a b → S a b) → {x y : ℕ} → Chain R x y → Chain S x y
chain_map R S to (one {a} {b} r) = one (to a b r)
chain_map R S to (more {a} {b} r c) = more (to a b r) (chain_map R S to c)

-- chains that meet are one chain
pub chain_join : {R : ℕ → ℕ → Type 0} {x y z : ℕ} → Chain R x y → Chain R y z → Chain R x z
chain_join (one r) d = more r d
chain_join (more r c) d = more r (chain_join c d)

-- x leads to y along R, or x is u or leads to it and v is y or leads to it
abbrev pub Closed : (ℕ → ℕ → Type 0) → ℕ → ℕ → ℕ → ℕ → Type 0
Closed R u v x y = Chain R x y ⊎ (((x ≡ u) ⊎ Chain R x u) × ((v ≡ y) ⊎ Chain R v y))

-- a chain of steps of R and of the step from u to v passes the latter or does not
pub split : (R S : ℕ → ℕ → Type 0) (u v : ℕ) → ((a b : ℕ) → S a b → R a b ⊎ ((a ≡ u) × (b ≡ v))) → {x y : ℕ} → Chain S x y → Closed R u v x y
split R S u v from (one {a} {b} e) =
    elim (from a b e) [ inl r ↦ inl (one r) | inr p ↦ inr (inl p.0, inl (sym p.1)) ]
split R S u v from (more {a} {b} {c} e rest) = step (from a b e) (split R S u v from rest)
  where
    step : R a b ⊎ ((a ≡ u) × (b ≡ v)) → Closed R u v b c → Closed R u v a c
    step (inl r) (inl d) = inl (more r d)
    step (inl r) (inr (inl p, down)) = inr (inr (one (subst (R a) p r)), down)
    step (inl r) (inr (inr d, down)) = inr (inr (more r d), down)
    step (inr p) (inl d) = inr (inl p.0, inr (subst (λ (m : ℕ). Chain R m c) p.1 d))
    step (inr p) (inr q) = inr (inl p.0, q.1)

-- and what is so related is led to
pub unsplit : (R S : ℕ → ℕ → Type 0) (u v : ℕ) → ((a b : ℕ) → R a b → S a b) → S u v → {x y : ℕ} → Closed R u v x y → Chain S x y
unsplit R S u v to new {x} {y} (inl c) = chain_map R S to c
unsplit R S u v to new {x} {y} (inr p) = up p.0
  where
    down : (v ≡ y) ⊎ Chain R v y → Chain S u y
    down (inl e) = one (subst (S u) e new)
    down (inr c) = more new (chain_map R S to c)

    up : (x ≡ u) ⊎ Chain R x u → Chain S x y
    up (inl e) = subst (λ (a : ℕ). Chain S a y) (sym e) (down p.1)
    up (inr c) = chain_join (chain_map R S to c) (down p.1)

-- the pair from a to b is one of the list
abbrev pub Paired : List (ℕ × ℕ) → ℕ → ℕ → Type 0
Paired pairs a b = ◌∈◌ {X = ℕ × ℕ} (a, b) pairs

-- a list of pairs that has one pair more
pub record OneMore (bigger pairs : List (ℕ × ℕ)) (u v : ℕ) : Type 0 where
  pub old : (a b : ℕ) → Paired pairs a b → Paired bigger a b
  pub new : Paired bigger u v
  pub cases : (a b : ℕ) → Paired bigger a b → Paired pairs a b ⊎ ((a ≡ u) × (b ≡ v))

-- the closure law of a list that has one pair more
pub closes : (bigger pairs : List (ℕ × ℕ)) (u v : ℕ) → OneMore bigger pairs u v → Closes bigger pairs u v
closes bigger pairs u v m x y =
    (λ c. split (Paired pairs) (Paired bigger) u v m.cases c, λ d. unsplit (Paired pairs) (Paired bigger) u v m.old m.new d)

-- equal pairs have equal ends
both_ends : (a b u v : ℕ) → ◌≡◌ {A = ℕ × ℕ} (a, b) (u, v) → (a ≡ u) × (b ≡ v)
both_ends a b u v e = (ap (λ (p : ℕ × ℕ). p.0) e, ap (λ (p : ℕ × ℕ). p.1) e)

-- a pair in front is one pair more
pub one_before : (pairs : List (ℕ × ℕ)) (u v : ℕ) → OneMore ((u, v) ∷ pairs) pairs u v
one_before pairs u v = record { old = λ a b m. inr m; new = inl refl; cases = λ a b m. cases a b m }
  where
    cases : (a b : ℕ) → Paired ((u, v) ∷ pairs) a b → Paired pairs a b ⊎ ((a ≡ u) × (b ≡ v))
    cases a b (inl e) = inr (both_ends a b u v e)
    cases a b (inr m) = inl m

-- a pair at the end is one pair more
pub one_behind : (pairs : List (ℕ × ℕ)) (u v : ℕ) → OneMore (pairs ++ (u, v) ∷ []) pairs u v
one_behind pairs u v =
    record {
      old = λ a b m. any_left (λ q. ◌≡◌ {A = ℕ × ℕ} (a, b) q) pairs ((u, v) ∷ []) m;
      new = any_right (λ q. ◌≡◌ {A = ℕ × ℕ} (u, v) q) pairs ((u, v) ∷ []) (inl refl);
      cases = λ a b m. cases a b (any_cases (λ q. ◌≡◌ {A = ℕ × ℕ} (a, b) q) pairs ((u, v) ∷ []) m);
    }
  where
    cases : (a b : ℕ) → Paired pairs a b ⊎ Paired ((u, v) ∷ []) a b → Paired pairs a b ⊎ ((a ≡ u) × (b ≡ v))
    cases a b (inl m) = inl m
    cases a b (inr (inl e)) = inr (both_ends a b u v e)
    cases a b (inr (inr m)) = absurd m

-- the closure law of a pair in front and of one at the end
pub a_pair_closes : APairCloses
a_pair_closes pairs a b =
    (closes ((a, b) ∷ pairs) pairs a b (one_before pairs a b), closes (pairs ++ (a, b) ∷ []) pairs a b (one_behind pairs a b))
