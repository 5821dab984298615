-- Whether a chain of pairs leads from one number to another; when one pair more makes a circle; induction along pairs.
use Rattle.std.proofs.Common.{◌≡◌, ℕ, ◌≢◌, ◌⊎◌, List, [], ◌∷◌, sym, refl, ◌∙◌, subst, inl, inr}
use Rattle.rules.specs.Lists.{Any}
use Rattle.rules.specs.Order.{one, more, Linked, UpTo}
use Rattle.rules.proofs.Chains.{Paired, chain_join, Closed, OneMore, one_before, closes}
use Rattle.rules.proofs.Members.{any_at, all_at}
use Rattle.rules.proofs.Joined.{some_one, all_from_members}
use Rattle.rules.proofs.Deciding.{Decided, same_number, any_decided, all_decided, turned, both, not, by_decision}

-- no pairs, no chain
pub no_chain : {x y : ℕ} → Linked [] x y → ⊥
no_chain (one r) = r
no_chain (more r c) = r

-- whether a chain leads, where one pair is added to a list of which it is decided
unfoldable pub one_more_decided : (bigger pairs : List (ℕ × ℕ)) (u v : ℕ) → OneMore bigger pairs u v →
    ((x y : ℕ) → Decided (Linked pairs x y)) → (x y : ℕ) → Decided (Linked bigger x y)
unfolding same_number
one_more_decided bigger pairs u v m known x y = old (known x y)
  where
    up_to : (a b : ℕ) → Decided (a ≡ b) → Decided (UpTo pairs a b)
    up_to a b (inl e) = inl (inl e)
    up_to a b (inr d) = elim (known a b) [ inl c ↦ inl (inr c) | inr n ↦ inr (λ p. elim p [ inl e ↦ d e | inr c ↦ n c ]) ]

    from : (Linked pairs x y → ⊥) → UpTo pairs x u → Decided (UpTo pairs v y) → Decided (Linked bigger x y)
    from no_old up (inl down) = inl ((closes bigger pairs u v m x y).1 (inr (up, down)))
    from no_old up (inr n) = inr (λ c. elim ((closes bigger pairs u v m x y).0 c) [ inl d ↦ no_old d | inr p ↦ n p.1 ])

    new : (Linked pairs x y → ⊥) → Decided (UpTo pairs x u) → Decided (Linked bigger x y)
    new no_old (inl up) = from no_old up (up_to v y (same_number v y))
    new no_old (inr n) = inr (λ c. elim ((closes bigger pairs u v m x y).0 c) [ inl d ↦ no_old d | inr p ↦ n p.0 ])

    old : Decided (Linked pairs x y) → Decided (Linked bigger x y)
    old (inl c) = inl ((closes bigger pairs u v m x y).1 (inl c))
    old (inr no_old) = new no_old (up_to x u (same_number x u))

-- whether a chain of the pairs leads from x to y
unfoldable pub linked : (pairs : List (ℕ × ℕ)) (x y : ℕ) → Decided (Linked pairs x y)
unfolding one_more_decided
linked [] x y = inr no_chain
linked ((u, v) ∷ pairs) x y = one_more_decided ((u, v) ∷ pairs) pairs u v (one_before pairs u v) (linked pairs) x y

-- a chain begins with one of the pairs
pub chain_begins : (pairs : List (ℕ × ℕ)) {x y : ℕ} → Linked pairs x y → (z : ℕ) × Paired pairs x z
chain_begins pairs (one {a} {b} r) = (b, r)
chain_begins pairs (more {a} {b} r c) = (b, r)

-- some number before y of which P does not hold, or P holds of all before y
unfoldable pub some_ahead : (pairs : List (ℕ × ℕ)) (y : ℕ) (P : ℕ → Type 0) → ((x : ℕ) → Decided (P x)) →
    ((x : ℕ) × Linked pairs x y × (P x → ⊥)) ⊎ ((x : ℕ) → Linked pairs x y → P x)
unfolding any_decided both not linked
some_ahead pairs y P known = pick (any_decided Fails (λ p. both (linked pairs p.0 y) (λ c. not (known p.0))) pairs)
  where
    Fails : ℕ × ℕ → Type 0
    Fails p = Linked pairs p.0 y × (P p.0 → ⊥)

    holds : (Any Fails pairs → ⊥) → (x : ℕ) → Linked pairs x y → P x
    holds none x c =
        by_decision (known x) (λ n. let b = chain_begins pairs c in none (any_at Fails (x, b.0) pairs b.1 (c, n)))

    pick : Decided (Any Fails pairs) → ((x : ℕ) × Linked pairs x y × (P x → ⊥)) ⊎ ((x : ℕ) → Linked pairs x y → P x)
    pick (inl a) = let r = some_one Fails pairs a in inl (r.0.0, r.2.0, r.2.1)
    pick (inr none) = inr (holds none)

-- whether P holds of all before y
unfoldable pub all_ahead : (pairs : List (ℕ × ℕ)) (y : ℕ) (P : ℕ → Type 0) → ((x : ℕ) → Decided (P x)) → Decided ((x : ℕ) → Linked pairs x y → P x)
unfolding some_ahead
all_ahead pairs y P known = told (some_ahead pairs y P known)
  where
    told : ((x : ℕ) × Linked pairs x y × (P x → ⊥)) ⊎ ((x : ℕ) → Linked pairs x y → P x) → Decided ((x : ℕ) → Linked pairs x y → P x)
    told (inl r) = inr (λ all. r.2 (all r.0 r.1))
    told (inr all) = inl all

-- no number is before itself by the pairs
abbrev pub NoCircle : List (ℕ × ℕ) → Type 0
NoCircle pairs = (a : ℕ) → Linked pairs a a → ⊥

-- whether some number is before itself by the pairs
unfoldable pub no_circle_decided : (pairs : List (ℕ × ℕ)) → Decided (NoCircle pairs)
unfolding turned all_decided not linked
no_circle_decided pairs =
    turned
    (λ all a c. let b = chain_begins pairs c in all_at (λ (p : ℕ × ℕ). Linked pairs p.0 p.0 → ⊥) (a, b.0) pairs b.1 all c)
    (λ none. all_from_members (λ (p : ℕ × ℕ). Linked pairs p.0 p.0 → ⊥) pairs (λ p m. none p.0))
    (all_decided (λ (p : ℕ × ℕ). Linked pairs p.0 p.0 → ⊥) (λ p. not (linked pairs p.0 p.0)) pairs)

-- a pair whose ends differ and go with the order so far makes no circle
pub still_no_circle : (bigger pairs : List (ℕ × ℕ)) (u v : ℕ) → OneMore bigger pairs u v → NoCircle pairs →
    u ≢ v → (Linked pairs v u → ⊥) → NoCircle bigger
still_no_circle bigger pairs u v m none different against a c = step ((closes bigger pairs u v m a a).0 c)
  where
    around : UpTo pairs a u → UpTo pairs v a → ⊥
    around (inl p) (inl q) = different (sym (q ∙ p))
    around (inl p) (inr d) = against (subst (λ (b : ℕ). Linked pairs v b) p d)
    around (inr d) (inl q) = against (subst (λ (b : ℕ). Linked pairs b u) (sym q) d)
    around (inr d) (inr e) = against (chain_join e d)

    step : Closed (Paired pairs) u v a a → ⊥
    step (inl d) = none a d
    step (inr p) = around p.0 p.1

-- where one pair more makes no circle, its ends differ
pub ends_differ : (bigger pairs : List (ℕ × ℕ)) (u v : ℕ) → OneMore bigger pairs u v → NoCircle bigger → u ≢ v
ends_differ bigger pairs u v m none e = none u (one (subst (Paired bigger u) (sym e) m.new))

-- and go with the order so far
pub ends_agree : (bigger pairs : List (ℕ × ℕ)) (u v : ℕ) → OneMore bigger pairs u v → NoCircle bigger → Linked pairs v u → ⊥
ends_agree bigger pairs u v m none c = none u ((closes bigger pairs u v m u u).1 (inr (inl refl, inr c)))

-- fewer pairs, no more chains
pub fewer_pairs : (bigger pairs : List (ℕ × ℕ)) (u v : ℕ) → OneMore bigger pairs u v → {x y : ℕ} → Linked pairs x y → Linked bigger x y
fewer_pairs bigger pairs u v m {x} {y} c = (closes bigger pairs u v m x y).1 (inl c)

-- what holds of a number where it holds of all before it by the pairs holds of every number
abbrev pub Induction : List (ℕ × ℕ) → Type 1
Induction pairs = (P : ℕ → Type 0) → ((a : ℕ) → ((b : ℕ) → Linked pairs b a → P b) → P a) → (a : ℕ) → P a

one_more_induction : (bigger pairs : List (ℕ × ℕ)) (u v : ℕ) → OneMore bigger pairs u v → NoCircle bigger → Induction pairs → Induction bigger
one_more_induction bigger pairs u v m none known P hyp = known P (λ a before. hyp a (λ b c. late a before b ((closes bigger pairs u v m b a).0 c)))
  where
    Early : ℕ → Type 0
    Early a = (UpTo pairs v a → ⊥) → P a

    onward : {b a : ℕ} → Linked pairs b a → UpTo pairs v b → UpTo pairs v a
    onward {b} {a} c (inl e) = inr (subst (λ (x : ℕ). Linked pairs x a) (sym e) c)
    onward {b} {a} c (inr d) = inr (chain_join d c)

    early_step : (a : ℕ) → ((b : ℕ) → Linked pairs b a → Early b) → Early a
    early_step a before out = hyp a (λ b c. step b ((closes bigger pairs u v m b a).0 c))
      where
        step : (b : ℕ) → Closed (Paired pairs) u v b a → P b
        step b (inl d) = before b d (λ up. out (onward d up))
        step b (inr p) = absurd (out p.1)

    early : (a : ℕ) → Early a
    early = known Early early_step

    apart : UpTo pairs v u → ⊥
    apart (inl e) = ends_differ bigger pairs u v m none (sym e)
    apart (inr c) = ends_agree bigger pairs u v m none c

    first : (b : ℕ) → UpTo pairs b u → UpTo pairs v b → ⊥
    first b (inl e) up = apart (subst (λ (x : ℕ). UpTo pairs v x) e up)
    first b (inr c) up = apart (onward c up)

    late : (a : ℕ) → ((b : ℕ) → Linked pairs b a → P b) → (b : ℕ) → Closed (Paired pairs) u v b a → P b
    late a before b (inl c) = before b c
    late a before b (inr p) = early b (first b p.0)

-- where no number is before itself, induction goes along the pairs
pub linked_induction : (pairs : List (ℕ × ℕ)) → NoCircle pairs → Induction pairs
linked_induction [] none = λ P hyp a. hyp a (λ b c. absurd (no_chain c))
linked_induction ((u, v) ∷ pairs) none =
    let m = one_before pairs u v in
    one_more_induction ((u, v) ∷ pairs) pairs u v m none (linked_induction pairs (λ a c. none a (fewer_pairs ((u, v) ∷ pairs) pairs u v m c)))
