-- The lean order of a sheet: there is one, and only one.
use Rattle.std.proofs.Common.{◌≡◌, ℕ, zero, suc, ◌<◌, ◌≤◌, ◌⊎◌, List, [], ◌∷◌, length, sym, refl, subst, inl, inr, arith}
use Rattle.rules.specs.Lists.{◌∈◌, numbers_from}
use Rattle.rules.specs.Sheets.{Sheet, actor_count}
use Rattle.rules.specs.Order.{edges, OrderedSheet}
use Rattle.rules.specs.Lean.{net, Leaner, ReadyToList, LeanFrom, Lean}
use Rattle.rules.specs.LeanLaws.{LeanOrderExistsOnce}
use Rattle.rules.proofs.Deciding.{Decided, turned, both, not, by_decision, same_number, below, member}
use Rattle.rules.proofs.Orderings.{all_ahead}
use Rattle.rules.proofs.Joining.{before_induction}
use Rattle.rules.proofs.Spans.{before_known}
use Rattle.rules.proofs.Firings.{without, none_left, in_numbers}

-- a is b, or leaner
abbrev pub AsLean : Sheet → ℕ → ℕ → Type 0
AsLean s a b = (b ≡ a) ⊎ Leaner s a b

-- of two actors one is as lean as the other
unfoldable pub one_is_as_lean : (s : Sheet) (a b : ℕ) → AsLean s a b ⊎ AsLean s b a
unfolding below same_number
one_is_as_lean s a b = by_net (below (net s a b) (net s b a)) (below (net s b a) (net s a b)) (below a b) (same_number b a)
  where
    by_net : Decided (net s a b < net s b a) → Decided (net s b a < net s a b) → Decided (a < b) → Decided (b ≡ a) → AsLean s a b ⊎ AsLean s b a
    by_net (inl less) d e f = inl (inr (inl less))
    by_net (inr n) (inl less) e f = inr (inr (inl less))
    by_net (inr n) (inr m) (inl lower) f = inl (inr (inr (omega arith, lower)))
    by_net (inr n) (inr m) (inr h) (inl same) = inl (inl same)
    by_net (inr n) (inr m) (inr h) (inr d) = inr (inr (inr (omega arith, omega arith)))

-- leaner than one that is leaner is leaner
pub leaner_onward : (s : Sheet) (a b c : ℕ) → Leaner s a b → Leaner s b c → Leaner s a c
leaner_onward s a b c (inl p) (inl q) = inl (omega arith)
leaner_onward s a b c (inl p) (inr q) = inl (omega arith)
leaner_onward s a b c (inr p) (inl q) = inl (omega arith)
leaner_onward s a b c (inr p) (inr q) = inr (omega arith, omega arith)

-- as lean as one that is as lean is as lean
pub as_lean_onward : (s : Sheet) (a b c : ℕ) → AsLean s a b → AsLean s b c → AsLean s a c
as_lean_onward s a b c (inl e) q = subst (λ (x : ℕ). AsLean s x c) e q
as_lean_onward s a b c (inr p) (inl e) = inr (subst (Leaner s a) (sym e) p)
as_lean_onward s a b c (inr p) (inr q) = inr (leaner_onward s a b c p q)

-- two that are each as lean as the other are one
pub as_lean_both_ways : (s : Sheet) (a b : ℕ) → AsLean s a b → AsLean s b a → a ≡ b
as_lean_both_ways s a b (inl e) q = sym e
as_lean_both_ways s a b (inr p) (inl e) = e
as_lean_both_ways s a b (inr p) (inr q) = absurd (never p q)
  where
    never : Leaner s a b → Leaner s b a → ⊥
    never (inl p) (inl q) = omega arith
    never (inl p) (inr q) = omega arith
    never (inr p) (inl q) = omega arith
    never (inr p) (inr q) = omega arith

-- P holds of a, which is as lean as any number below n of which P holds
pub record Leanest (s : Sheet) (P : ℕ → Type 0) (n a : ℕ) : Type 0 where
  pub holds : P a
  pub as_lean : (b : ℕ) → b < n → P b → AsLean s a b

-- the leanest of the numbers below n of which P holds, or there is none
unfoldable pub leanest_below : (s : Sheet) (P : ℕ → Type 0) → ((a : ℕ) → Decided (P a)) → (n : ℕ) →
    ((a : ℕ) × Leanest s P n a) ⊎ ((a : ℕ) → a < n → P a → ⊥)
unfolding one_is_as_lean
leanest_below s P each zero = inr (λ a l p. omega arith)
leanest_below s P each (suc n) = step (each n) (leanest_below s P each n)
  where
    more : (a : ℕ) → ((b : ℕ) → b < n → P b → AsLean s a b) → (P n → AsLean s a n) → (b : ℕ) → b < suc n → P b → AsLean s a b
    more a rest here b l p =
        elim (same_number b n) [ inl e ↦ subst (AsLean s a) (sym e) (here (subst P e p)) | inr d ↦ rest b (omega arith) p ]

    against : P n → (a : ℕ) → Leanest s P n a → AsLean s a n ⊎ AsLean s n a → (c : ℕ) × Leanest s P (suc n) c
    against p a low (inl first) = (a, record { holds = low.holds; as_lean = more a low.as_lean (λ q. first) })
    against p a low (inr first) =
        (n, record { holds = p; as_lean = more n (λ b l q. as_lean_onward s n a b first (low.as_lean b l q)) (λ q. inl refl) })

    step : Decided (P n) → ((a : ℕ) × Leanest s P n a) ⊎ ((a : ℕ) → a < n → P a → ⊥) →
        ((a : ℕ) × Leanest s P (suc n) a) ⊎ ((a : ℕ) → a < suc n → P a → ⊥)
    step (inl p) (inl (a, low)) = inl (against p a low (one_is_as_lean s a n))
    step (inl p) (inr none) = inl (n, record { holds = p; as_lean = more n (λ b l q. absurd (none b l q)) (λ q. inl refl) })
    step (inr m) (inl (a, low)) = inl (a, record { holds = low.holds; as_lean = more a low.as_lean (λ q. absurd (m q)) })
    step (inr m) (inr none) =
        inr (λ a l p. elim (same_number a n) [ inl e ↦ m (subst P e p) | inr d ↦ none a (omega arith) p ])

-- whether a is ready to be listed
unfoldable pub listable : (s : Sheet) (listed : List ℕ) (a : ℕ) → Decided (ReadyToList s listed a)
unfolding turned both not below member all_ahead
listable s listed a =
    turned
    (λ p. record { known = p.0; new = p.1.0; behind = p.1.1 })
    (λ r. (r.known, (r.new, r.behind)))
    (both (below a (actor_count s)) (λ l. both (not (member a listed)) (λ u. all_ahead (edges s.links) a (λ b. b ∈ listed) (λ b. member b listed))))

-- where none is ready, every actor is listed
pub all_listed : (s : Sheet) → OrderedSheet s → (listed : List ℕ) → ((a : ℕ) → a < actor_count s → ReadyToList s listed a → ⊥) →
    (a : ℕ) → a < actor_count s → a ∈ listed
all_listed s sound listed none =
    before_induction s sound (λ a. a < actor_count s → a ∈ listed)
    (λ a earlier known. by_decision (member a listed)
    (λ u. none a known (record { known = known; new = u; behind = λ b c. earlier b c (before_known s sound c) })))

-- a lean listing goes on, where each actor that is not listed is one of `left`
unfoldable pub lean_on : (s : Sheet) → OrderedSheet s → (fuel : ℕ) (listed left : List ℕ) → length left ≤ fuel →
    ((a : ℕ) → a < actor_count s → (a ∈ listed → ⊥) → a ∈ left) → (rest : List ℕ) × LeanFrom s listed rest
unfolding leanest_below listable without
lean_on s sound zero listed left few all = ([], λ a known. by_decision (member a listed) (λ u. none_left left few a (all a known u)))
lean_on s sound (suc fuel) listed left few all = pick (leanest_below s (ReadyToList s listed) (listable s listed) (actor_count s)) (lean_on s sound fuel)
  where
    pick : ((a : ℕ) × Leanest s (ReadyToList s listed) (actor_count s) a) ⊎ ((a : ℕ) → a < actor_count s → ReadyToList s listed a → ⊥) →
        ((listed left : List ℕ) → length left ≤ fuel → ((a : ℕ) → a < actor_count s → (a ∈ listed → ⊥) → a ∈ left) → (rest : List ℕ) × LeanFrom s listed rest) →
        (rest : List ℕ) × LeanFrom s listed rest
    pick (inr none) go = ([], all_listed s sound listed none)
    pick (inl (a, low)) go =
        let w = without a left (all a low.holds.known low.holds.new) in
        let e = w.1 in
        let r = go (a ∷ listed) w.0 (omega arith) (λ b known u. w.2 b (all b known (λ m. u (inr m))) (λ f. u (inl f))) in
        (a ∷ r.0, (low.holds, λ b q. low.as_lean b q.known q, r.1))

-- there is a lean listing
unfoldable pub some_lean : (s : Sheet) → OrderedSheet s → (listing : List ℕ) × Lean s listing
unfolding lean_on
some_lean s sound =
    lean_on s sound (length (numbers_from 0 (actor_count s))) [] (numbers_from 0 (actor_count s)) (omega arith)
    (λ a known u. in_numbers 0 (actor_count s) a (omega arith) (omega arith))

-- and it goes on in one way
pub same_lean : (s : Sheet) (listed ms ns : List ℕ) → LeanFrom s listed ms → LeanFrom s listed ns → ms ≡ ns
same_lean s listed [] [] p q = refl
same_lean s listed [] (n ∷ ns) p q = absurd (q.0.new (p n q.0.known))
same_lean s listed (m ∷ ms) [] p q = absurd (p.0.new (q m p.0.known))
same_lean s listed (m ∷ ms) (n ∷ ns) p q =
    let e : m ≡ n = as_lean_both_ways s m n (p.1 n q.0) (q.1 m p.0) in
    let r : LeanFrom s (m ∷ listed) ns = subst (λ (a : ℕ). LeanFrom s (a ∷ listed) ns) (sym e) q.2 in
    let f : ms ≡ ns = same_lean s (m ∷ listed) ms ns p.2 r in
    cc

-- a sheet without a circle has exactly one lean order
pub lean_order_exists_once : LeanOrderExistsOnce
lean_order_exists_once s sound =
    let l = some_lean s sound in record { listing = l.0; is_lean = l.1; only = λ other p. same_lean s [] other l.0 p l.1 }
