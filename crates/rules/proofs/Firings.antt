-- Openers, needed and ready actors can be told; there is a firing; where none is ready, all needed have fired.
use Rattle.std.proofs.Common.{◌≡◌, ℕ, zero, suc, ◌+◌, ◌<◌, ◌≤◌, false, ◌≢◌, ◌⊎◌, List, [], ◌∷◌, length, sym, refl, ap, ◌∙◌, subst, inl, inr, arith}
use Rattle.rules.specs.Lists.{Every, ◌∈◌, Lowest, numbers_from}
use Rattle.rules.specs.Sheets.{Sheet, actor_count}
use Rattle.rules.specs.Order.{edges, Before, OrderedSheet}
use Rattle.rules.specs.Objects.{object_count, first, always_live}
use Rattle.rules.specs.Runs.{Call, start, finish}
use Rattle.rules.specs.Lives.{Opener, Needed, ReadyToFire, Firing, over, fire}
use Rattle.rules.proofs.Members.{any_at, all_at}
use Rattle.rules.proofs.Joined.{some_one}
use Rattle.rules.proofs.Deciding.{Decided, turned, both, not, by_decision, any_decided, same_number, is_false, member, search_below}
use Rattle.rules.proofs.Chains.{chain_join}
use Rattle.rules.proofs.Orderings.{all_ahead}
use Rattle.rules.proofs.Joining.{before, before_induction}
use Rattle.rules.proofs.Spans.{before_known, object_spans}

-- whether a is an opener
unfoldable pub opener : (s : Sheet) (xs : List ℕ) (a : ℕ) → Decided (Opener s xs a)
unfolding turned any_decided both is_false same_number
opener s xs a =
    turned
    (λ h. let r = some_one Opens xs h in record { number = r.0; listed = r.1; passes = r.2.0; opens = r.2.1 })
    (λ o. any_at Opens o.number xs o.listed (o.passes, o.opens))
    (any_decided Opens (λ x. both (is_false (always_live s x)) (λ p. same_number a (first s x))) xs)
  where
    Opens : ℕ → Type 0
    Opens x = (always_live s x ≡ false) × (a ≡ first s x)

-- whether a has to finish first
unfoldable pub needed : (s : Sheet) (xs : List ℕ) (a : ℕ) → Decided (Needed s xs a)
unfolding turned any_decided both is_false before
needed s xs a =
    turned
    (λ h. let r = some_one Waits xs h in
    record { opener = first s r.0; opens = record { number = r.0; listed = r.1; passes = r.2.0; opens = refl }; ahead = r.2.1 })
    (λ n. any_at Waits n.opens.number xs n.opens.listed (n.opens.passes, subst (λ (b : ℕ). Before s a b) n.opens.opens n.ahead))
    (any_decided Waits (λ x. both (is_false (always_live s x)) (λ p. before s a (first s x))) xs)
  where
    Waits : ℕ → Type 0
    Waits x = (always_live s x ≡ false) × Before s a (first s x)

-- what is before a needed actor is needed
pub needed_before : (s : Sheet) (xs : List ℕ) {a b : ℕ} → Before s b a → Needed s xs a → Needed s xs b
needed_before s xs c n = record { opener = n.opener; opens = n.opens; ahead = chain_join c n.ahead }

-- whether a is ready to fire
unfoldable pub ready : (s : Sheet) (xs fired : List ℕ) (a : ℕ) → Decided (ReadyToFire s xs fired a)
unfolding turned both not member needed all_ahead
ready s xs fired a =
    turned
    (λ p. record { needed = p.0; unfired = p.1.0; free = p.1.1 })
    (λ r. (r.needed, (r.unfired, r.free)))
    (both (needed s xs a) (λ n. both (not (member a fired)) (λ u. all_ahead (edges s.links) a (λ b. b ∈ fired) (λ b. member b fired))))

-- a needed actor is known
pub needed_known : (s : Sheet) → OrderedSheet s → (xs : List ℕ) {a : ℕ} → Needed s xs a → a < actor_count s
needed_known s sound xs n = before_known s sound n.ahead

-- an opener is known
pub opener_known : (s : Sheet) → OrderedSheet s → (xs : List ℕ) → Every (λ x. x < object_count s) xs → {a : ℕ} → Opener s xs a → a < actor_count s
opener_known s sound xs known {a} o =
    let k : o.number < object_count s = all_at (λ x. x < object_count s) o.number xs o.listed known in
    let h = object_spans s sound o.number k o.passes in
    let e = o.opens in omega (arith, h.0)

-- the lowest ready actor, or none is ready
unfoldable pub lowest_ready : (s : Sheet) → OrderedSheet s → (xs fired : List ℕ) →
    ((a : ℕ) × Lowest (ReadyToFire s xs fired) a) ⊎ ((a : ℕ) → ReadyToFire s xs fired a → ⊥)
unfolding search_below ready
lowest_ready s sound xs fired = pick (search_below (ReadyToFire s xs fired) (ready s xs fired) (actor_count s))
  where
    pick : ((a : ℕ) × (a < actor_count s) × Lowest (ReadyToFire s xs fired) a) ⊎ ((a : ℕ) → a < actor_count s → ReadyToFire s xs fired a → ⊥) →
        ((a : ℕ) × Lowest (ReadyToFire s xs fired) a) ⊎ ((a : ℕ) → ReadyToFire s xs fired a → ⊥)
    pick (inl r) = inl (r.0, r.2)
    pick (inr none) = inr (λ a r. none a (needed_known s sound xs r.needed) r)

-- a list less one of its members
unfoldable pub without : (a : ℕ) (cs : List ℕ) → a ∈ cs → (bs : List ℕ) × (length cs ≡ suc (length bs)) × ((b : ℕ) → b ∈ cs → b ≢ a → b ∈ bs)
without a [] m = absurd m
without a (c ∷ cs) (inl e) = (cs, refl, λ b m d. elim m [ inl f ↦ absurd (d (f ∙ sym e)) | inr n ↦ n ])
without a (c ∷ cs) (inr m) =
    let r = without a cs m in
    (c ∷ r.0, ap suc r.1, λ b n d. elim n [ inl f ↦ inl f | inr k ↦ inr (r.2 b k d) ])

-- a list of length zero has no member
pub none_left : (ys : List ℕ) → length ys ≤ 0 → (a : ℕ) → a ∈ ys → ⊥
none_left [] l a m = m
none_left (y ∷ ys) l a m = omega arith

-- a number of a run of numbers is one of them
pub in_numbers : (from count a : ℕ) → from ≤ a → a < from + count → a ∈ numbers_from from count
in_numbers from zero a l u = absurd (omega arith)
in_numbers from (suc count) a l u =
    elim (same_number a from) [ inl e ↦ inl e | inr d ↦ inr (in_numbers (suc from) count a (omega arith) (omega arith)) ]

-- there is a firing, where each needed actor that has not fired is one of `left`
unfoldable pub firing_from : (s : Sheet) → OrderedSheet s → (xs : List ℕ) (fuel : ℕ) (fired left : List ℕ) → length left ≤ fuel →
    ((a : ℕ) → Needed s xs a → (a ∈ fired → ⊥) → a ∈ left) → (cs : List Call) × Firing s xs fired cs
unfolding lowest_ready without
firing_from s sound xs zero fired left few all = ([], over (λ a r. none_left left few a (all a r.needed r.unfired)))
firing_from s sound xs (suc fuel) fired left few all = pick (lowest_ready s sound xs fired) (firing_from s sound xs fuel)
  where
    pick : ((a : ℕ) × Lowest (ReadyToFire s xs fired) a) ⊎ ((a : ℕ) → ReadyToFire s xs fired a → ⊥) →
        ((fired left : List ℕ) → length left ≤ fuel → ((a : ℕ) → Needed s xs a → (a ∈ fired → ⊥) → a ∈ left) → (cs : List Call) × Firing s xs fired cs) →
        (cs : List Call) × Firing s xs fired cs
    pick (inr none) rest = ([], over none)
    pick (inl (a, low)) rest =
        let w = without a left (all a low.holds.needed low.holds.unfired) in
        let e = w.1 in
        let r = rest (a ∷ fired) w.0 (omega arith) (λ b n u. w.2 b (all b n (λ m. u (inr m))) (λ f. u (inl f))) in
        (start a ∷ finish a ∷ r.0, fire a low r.1)

-- there is a firing
unfoldable pub some_firing : (s : Sheet) → OrderedSheet s → (xs : List ℕ) → (cs : List Call) × Firing s xs [] cs
unfolding firing_from
some_firing s sound xs =
    firing_from s sound xs (length (numbers_from 0 (actor_count s))) [] (numbers_from 0 (actor_count s)) (omega arith)
    (λ a n u. let k = needed_known s sound xs n in in_numbers 0 (actor_count s) a (omega arith) (omega arith))

-- where none is ready, all needed have fired
pub over_all : (s : Sheet) → OrderedSheet s → (xs fired : List ℕ) → ((a : ℕ) → ReadyToFire s xs fired a → ⊥) → (a : ℕ) → Needed s xs a → a ∈ fired
over_all s sound xs fired none =
    before_induction s sound (λ a. Needed s xs a → a ∈ fired)
    (λ a earlier n. by_decision (member a fired)
    (λ u. none a (record { needed = n; unfired = u; free = λ b c. earlier b c (needed_before s xs c n) })))
