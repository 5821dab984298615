-- Whether a listing is the lean order of a sheet.
use Rattle.std.proofs.Common.{◌≡◌, ℕ, ◌⊎◌, List, [], ◌∷◌, inl, inr}
use Rattle.rules.specs.Lists.{◌∈◌}
use Rattle.rules.specs.Sheets.{Sheet, actor_count}
use Rattle.rules.specs.Order.{edges, Before}
use Rattle.rules.specs.Lean.{net, Leaner, ReadyToList, LeanFrom}
use Rattle.rules.proofs.Deciding.{Decided, turned, both, either, not, below, same_number, member, all_below}
use Rattle.rules.proofs.Orderings.{some_ahead}

-- B holds where A does
unfoldable pub where_holds : {A B : Type 0} → Decided A → Decided B → Decided (A → B)
where_holds (inl a) (inl b) = inl (λ x. b)
where_holds (inl a) (inr n) = inr (λ f. n (f a))
where_holds (inr n) d = inl (λ a. absurd (n a))

-- whether all predecessors of a are listed
unfoldable pub behind : (s : Sheet) (listed : List ℕ) (a : ℕ) → Decided ((b : ℕ) → Before s b a → b ∈ listed)
unfolding some_ahead member
behind s listed a = pick (some_ahead (edges s.links) a (λ b. b ∈ listed) (λ b. member b listed))
  where
    pick : ((b : ℕ) × Before s b a × (b ∈ listed → ⊥)) ⊎ ((b : ℕ) → Before s b a → b ∈ listed) → Decided ((b : ℕ) → Before s b a → b ∈ listed)
    pick (inl r) = inr (λ all. r.2 (all r.0 r.1))
    pick (inr all) = inl all

-- whether a can be listed next
unfoldable pub ready_to_list : (s : Sheet) (listed : List ℕ) (a : ℕ) → Decided (ReadyToList s listed a)
unfolding turned both not below member behind
ready_to_list s listed a =
    turned
    (λ p. record { known = p.0; new = p.1.0; behind = p.1.1 })
    (λ r. (r.known, (r.new, r.behind)))
    (both (below a (actor_count s)) (λ l. both (not (member a listed)) (λ n. behind s listed a)))

-- whether a has the smaller net change, or an equal one and the lower number
unfoldable pub leaner : (s : Sheet) (a b : ℕ) → Decided (Leaner s a b)
unfolding either both below same_number
leaner s a b = either (below (net s a b) (net s b a)) (λ n. both (same_number (net s a b) (net s b a)) (λ e. below a b))

-- every other actor that is ready has to wait for a
abbrev pub GoesFirst : Sheet → List ℕ → ℕ → Type 0
GoesFirst s listed a = (b : ℕ) → ReadyToList s listed b → (b ≡ a) ⊎ Leaner s a b

-- whether it is so
unfoldable pub goes_first : (s : Sheet) (listed : List ℕ) (a : ℕ) → Decided (GoesFirst s listed a)
unfolding turned either same_number all_below where_holds ready_to_list leaner
goes_first s listed a =
    turned
    (λ all b r. all b r.known r)
    (λ all b l r. all b r)
    (all_below (λ b. ReadyToList s listed b → (b ≡ a) ⊎ Leaner s a b)
    (λ b. where_holds (ready_to_list s listed b) (either (same_number b a) (λ n. leaner s a b))) (actor_count s))

-- whether the rest of a listing goes on leanly
unfoldable pub lean_from : (s : Sheet) (listed rest : List ℕ) → Decided (LeanFrom s listed rest)
unfolding turned both member all_below ready_to_list goes_first
lean_from s listed [] = all_below (λ a. a ∈ listed) (λ a. member a listed) (actor_count s)
lean_from s listed (a ∷ rest) =
    turned
    (λ p. (p.0, p.1.0, p.1.1))
    (λ q. (q.0, (q.1, q.2)))
    (both (ready_to_list s listed a) (λ r. both (goes_first s listed a) (λ f. lean_from s (a ∷ listed) rest)))
