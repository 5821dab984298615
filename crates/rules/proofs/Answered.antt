-- Every call has one answer: whether a refusal meets it can be told.
use Rattle.std.proofs.Common.{◌≡◌, ℕ, ◌<◌, ◌≤◌, ◌≢◌, ◌⊎◌, ◌++◌, sym, refl, ap, subst, inl, inr, arith}
use Rattle.rules.specs.Lists.{Lowest}
use Rattle.rules.specs.Sheets.{Sheet, actor_count}
use Rattle.rules.specs.Order.{edges}
use Rattle.rules.specs.Runs.{State, phase, Started, Finished, running, Ahead, Call, start, finish, order, round, Meets, start_unknown, start_again, start_early, finish_unknown, finish_idle, order_unknown, order_equal, order_against, order_late, round_early, Answer, granted, refused, after, Step, grants, refuses}
use Rattle.rules.specs.RunLaws.{OneAnswer, EveryCallIsAnswered}
use Rattle.rules.proofs.Deciding.{Decided, turned, both, either, not, same_number, below, search_below, same_lowest}
use Rattle.rules.proofs.Orderings.{linked, some_ahead}
use Rattle.rules.proofs.Phases.{is_waiting, is_running, is_finished}
use Rattle.rules.proofs.Orderly.{Allowed}

-- whether a is ahead of b in the run
unfoldable pub ahead : (s : Sheet) (st : State) (a b : ℕ) → Decided (Ahead s st a b)
unfolding linked
ahead s st a b = linked (st.added ++ edges s.links) a b

-- whether no actor has the number
unfoldable pub unknown : (s : Sheet) (a : ℕ) → Decided (actor_count s ≤ a)
unfolding turned not below
unknown s a = turned (λ n. omega arith) (λ l. omega arith) (not (below a (actor_count s)))

-- whether an actor has started
unfoldable pub started : (st : State) (a : ℕ) → Decided (Started st a)
unfolding not is_waiting
started st a = not (is_waiting (phase st a))

-- whether an actor is not finished
unfoldable pub unfinished : (st : State) (a : ℕ) → Decided (Finished st a → ⊥)
unfolding not is_finished
unfinished st a = not (is_finished (phase st a))

-- an actor ahead of a is not finished
abbrev pub Early : Sheet → State → ℕ → Type 0
Early s st a = (b : ℕ) × Ahead s st b a × (Finished st b → ⊥)

-- whether it is so
unfoldable pub early : (s : Sheet) (st : State) (a : ℕ) → Decided (Early s st a)
unfolding some_ahead is_finished
early s st a = pick (some_ahead (st.added ++ edges s.links) a (Finished st) (λ b. is_finished (phase st b)))
  where
    pick : Early s st a ⊎ ((b : ℕ) → Ahead s st b a → Finished st b) → Decided (Early s st a)
    pick (inl r) = inl r
    pick (inr all) = inr (λ r. r.2 (all r.0 r.1))

-- some actor of the sheet is not finished
abbrev pub Unready : Sheet → State → Type 0
Unready s st = (a : ℕ) × (a < actor_count s) × (Finished st a → ⊥)

-- whether it is so
unfoldable pub unready : (s : Sheet) (st : State) → Decided (Unready s st)
unfolding search_below unfinished
unready s st = pick (search_below (λ a. Finished st a → ⊥) (unfinished st) (actor_count s))
  where
    pick : ((a : ℕ) × (a < actor_count s) × Lowest (λ a. Finished st a → ⊥) a) ⊎ ((a : ℕ) → a < actor_count s → (Finished st a → ⊥) → ⊥) → Decided (Unready s st)
    pick (inl r) = inl (r.0, r.1, r.2.holds)
    pick (inr none) = inr (λ r. none r.0 r.1 r.2)

-- number n is k, and A holds
abbrev pub At : ℕ → ℕ → Type 0 → Type 0
At n k A = (n ≡ k) × A

-- what it is for refusal n to meet a call, in the order of the numbers
abbrev pub Reason : Sheet → State → Call → ℕ → Type 0
Reason s st (start a) n = At n 6 (actor_count s ≤ a) ⊎ (At n 12 (Started st a) ⊎ At n 13 (Early s st a))
Reason s st (finish a) n = At n 6 (actor_count s ≤ a) ⊎ At n 12 (phase st a ≢ running)
Reason s st (order a b) n =
    At n 6 ((actor_count s ≤ a) ⊎ (actor_count s ≤ b))
    ⊎ (At n 8 (a ≡ b) ⊎ (At n 10 (Ahead s st b a) ⊎ At n 14 (Started st b × (Finished st a → ⊥))))
Reason s st round n = At n 15 (Unready s st)

-- a refusal meets a call for one of these reasons
pub reason_from : (s : Sheet) (st : State) {c : Call} {n : ℕ} → Meets s st c n → Reason s st c n
reason_from s st (start_unknown l) = inl (refl, l)
reason_from s st (start_again on) = inr (inl (refl, on))
reason_from s st (start_early {b = b} c u) = inr (inr (refl, (b, c, u)))
reason_from s st (finish_unknown l) = inl (refl, l)
reason_from s st (finish_idle off) = inr (refl, off)
reason_from s st (order_unknown l) = inl (refl, l)
reason_from s st (order_equal e) = inr (inl (refl, e))
reason_from s st (order_against c) = inr (inr (inl (refl, c)))
reason_from s st (order_late on u) = inr (inr (inr (refl, (on, u))))
reason_from s st (round_early {a} l u) = (refl, (a, l, u))

-- the number of a refusal may be written another way
at : (s : Sheet) (st : State) (c : Call) (n k : ℕ) → n ≡ k → Meets s st c k → Meets s st c n
at s st c n k e m = subst (Meets s st c) (sym e) m

-- and each of the reasons makes it meet
pub meets_from : (s : Sheet) (st : State) (c : Call) (n : ℕ) → Reason s st c n → Meets s st c n
meets_from s st (start a) n (inl (e, l)) = at s st (start a) n 6 e (start_unknown l)
meets_from s st (start a) n (inr (inl (e, on))) = at s st (start a) n 12 e (start_again on)
meets_from s st (start a) n (inr (inr (e, (b, c, u)))) = at s st (start a) n 13 e (start_early c u)
meets_from s st (finish a) n (inl (e, l)) = at s st (finish a) n 6 e (finish_unknown l)
meets_from s st (finish a) n (inr (e, off)) = at s st (finish a) n 12 e (finish_idle off)
meets_from s st (order a b) n (inl (e, l)) = at s st (order a b) n 6 e (order_unknown l)
meets_from s st (order a b) n (inr (inl (e, same))) = at s st (order a b) n 8 e (order_equal same)
meets_from s st (order a b) n (inr (inr (inl (e, c)))) = at s st (order a b) n 10 e (order_against c)
meets_from s st (order a b) n (inr (inr (inr (e, (on, u))))) = at s st (order a b) n 14 e (order_late on u)
meets_from s st round n (e, (a, l, u)) = at s st round n 15 e (round_early l u)

-- whether there is a reason
unfoldable pub reason : (s : Sheet) (st : State) (c : Call) (n : ℕ) → Decided (Reason s st c n)
unfolding both either not same_number unknown started unfinished early ahead is_running unready
reason s st (start a) n =
    either (both (same_number n 6) (λ e. unknown s a))
    (λ x. either (both (same_number n 12) (λ e. started st a)) (λ y. both (same_number n 13) (λ e. early s st a)))
reason s st (finish a) n =
    either (both (same_number n 6) (λ e. unknown s a)) (λ x. both (same_number n 12) (λ e. not (is_running (phase st a))))
reason s st (order a b) n =
    either (both (same_number n 6) (λ e. either (unknown s a) (λ k. unknown s b)))
    (λ x. either (both (same_number n 8) (λ e. same_number a b))
    (λ y. either (both (same_number n 10) (λ e. ahead s st b a))
    (λ z. both (same_number n 14) (λ e. both (started st b) (λ on. unfinished st a)))))
reason s st round n = both (same_number n 15) (λ e. unready s st)

-- whether refusal n meets a call
unfoldable pub meets : (s : Sheet) (st : State) (c : Call) (n : ℕ) → Decided (Meets s st c n)
unfolding turned reason
meets s st c n = turned (meets_from s st c n) (reason_from s st) (reason s st c n)

-- no refusal of a call has a number above 15
pub meets_low : (s : Sheet) (st : State) {c : Call} {n : ℕ} → Meets s st c n → n < 16
meets_low s st (start_unknown l) = omega arith
meets_low s st (start_again on) = omega arith
meets_low s st (start_early c u) = omega arith
meets_low s st (finish_unknown l) = omega arith
meets_low s st (finish_idle off) = omega arith
meets_low s st (order_unknown l) = omega arith
meets_low s st (order_equal e) = omega arith
meets_low s st (order_against c) = omega arith
meets_low s st (order_late on u) = omega arith
meets_low s st (round_early l u) = omega arith

-- the lowest refusal that meets a call, or none does
unfoldable pub lowest_refusal : (s : Sheet) (st : State) (c : Call) → ((n : ℕ) × Lowest (Meets s st c) n) ⊎ Allowed s st c
unfolding search_below meets
lowest_refusal s st c = pick (search_below (Meets s st c) (meets s st c) 16)
  where
    pick : ((n : ℕ) × (n < 16) × Lowest (Meets s st c) n) ⊎ ((n : ℕ) → n < 16 → Meets s st c n → ⊥) → ((n : ℕ) × Lowest (Meets s st c) n) ⊎ Allowed s st c
    pick (inl r) = inl (r.0, r.2)
    pick (inr none) = inr (λ n m. none n (meets_low s st m) m)

-- the one answer of a call
unfoldable pub the_answer : (s : Sheet) (st : State) (c : Call) → OneAnswer s st c
unfolding lowest_refusal
the_answer s st c = pick (lowest_refusal s st c)
  where
    pick : ((n : ℕ) × Lowest (Meets s st c) n) ⊎ Allowed s st c → OneAnswer s st c
    pick (inl (n, low)) = record { answer = refused n; next = st; step = refuses low; only = only }
      where
        only : (other : Answer) (end : State) → Step s st c other end → (other ≡ refused n) × (end ≡ st)
        only other end (grants free) = absurd (free n low.holds)
        only other end (refuses {n = m} least) = (ap (λ (k : ℕ). refused k) (same_lowest least low), refl)
    pick (inr free) = record { answer = granted; next = after st c; step = grants free; only = only }
      where
        only : (other : Answer) (end : State) → Step s st c other end → (other ≡ granted) × (end ≡ after st c)
        only other end (grants f) = (refl, refl)
        only other end (refuses {n = m} least) = absurd (free m least.holds)

-- every call in every state has one
pub every_call_is_answered : EveryCallIsAnswered
every_call_is_answered s st c = the_answer s st c
