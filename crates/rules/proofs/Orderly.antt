-- What holds of every reached state: a started actor's predecessors are finished, and no actor is before itself.
use Rattle.std.proofs.Common.{◌≡◌, ℕ, ◌⊎◌, List, ◌∷◌, ◌++◌, length, sym, refl, ap, ◌∙◌, subst, inl, inr, length-set}
use lib.ListN.{length-replicate}
use Rattle.rules.specs.Sheets.{Sheet, actor_count}
use Rattle.rules.specs.Order.{one, more, edges, Before}
use Rattle.rules.specs.Runs.{State, waiting, running, finished, phase, Started, Finished, Ahead, Call, start, finish, order, round, Meets, start_again, start_early, finish_idle, order_equal, order_against, order_late, after, grants, refuses, Leads, stay, call, Reached}
use Rattle.rules.specs.RunLaws.{PredecessorsAreFinished, EveryActorHasAPhase, AddedOrderingCloses, OrderingsLast, NeverBeforeItself}
use Rattle.rules.proofs.Joined.{any_right}
use Rattle.rules.proofs.Chains.{Paired, chain_map, one_before, closes}
use Rattle.rules.proofs.Deciding.{by_decision}
use Rattle.rules.proofs.Orderings.{NoCircle, still_no_circle}
use Rattle.rules.proofs.Phases.{finished_not_waiting, running_not_waiting, is_running, is_finished, at_set, all_waiting}

-- no refusal meets the call
abbrev pub Allowed : Sheet → State → Call → Type 0
Allowed s st c = (n : ℕ) → Meets s st c n → ⊥

-- what every granted call keeps, any list of calls keeps
pub leads_keep : (s : Sheet) (P : State → Type 0) → ((st : State) (c : Call) → Allowed s st c → P st → P (after st c)) →
    {st end : State} {cs : List Call} → Leads s st cs end → P st → P end
leads_keep s P keeps stay p = p
leads_keep s P keeps (call {st} {c = c} (grants free) rest) p = leads_keep s P keeps rest (keeps st c free p)
leads_keep s P keeps (call (refuses low) rest) p = leads_keep s P keeps rest p

-- a is ahead of b by one link or added ordering
abbrev pub NextTo : Sheet → State → ℕ → ℕ → Type 0
NextTo s st a b = Paired (st.added ++ edges s.links) a b

-- the direct predecessors of started actors are finished
abbrev pub Orderly : Sheet → State → Type 0
Orderly s st = (a b : ℕ) → NextTo s st a b → Started st b → Finished st a

-- and so are all predecessors
pub along : (s : Sheet) (st : State) → Orderly s st → {a b : ℕ} → Ahead s st a b → Started st b → Finished st a
along s st orderly (one {a} {b} r) on = orderly a b r on
along s st orderly (more {a} {b} r c) on = orderly a b r (finished_not_waiting (along s st orderly c on))

-- what is before by the sheet is ahead in the run
pub before_ahead : (s : Sheet) (st : State) {a b : ℕ} → Before s a b → Ahead s st a b
before_ahead s st c =
    chain_map (Paired (edges s.links)) (NextTo s st)
    (λ a b m. any_right (λ q. ◌≡◌ {A = ℕ × ℕ} (a, b) q) st.added (edges s.links) m) c

-- a granted start keeps a state orderly
start_keeps : (s : Sheet) (st : State) (a : ℕ) → Allowed s st (start a) → Orderly s st → Orderly s (after st (start a))
start_keeps s st a free orderly x y next on = after_it (was (at_set st.phases a running y))
  where
    was : (phase (after st (start a)) y ≡ phase st y) ⊎ ((y ≡ a) × (phase (after st (start a)) y ≡ running)) → Finished st x
    was (inl same) = orderly x y next (λ w. on (same ∙ w))
    was (inr now) =
        by_decision (is_finished (phase st x))
        (λ n. free 13 (start_early (subst (λ (b : ℕ). Ahead s st x b) now.0 (one next)) n))

    after_it : Finished st x → Finished (after st (start a)) x
    after_it done =
        elim (at_set st.phases a running x) [
          | inl same ↦ same ∙ done
          | inr now ↦ absurd (free 12 (start_again (subst (Started st) now.0 (finished_not_waiting done))))
        ]

-- so does a granted finish
finish_keeps : (s : Sheet) (st : State) (a : ℕ) → Allowed s st (finish a) → Orderly s st → Orderly s (after st (finish a))
finish_keeps s st a free orderly x y next on = after_it (orderly x y next (was (at_set st.phases a finished y)))
  where
    was : (phase (after st (finish a)) y ≡ phase st y) ⊎ ((y ≡ a) × (phase (after st (finish a)) y ≡ finished)) → Started st y
    was (inl same) = λ w. on (same ∙ w)
    was (inr now) =
        subst (Started st) (sym now.0)
        (running_not_waiting (by_decision (is_running (phase st a)) (λ n. free 12 (finish_idle n))))

    after_it : Finished st x → Finished (after st (finish a)) x
    after_it done = elim (at_set st.phases a finished x) [ inl same ↦ same ∙ done | inr now ↦ now.1 ]

-- and a granted ordering
order_keeps : (s : Sheet) (st : State) (a b : ℕ) → Allowed s st (order a b) → Orderly s st → Orderly s (after st (order a b))
order_keeps s st a b free orderly x y (inr next) on = orderly x y next on
order_keeps s st a b free orderly x y (inl e) on =
    let p : x ≡ a = ap (λ (q : ℕ × ℕ). q.0) e in
    let q : y ≡ b = ap (λ (q : ℕ × ℕ). q.1) e in
    subst (Finished st) (sym p) (by_decision (is_finished (phase st a)) (λ n. free 14 (order_late (subst (Started st) q on) n)))

-- every granted call keeps a state orderly
granted_keeps : (s : Sheet) (st : State) (c : Call) → Allowed s st c → Orderly s st → Orderly s (after st c)
granted_keeps s st (start a) free orderly = start_keeps s st a free orderly
granted_keeps s st (finish a) free orderly = finish_keeps s st a free orderly
granted_keeps s st (order a b) free orderly = order_keeps s st a b free orderly
granted_keeps s st round free orderly = λ x y next on. absurd (on (all_waiting (length st.phases) y))

-- every reached state is orderly
pub reached_orderly : (s : Sheet) {cs : List Call} {st : State} → Reached s cs st → Orderly s st
reached_orderly s r = leads_keep s (Orderly s) (granted_keeps s) r (λ x y next on. absurd (on (all_waiting (actor_count s) y)))

-- so a started actor's predecessors are finished
pub predecessors_are_finished : PredecessorsAreFinished
predecessors_are_finished s cs st r a b c on = along s st (reached_orderly s r) c on

-- a call keeps the number of phases
phases_kept : (st : State) (c : Call) → length (after st c).phases ≡ length st.phases
phases_kept st (start a) = length-set st.phases a running
phases_kept st (finish a) = length-set st.phases a finished
phases_kept st (order a b) = refl
phases_kept st round = length-replicate (length st.phases) waiting

-- so each actor of the sheet has one
pub every_actor_has_a_phase : EveryActorHasAPhase
every_actor_has_a_phase s cs st r =
    leads_keep s (λ st. length st.phases ≡ actor_count s) (λ st c free p. phases_kept st c ∙ p) r (length-replicate (actor_count s) waiting)

-- the closure law of an added ordering
pub added_ordering_closes : AddedOrderingCloses
added_ordering_closes s st a b x y =
    let pairs : List (ℕ × ℕ) = st.added ++ edges s.links in closes ((a, b) ∷ pairs) pairs a b (one_before pairs a b) x y

-- a call keeps what is ahead
ahead_kept : (s : Sheet) (x y : ℕ) (st : State) (c : Call) → Allowed s st c → Ahead s st x y → Ahead s (after st c) x y
ahead_kept s x y st (start a) free ahead = ahead
ahead_kept s x y st (finish a) free ahead = ahead
ahead_kept s x y st round free ahead = ahead
ahead_kept s x y st (order a b) free ahead = (added_ordering_closes s st a b x y).1 (inl ahead)

-- so what is ahead stays ahead
pub orderings_last : OrderingsLast
orderings_last s st end cs r x y ahead = leads_keep s (λ st. Ahead s st x y) (ahead_kept s x y) r ahead

-- a granted call makes no circle
circle_kept : (s : Sheet) (st : State) (c : Call) → Allowed s st c → NoCircle (st.added ++ edges s.links) → NoCircle ((after st c).added ++ edges s.links)
circle_kept s st (start a) free none = none
circle_kept s st (finish a) free none = none
circle_kept s st round free none = none
circle_kept s st (order a b) free none =
    let pairs : List (ℕ × ℕ) = st.added ++ edges s.links in
    still_no_circle ((a, b) ∷ pairs) pairs a b (one_before pairs a b) none (λ e. free 8 (order_equal e)) (λ c. free 10 (order_against c))

-- so none is ever made
pub never_before_itself : NeverBeforeItself
never_before_itself s sound cs st r = leads_keep s (λ st. NoCircle (st.added ++ edges s.links)) (circle_kept s) r sound.no_circle
