-- The calls of a firing, and then the starts of openers, are all granted; and the phases that they leave.
use Rattle.std.proofs.Common.{◌≡◌, ℕ, ◌<◌, ◌≢◌, ◌⊎◌, List, [], ◌∷◌, ◌++◌, map, length, get_or, set, sym, refl, ◌∙◌, subst, inl, inr, arith, length-set}
use lib.ListN.{length-replicate}
use Rattle.std.proofs.lemmas.List.{get_or-set_same, get_or-set_other}
use Rattle.rules.specs.Lists.{Every, ◌∈◌, AscendingNumbers}
use Rattle.rules.specs.Sheets.{Sheet, actor_count}
use Rattle.rules.specs.Order.{Linked, edges, Before, OrderedSheet}
use Rattle.rules.specs.Objects.{object_count}
use Rattle.rules.specs.Runs.{State, Phase, waiting, running, finished, phase, Started, Finished, Call, start, finish, Meets, start_unknown, start_again, start_early, finish_unknown, finish_idle, after, grants, Leads, stay, call, Grants, no_call, grant, fresh, Fires}
use Rattle.rules.specs.Lives.{Opener, Needed, ReadyToFire, Firing, over, fire}
use Rattle.rules.proofs.Members.{all_at}
use Rattle.rules.proofs.Deciding.{Decided, by_decision, same_number}
use Rattle.rules.proofs.Phases.{running_not_waiting, finished_not_waiting, finished_not_running, at_set, all_waiting}
use Rattle.rules.proofs.Orderly.{Allowed}
use Rattle.rules.proofs.Firings.{needed, needed_known, opener_known, over_all}

-- calls that are all granted lead from the one state to the other
pub grants_lead : {s : Sheet} {st end : State} {cs : List Call} → Grants s st cs end → Leads s st cs end
grants_lead no_call = stay
grants_lead (grant g rest) = call g (grants_lead rest)

-- granted calls after granted calls are granted
pub grants_join : {s : Sheet} {st mid end : State} {cs ds : List Call} → Grants s st cs mid → Grants s mid ds end → Grants s st (cs ++ ds) end
grants_join no_call h = h
grants_join (grant g rest) h = grant g (grants_join rest h)

-- a known actor that waits, with all before it finished, may start, where no ordering is added
pub may_start : (s : Sheet) (st : State) (a : ℕ) → st.added ≡ [] → a < actor_count s → phase st a ≡ waiting →
    ((b : ℕ) → Before s b a → Finished st b) → Allowed s st (start a)
may_start s st a none known idle done = refused
  where
    refused : (n : ℕ) → Meets s st (start a) n → ⊥
    refused n (start_unknown l) = omega arith
    refused n (start_again on) = on idle
    refused n (start_early {b = b} c unfinished) =
        unfinished (done b (subst (λ (ps : List (ℕ × ℕ)). Linked (ps ++ edges s.links) b a) none c))

-- a known actor that runs may finish
pub may_finish : (s : Sheet) (st : State) (a : ℕ) → a < actor_count s → phase st a ≡ running → Allowed s st (finish a)
may_finish s st a known on = refused
  where
    refused : (n : ℕ) → Meets s st (finish a) n → ⊥
    refused n (finish_unknown l) = omega arith
    refused n (finish_idle off) = off on

-- exactly the fired actors are finished, the rest wait, and no ordering is added
pub record Fired (s : Sheet) (fired : List ℕ) (st : State) : Type 0 where
  pub none_added : st.added ≡ []
  pub phased : length st.phases ≡ actor_count s
  pub done : (a : ℕ) → a ∈ fired → phase st a ≡ finished
  pub idle : (a : ℕ) → (a ∈ fired → ⊥) → phase st a ≡ waiting

-- exactly the needed actors are finished, the rest wait, and no ordering is added
pub record Rested (s : Sheet) (xs : List ℕ) (st : State) : Type 0 where
  pub none_added : st.added ≡ []
  pub phased : length st.phases ≡ actor_count s
  pub done : (a : ℕ) → Needed s xs a → phase st a ≡ finished
  pub idle : (a : ℕ) → (Needed s xs a → ⊥) → phase st a ≡ waiting

-- in the fresh run nothing has fired
pub fresh_fired : (s : Sheet) → Fired s [] (fresh s)
fresh_fired s =
    record {
      none_added = refl;
      phased = length-replicate (actor_count s) waiting;
      done = λ a m. absurd m;
      idle = λ a n. all_waiting (actor_count s) a;
    }

-- the actor that is started and finished becomes one of the fired
pub fired_more : (s : Sheet) (fired : List ℕ) (st : State) (a : ℕ) → Fired s fired st → a < actor_count s →
    Fired s (a ∷ fired) (after (after st (start a)) (finish a))
fired_more s fired st a f known =
    record {
      none_added = f.none_added;
      phased = length-set (set st.phases a running) a finished ∙ length-set st.phases a running ∙ f.phased;
      done = λ b m. done b m (same_number b a);
      idle = λ b out. other b (λ e. out (inl e)) ∙ f.idle b (λ m. out (inr m));
    }
  where
    new : List Phase
    new = set (set st.phases a running) a finished

    here : get_or new a waiting ≡ finished
    here = let l = length-set st.phases a running in let p = f.phased in get_or-set_same (set st.phases a running) a finished waiting (omega arith)

    other : (b : ℕ) → b ≢ a → get_or new b waiting ≡ phase st b
    other b d = get_or-set_other (set st.phases a running) a b finished waiting d ∙ get_or-set_other st.phases a b running waiting d

    done : (b : ℕ) → b ∈ (a ∷ fired) → Decided (b ≡ a) → get_or new b waiting ≡ finished
    done b m (inl e) = subst (λ (c : ℕ). get_or new c waiting ≡ finished) (sym e) here
    done b (inl e) (inr d) = absurd (d e)
    done b (inr k) (inr d) = other b d ∙ f.done b k

-- a known actor that has not fired, with all before it fired, is granted its start and its finish
pub fires_one : (s : Sheet) (fired : List ℕ) (st : State) (a : ℕ) → Fired s fired st → a < actor_count s →
    (a ∈ fired → ⊥) → ((b : ℕ) → Before s b a → b ∈ fired) →
    {cs : List Call} {end : State} → Grants s (after (after st (start a)) (finish a)) cs end → Grants s st (start a ∷ finish a ∷ cs) end
fires_one s fired st a f known unfired free rest =
    let l : a < length st.phases = subst (λ (n : ℕ). a < n) (sym f.phased) known in
    let begin = may_start s st a f.none_added known (f.idle a unfired) (λ b c. f.done b (free b c)) in
    let next = may_finish s (after st (start a)) a known (get_or-set_same st.phases a running waiting l) in
    grant (grants begin) (grant (grants next) rest)

-- where none is ready, and only needed actors have fired, exactly the needed are finished
pub rested : (s : Sheet) → OrderedSheet s → (xs fired : List ℕ) (st : State) → ((a : ℕ) → ReadyToFire s xs fired a → ⊥) →
    Fired s fired st → ((a : ℕ) → a ∈ fired → Needed s xs a) → Rested s xs st
rested s sound xs fired st none f need =
    record {
      none_added = f.none_added;
      phased = f.phased;
      done = λ a n. f.done a (over_all s sound xs fired none a n);
      idle = λ a out. f.idle a (λ m. out (need a m));
    }

-- the calls of a firing are granted, and leave exactly the needed finished
pub firing_runs : (s : Sheet) → OrderedSheet s → (xs : List ℕ) {fired : List ℕ} {cs : List Call} → Firing s xs fired cs →
    (st : State) → Fired s fired st → ((a : ℕ) → a ∈ fired → Needed s xs a) → (end : State) × Grants s st cs end × Rested s xs end
firing_runs s sound xs (over {fired} none) st f need = (st, no_call, rested s sound xs fired st none f need)
firing_runs s sound xs (fire {fired} {cs} a low rest) st f need =
    let n = low.holds.needed in
    let known = needed_known s sound xs n in
    let r = firing_runs s sound xs rest (after (after st (start a)) (finish a)) (fired_more s fired st a f known)
    (λ b m. elim m [ inl e ↦ subst (Needed s xs) (sym e) n | inr k ↦ need b k ]) in
    (r.0, fires_one s fired st a f known low.holds.unfired low.holds.free r.1, r.2)

-- a firing has starts and finishes only
pub firing_fires : {s : Sheet} {xs fired : List ℕ} {cs : List Call} → Firing s xs fired cs → Every Fires cs
firing_fires (over none) = tt
firing_fires (fire a low rest) = (tt, (tt, firing_fires rest))

-- so has a list of starts
pub starts_fire : (todo : List ℕ) → Every Fires (map (λ a. start a) todo)
starts_fire [] = tt
starts_fire (a ∷ todo) = (tt, starts_fire todo)

-- exactly the needed actors are finished, and each opener has started, save those still to do, which wait
pub record Opening (s : Sheet) (xs todo : List ℕ) (st : State) : Type 0 where
  pub none_added : st.added ≡ []
  pub phased : length st.phases ≡ actor_count s
  pub done : (a : ℕ) → Needed s xs a → Finished st a
  pub only : (a : ℕ) → Finished st a → Needed s xs a
  pub idle : (a : ℕ) → a ∈ todo → phase st a ≡ waiting
  pub opened : (a : ℕ) → Opener s xs a → (a ∈ todo) ⊎ Started st a

-- an opener that is not needed
abbrev pub Extra : Sheet → List ℕ → ℕ → Type 0
Extra s xs a = Opener s xs a × (Needed s xs a → ⊥)

-- once the firing is over, the openers that are not needed are still to do
pub opening : (s : Sheet) (xs todo : List ℕ) (st : State) → ((a : ℕ) → a ∈ todo → Extra s xs a) → ((a : ℕ) → Extra s xs a → a ∈ todo) →
    Rested s xs st → Opening s xs todo st
opening s xs todo st extra all r =
    record {
      none_added = r.none_added;
      phased = r.phased;
      done = r.done;
      only = λ a f. by_decision (needed s xs a) (λ n. finished_not_waiting f (r.idle a n));
      idle = λ a m. r.idle a (extra a m).1;
      opened = λ a o. elim (needed s xs a) [ inl n ↦ inr (finished_not_waiting (r.done a n)) | inr n ↦ inl (all a (o, n)) ];
    }

-- one opener more is started
pub opening_more : (s : Sheet) (xs todo : List ℕ) (st : State) (a : ℕ) → (Needed s xs a → ⊥) → a < actor_count s → Every (λ b. a < b) todo →
    Opening s xs (a ∷ todo) st → Opening s xs todo (after st (start a))
opening_more s xs todo st a extra known higher o =
    record {
      none_added = o.none_added;
      phased = length-set st.phases a running ∙ o.phased;
      done = λ b n. elim (at_set st.phases a running b) [ inl same ↦ same ∙ o.done b n | inr now ↦ absurd (extra (subst (Needed s xs) now.0 n)) ];
      only = λ b f. elim (at_set st.phases a running b) [ inl same ↦ o.only b (sym same ∙ f) | inr now ↦ absurd (finished_not_running f now.1) ];
      idle = λ b m. get_or-set_other st.phases a b running waiting (above b m) ∙ o.idle b (inr m);
      opened = λ b p. step b (o.opened b p);
    }
  where
    above : (b : ℕ) → b ∈ todo → b ≢ a
    above b m e = let l = all_at (λ b. a < b) b todo m higher in omega arith

    here : phase (after st (start a)) a ≡ running
    here = let p = o.phased in get_or-set_same st.phases a running waiting (omega arith)

    step : (b : ℕ) → (b ∈ (a ∷ todo)) ⊎ Started st b → (b ∈ todo) ⊎ Started (after st (start a)) b
    step b (inl (inl e)) = inr (subst (Started (after st (start a))) (sym e) (running_not_waiting here))
    step b (inl (inr m)) = inl m
    step b (inr on) = elim (at_set st.phases a running b) [ inl same ↦ inr (λ w. on (sym same ∙ w)) | inr now ↦ inr (running_not_waiting now.1) ]

-- the starts of the openers that are not needed are granted, and then every opener has started
pub openers_run : (s : Sheet) → OrderedSheet s → (xs : List ℕ) → Every (λ x. x < object_count s) xs → (todo : List ℕ) → AscendingNumbers todo →
    ((a : ℕ) → a ∈ todo → Extra s xs a) → (st : State) → Opening s xs todo st →
    (end : State) × Grants s st (map (λ a. start a) todo) end × Opening s xs [] end
openers_run s sound xs known [] up extra st o = (st, no_call, o)
openers_run s sound xs known (a ∷ todo) up extra st o =
    let e = extra a (inl refl) in
    let k = opener_known s sound xs known e.0 in
    let done : (b : ℕ) → Before s b a → Finished st b = λ b c. o.done b (record { opener = a; opens = e.0; ahead = c }) in
    let free = may_start s st a o.none_added k (o.idle a (inl refl)) done in
    let r = openers_run s sound xs known todo up.1 (λ b m. extra b (inr m)) (after st (start a)) (opening_more s xs todo st a e.1 k up.0 o) in
    (r.0, grant (grants free) r.1, r.2)
