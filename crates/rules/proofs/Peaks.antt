-- A lean listing runs through and has one peak; the tests of phases are exact.
use Rattle.std.proofs.Common.{◌≡◌, ℕ, ◌<◌, ◌≤◌, true, not, ◌≢◌, ◌⊎◌, ◌↔◌, List, [], ◌∷◌, ◌++◌, refl, ap, subst, inl, inr, arith}
use Rattle.rules.specs.Sheets.{Sheet, actor_count}
use Rattle.rules.specs.Runs.{State, Phase, waiting, running, finished, Finished, Call, start, finish, after, Leads, stay, call, Grants, no_call, fresh}
use Rattle.rules.specs.Lean.{LeanFrom, one_by_one, is_started, is_finished, live_bytes, Moment, Peak}
use Rattle.rules.specs.LeanLaws.{LeanListingsRun, PeakExistsOnce}
use Rattle.rules.proofs.Deciding.{Decided, below}
use Rattle.rules.proofs.Phases.{running_not_waiting, finished_not_waiting, finished_not_running}
use Rattle.rules.proofs.Granting.{Fired, fresh_fired, fired_more, fires_one}
use Rattle.rules.proofs.Answered.{every_call_is_answered}

-- where exactly the listed are finished, the rest of a lean listing runs through
pub lean_runs : (s : Sheet) (listed rest : List ℕ) → LeanFrom s listed rest → (st : State) → Fired s listed st →
    (end : State) × Grants s st (one_by_one rest) end × ((a : ℕ) → a < actor_count s → Finished end a)
lean_runs s listed [] lean st f = (st, no_call, λ a known. f.done a (lean a known))
lean_runs s listed (a ∷ rest) lean st f =
    let ready = lean.0 in
    let r = lean_runs s (a ∷ listed) rest lean.2 (after (after st (start a)) (finish a)) (fired_more s listed st a f ready.known) in
    (r.0, fires_one s listed st a f ready.known ready.new ready.behind r.1, r.2)

-- every call of a lean listing is granted, and all actors finish
pub lean_listings_run : LeanListingsRun
lean_listings_run s listing lean =
    let r = lean_runs s [] listing lean (fresh s) (fresh_fired s) in record { state = r.0; all_granted = r.1; all_finished = r.2 }

-- no call leads to the same state
pub no_call_stays : {s : Sheet} {st end : State} → Leads s st [] end → end ≡ st
no_call_stays stay = refl

-- calls go on from the one state that the first of them leads to
pub leads_from_next : (s : Sheet) {st end : State} {c : Call} {cs : List Call} → Leads s st (c ∷ cs) end → Leads s (every_call_is_answered s st c).next cs end
leads_from_next s {st} {end} {c} {cs} (call {mid = mid} {answer = answer} step rest) =
    subst (λ (next : State). Leads s next cs end) ((every_call_is_answered s st c).only answer mid step).1 rest

-- c and then the first of the calls, none to all of them, lead from one state to the other
pub record Passes (s : Sheet) (st : State) (c : Call) (cs : List Call) (end : State) : Type 0 where
  pub made : List Call
  pub rest : List Call
  pub parts : cs ≡ made ++ rest
  pub leads : Leads s st (c ∷ made) end

-- p is the largest weight among the states that are passed
pub record Highest (s : Sheet) (weight : State → ℕ) (st : State) (c : Call) (cs : List Call) (p : ℕ) : Type 0 where
  pub attained : (end : State) × Passes s st c cs end × (weight end ≡ p)
  pub most : (end : State) → Passes s st c cs end → weight end ≤ p

-- the first state that is passed is the one that c leads to
pub passes_next : (s : Sheet) (st : State) (c : Call) (cs : List Call) → Passes s st c cs (every_call_is_answered s st c).next
passes_next s st c cs = record { made = []; rest = cs; parts = refl; leads = call (every_call_is_answered s st c).step stay }

-- and each later one is passed from there
pub passes_later : (s : Sheet) (st : State) (c d : Call) (ds : List Call) (end : State) →
    Passes s (every_call_is_answered s st c).next d ds end → Passes s st c (d ∷ ds) end
passes_later s st c d ds end p =
    record { made = d ∷ p.made; rest = p.rest; parts = ap (λ (cs : List Call). d ∷ cs) p.parts; leads = call (every_call_is_answered s st c).step p.leads }

-- no other state is passed
pub passes_cases : (s : Sheet) (st : State) (c d : Call) (ds : List Call) (end : State) → Passes s st c (d ∷ ds) end →
    (end ≡ (every_call_is_answered s st c).next) ⊎ Passes s (every_call_is_answered s st c).next d ds end
passes_cases s st c d ds end p = pick p.made p.rest p.parts (leads_from_next s p.leads)
  where
    next : State
    next = (every_call_is_answered s st c).next

    pick : (made rest : List Call) → d ∷ ds ≡ made ++ rest → Leads s next made end → (end ≡ next) ⊎ Passes s next d ds end
    pick [] rest e l = inl (no_call_stays l)
    pick (m ∷ made) rest e l =
        let same : m ≡ d = cc in
        inr (record { made = made; rest = rest; parts = cc; leads = subst (λ (x : Call). Leads s next (x ∷ made) end) same l })

-- where c is the only call, just its own state is passed
pub passes_only : (s : Sheet) (st : State) (c : Call) (end : State) → Passes s st c [] end → end ≡ (every_call_is_answered s st c).next
passes_only s st c end p = pick p.made p.rest p.parts (leads_from_next s p.leads)
  where
    next : State
    next = (every_call_is_answered s st c).next

    pick : (made rest : List Call) → [] ≡ made ++ rest → Leads s next made end → end ≡ next
    pick [] rest e l = no_call_stays l
    pick (m ∷ made) rest e l = let z : ◌≡◌ {A = ℕ} 0 1 = cc in absurd (omega arith)

-- there is a largest weight
pub highest : (s : Sheet) (weight : State → ℕ) (st : State) (c : Call) (cs : List Call) → (p : ℕ) × Highest s weight st c cs p
highest s weight st c [] =
    let next = (every_call_is_answered s st c).next in (
      weight next,
      record {
        attained = (next, passes_next s st c [], refl);
        most = λ end p. let e = ap weight (passes_only s st c end p) in omega arith;
      },
    )
highest s weight st c (d ∷ ds) = join (highest s weight (every_call_is_answered s st c).next d ds)
  where
    next : State
    next = (every_call_is_answered s st c).next

    within : (p q : ℕ) → Highest s weight next d ds q → weight next ≤ p → q ≤ p → (end : State) → Passes s st c (d ∷ ds) end → weight end ≤ p
    within p q h l m end passes =
        elim (passes_cases s st c d ds end passes) [
          | inl e ↦ let f = ap weight e in omega arith
          | inr later ↦ let k = h.most end later in omega arith
        ]

    pick : (q : ℕ) → Highest s weight next d ds q → Decided (q < weight next) → (p : ℕ) × Highest s weight st c (d ∷ ds) p
    pick q h (inl l) =
        (weight next, record { attained = (next, passes_next s st c (d ∷ ds), refl); most = within (weight next) q h (omega arith) (omega arith) })
    pick q h (inr l) =
        let a = h.attained in
        (q, record { attained = (a.0, passes_later s st c d ds a.0 a.1, a.2); most = within q q h (omega arith) (omega arith) })

    join : (q : ℕ) × Highest s weight next d ds q → (p : ℕ) × Highest s weight st c (d ∷ ds) p
    join (q, h) = pick q h (below q (weight next))

-- a listing of one or more has a peak
pub some_peak : (s : Sheet) (a : ℕ) (rest : List ℕ) → (p : ℕ) × Peak s (a ∷ rest) p
some_peak s a rest = peak (highest s (live_bytes s) (fresh s) (start a) (finish a ∷ one_by_one rest))
  where
    to_passes : (st : State) → Moment s (one_by_one (a ∷ rest)) st → Passes s (fresh s) (start a) (finish a ∷ one_by_one rest) st
    to_passes st m =
        let e : start a ∷ finish a ∷ one_by_one rest ≡ m.call ∷ (m.made ++ m.rest) = m.parts in
        let first : m.call ≡ start a = cc in
        record { made = m.made; rest = m.rest; parts = cc; leads = subst (λ (c : Call). Leads s (fresh s) (c ∷ m.made) st) first m.reached }

    to_moment : (st : State) → Passes s (fresh s) (start a) (finish a ∷ one_by_one rest) st → Moment s (one_by_one (a ∷ rest)) st
    to_moment st p =
        record { call = start a; made = p.made; rest = p.rest; parts = ap (λ (cs : List Call). start a ∷ cs) p.parts; reached = p.leads }

    peak : (p : ℕ) × Highest s (live_bytes s) (fresh s) (start a) (finish a ∷ one_by_one rest) p → (p : ℕ) × Peak s (a ∷ rest) p
    peak (p, h) =
        let t = h.attained in
        (p, record { attained = (t.0, to_moment t.0 t.1, t.2); most = λ st m. h.most st (to_passes st m) })

-- a listing has no two peaks
pub same_peak : (s : Sheet) (listing : List ℕ) (p q : ℕ) → Peak s listing p → Peak s listing q → p ≡ q
same_peak s listing p q h k =
    let a = h.attained in
    let b = k.attained in
    let e = a.2 in
    let f = b.2 in
    let l = h.most b.0 b.1 in
    let m = k.most a.0 a.1 in omega arith

-- the lean listing of a sheet with an actor has exactly one peak
pub peak_exists_once : PeakExistsOnce
peak_exists_once s some [] lean = absurd (lean 0 some)
peak_exists_once s some (a ∷ rest) lean =
    let r = some_peak s a rest in record { peak = r.0; is_peak = r.1; only = λ other h. same_peak s (a ∷ rest) other r.0 h r.1 }

-- the test of a started actor is exact
pub started_test_exact : (p : Phase) → (is_started p ≡ true) ↔ (p ≢ waiting)
started_test_exact waiting = (λ e. let z : ◌≡◌ {A = ℕ} 0 1 = cc in absurd (omega arith), λ h. absurd (h refl))
started_test_exact running = (λ e. running_not_waiting refl, λ h. refl)
started_test_exact finished = (λ e. finished_not_waiting refl, λ h. refl)

-- so is that of an actor that is not finished
pub unfinished_test_exact : (p : Phase) → (not (is_finished p) ≡ true) ↔ (p ≡ finished → ⊥)
unfinished_test_exact waiting = (λ e f. finished_not_waiting f refl, λ h. refl)
unfinished_test_exact running = (λ e f. finished_not_running f refl, λ h. refl)
unfinished_test_exact finished = (λ e. let z : ◌≡◌ {A = ℕ} 0 1 = cc in absurd (omega arith), λ h. absurd (h refl))
