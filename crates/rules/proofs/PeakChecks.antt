-- The peak of a listing, checked along the one run of its calls.
use Rattle.std.proofs.Common.{◌≡◌, ℕ, Bool, true, ◌&&◌, eqb, leb, List, [], ◌∷◌, ◌++◌, sym, refl, ap, ◌∙◌, subst, inl, inr}
use Rattle.std.proofs.lemmas.Bool.{and_parts, eqb-true, leb-true}
use Rattle.rules.specs.Lists.{◌∈◌}
use Rattle.rules.specs.Sheets.{Sheet}
use Rattle.rules.specs.Runs.{State, Call, Answer, Step, Leads, stay, call, fresh}
use Rattle.rules.specs.Lean.{live_bytes, one_by_one, Peak}
use Rattle.rules.proofs.Answered.{the_answer}
use Rattle.rules.proofs.Checking.{all_of, all_of_so, any_of, any_of_so}

-- the states after one or more of the calls
unfoldable pub states : Sheet → State → List Call → List State
unfolding the_answer
states s st [] = []
states s st (c ∷ cs) = (the_answer s st c).next ∷ states s (the_answer s st c).next cs

-- the first step of what leads
abbrev Led : Sheet → State → List Call → State → Type 0
Led s st [] end = end ≡ st
Led s st (c ∷ cs) end = (answer : Answer) × (mid : State) × Step s st c answer mid × Leads s mid cs end

led : {s : Sheet} {st : State} {cs : List Call} {end : State} → Leads s st cs end → Led s st cs end
led stay = refl
led (call {st} {mid} {end} {c} {cs} {answer} step rest) = (answer, mid, step, rest)

-- what some of the calls lead to is one of the states
along : (s : Sheet) (made : List Call) (first : Call) (rest : List Call) (st end : State) → Leads s st (first ∷ made) end →
    end ∈ states s st (first ∷ (made ++ rest))
unfolding states
along s [] first rest st end l =
    let r = led l in inl (led r.3 ∙ ((the_answer s st first).only r.0 r.1 r.2).1)
along s (c ∷ made) first rest st end l =
    let r = led l in
    inr (along s made c rest (the_answer s st first).next end
    (subst (λ (m : State). Leads s m (c ∷ made) end) ((the_answer s st first).only r.0 r.1 r.2).1 r.3))

-- each of the states is led to by some of the calls
pub record Reaching (s : Sheet) (st : State) (cs : List Call) (end : State) : Type 0 where
  pub first : Call
  pub made : List Call
  pub rest : List Call
  pub parts : cs ≡ (first ∷ made) ++ rest
  pub leads : Leads s st (first ∷ made) end

reaching : (s : Sheet) (cs : List Call) (st end : State) → end ∈ states s st cs → Reaching s st cs end
unfolding states
reaching s [] st end m = absurd m
reaching s (c ∷ cs) st end (inl e) =
    let a = the_answer s st c in
    record { first = c; made = []; rest = cs; parts = refl; leads = call (subst (λ (m : State). Step s st c a.answer m) (sym e) a.step) stay }
reaching s (c ∷ cs) st end (inr m) =
    let a = the_answer s st c in
    let r = reaching s cs a.next end m in
    record {
      first = c;
      made = r.first ∷ r.made;
      rest = r.rest;
      parts = ap (λ (ds : List Call). c ∷ ds) r.parts;
      leads = call a.step r.leads;
    }

-- whether p is the largest total size live along the listing
unfoldable pub is_peak : Sheet → List ℕ → ℕ → Bool
unfolding all_of any_of states
is_peak s listing p =
    any_of (λ st. eqb (live_bytes s st) p) (states s (fresh s) (one_by_one listing))
    && all_of (λ st. leb (live_bytes s st) p) (states s (fresh s) (one_by_one listing))

-- where the test passes, it is the peak
pub peak_so : (s : Sheet) (listing : List ℕ) (p : ℕ) → is_peak s listing p ≡ true → Peak s listing p
unfolding is_peak
peak_so s listing p t =
    let cs = one_by_one listing in
    let all = states s (fresh s) cs in
    let hits : State → Bool = λ st. eqb (live_bytes s st) p in
    let low : State → Bool = λ st. leb (live_bytes s st) p in
    let a = and_parts (any_of hits all) (all_of low all) t in
    let found = any_of_so hits all a.0 in
    let r = reaching s cs (fresh s) found.0 found.1 in
    record {
      attained = (
        found.0,
        record { call = r.first; made = r.made; rest = r.rest; parts = r.parts; reached = r.leads },
        eqb-true (live_bytes s found.0) p found.2,
      );
      most = λ st m.
          leb-true (live_bytes s st) p
          (all_of_so low all a.1 st
          (subst (λ (ds : List Call). st ∈ states s (fresh s) ds) (sym m.parts) (along s m.made m.call m.rest (fresh s) st m.reached)));
    }
