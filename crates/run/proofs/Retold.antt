-- A list of calls with their answers, one call later.
use Rattle.std.proofs.Common.{◌≡◌, ℕ, ◌+◌, ◌<◌, List, [], ◌∷◌, ◌++◌, map, length, get_or, take, set, IfErr, Result, sym, ◌∙◌, subst, arith}
use mathlib.Core.List.{map-append}
use Rattle.std.proofs.lemmas.List.{take_more, take_more_set, take_all}
use Rattle.rules.specs.Sheets.{Sheet}
use Rattle.rules.specs.Runs as runs
use Rattle.graph.specs.declared.sheet_graph.Graph.{Graph}
use Rattle.graph.specs.Held.{sheet_held}
use Rattle.run.specs.declared.call.Call.{Call}
use Rattle.run.specs.declared.faults.RunFault.{RunFault}
use Rattle.run.specs.declared.sheet_run.Run.{Run}
use Rattle.run.specs.Numbers.{answer}
use Rattle.run.specs.Views.{Shows}
use Rattle.run.specs.Called.{Called, InState, Suits}
use Rattle.run.specs.Replayed.{as_call, AnswersOf, silent, told, Suited, Replayed}
use Rattle.run.proofs.Onward.{leads_more}

answers_more : (s : Sheet) {st mid end : runs.State} {cs : List runs.Call} {told-so : List runs.Answer} {c : runs.Call} {a : runs.Answer} →
    AnswersOf s st cs told-so mid → runs.Step s mid c a end → AnswersOf s st (cs ++ c ∷ []) (told-so ++ a ∷ []) end
answers_more s silent step = told step silent
answers_more s (told first rest) step = told first (answers_more s rest step)

suited_more : (calls : List Call) (answers : List (Result Unit RunFault)) (c : Call) (a : Result Unit RunFault) → Suited calls answers → IfErr a (Suits (as_call c)) →
    Suited (calls ++ c ∷ []) (answers ++ a ∷ [])
suited_more [] [] c a so here = (here, tt)
suited_more [] (b ∷ more) c a so here = absurd so
suited_more (d ∷ ds) [] c a so here = absurd so
suited_more (d ∷ ds) (b ∷ more) c a so here = (so.0, suited_more ds more c a so.1 here)

-- no call, no answer
pub replayed_none : (g : Graph) (r : Run) → r.graph.now ≡ g → InState r (runs.fresh (sheet_held g.sheet)) → Replayed g [] [] r
replayed_none g r same shows =
    record { graph = same; state = runs.fresh (sheet_held g.sheet); reached = runs.stay; answered = silent; suited = tt; in_state = shows }

-- one call more
replayed_more : (g : Graph) (calls : List Call) (answers : List (Result Unit RunFault)) (r r' : Run) (c : Call) (a : Result Unit RunFault) →
    Replayed g calls answers r → Called r (as_call c) a r' → Replayed g (calls ++ c ∷ []) (answers ++ a ∷ []) r'
replayed_more g calls answers r r' c a p called =
    let s : Sheet = sheet_held g.sheet in
    let next = called.steps p.state p.in_state in
    let end : runs.State = next.0 in
    let step : runs.Step s p.state (as_call c) (answer a) end =
    subst (λ (h : Graph). runs.Step (sheet_held h.sheet) p.state (as_call c) (answer a) end) p.graph next.1 in
    record {
      graph = called.graph ∙ p.graph;
      state = end;
      reached = subst (λ (cs : List runs.Call). runs.Reached s cs end) (sym (map-append as_call calls (c ∷ []))) (leads_more s p.reached step);
      answered = subst (λ (cs : List runs.Call). AnswersOf s (runs.fresh s) cs (map answer (answers ++ a ∷ [])) end) (sym (map-append as_call calls (c ∷ [])))
          (subst (λ (xs : List runs.Answer). AnswersOf s (runs.fresh s) (map as_call calls ++ as_call c ∷ []) xs end) (sym (map-append answer answers (a ∷ [])))
          (answers_more s p.answered step));
      suited = suited_more calls answers c a p.suited called.suits;
      in_state = subst (λ (h : Graph). Shows (sheet_held h.sheet) r'.records r'.order.rows end) (sym called.graph) next.2;
    }

-- the call at i is made and its answer written
pub replayed_next : (g : Graph) (calls : List Call) (answers : List (Result Unit RunFault)) (i : ℕ) (r r' : Run) (d : Call) (a : Result Unit RunFault) →
    i < length calls → i < length answers → Replayed g (take i calls) (take i answers) r → Called r (as_call (get_or calls i d)) a r' →
    Replayed g (take (i + 1) calls) (take (i + 1) (set answers i a)) r'
replayed_next g calls answers i r r' d a l m p called =
    subst (λ (cs : List Call). Replayed g cs (take (i + 1) (set answers i a)) r') (sym (take_more calls i d l))
    (subst (λ (xs : List (Result Unit RunFault)). Replayed g (take i calls ++ get_or calls i d ∷ []) xs r') (sym (take_more_set answers i a m))
    (replayed_more g (take i calls) (take i answers) r r' (get_or calls i d) a p called))

-- all calls are made
pub replayed_all : (g : Graph) (calls : List Call) (answers : List (Result Unit RunFault)) (i : ℕ) (r : Run) → i ≡ length calls →
    Replayed g (take i calls) (take i answers) r → Replayed g calls (take (length calls) answers) r
replayed_all g calls answers i r e p =
    subst (λ (cs : List Call). Replayed g cs (take (length calls) answers) r) (take_all (length calls) calls (omega arith))
    (subst (λ (n : ℕ). Replayed g (take n calls) (take n answers) r) e p)
