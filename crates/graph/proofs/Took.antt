-- What was taken by a decision was taken by the rules.
use Rattle.std.proofs.Common.{◌≡◌, ℕ, ◌≤◌, true, false, length, None, Ok, Err, is_ok, vec_items, vec_len, Option, Result, sym, ◌∙◌, subst}
use Rattle.rules.specs.declared.sheet.Machine.{Machine}
use Rattle.rules.specs.declared.sheet.Fit.{Fit}
use Rattle.rules.specs.declared.sheet.Layer.{Layer}
use Rattle.rules.specs.declared.sheet.Actor.{Actor}
use Rattle.rules.specs.declared.sheet.Fifo.{Fifo}
use Rattle.rules.specs.declared.sheet.Sequence.{Sequence}
use Rattle.rules.specs.declared.sheet.Link.{Link}
use Rattle.rules.specs.declared.sheet.Link.TheVariants.{Plain, Delayed, Ordered}
use Rattle.rules.specs.declared.sheet.Entry.{Entry}
use Rattle.rules.specs.declared.sheet.Entry.TheVariants.{OnMachine, ByFit, WithLayer, NextActor, NextLink}
use Rattle.rules.specs.Sheets.{core_in}
use Rattle.rules.specs.Drafts.{Draft, Free, Refuses, next, fifo_count}
use Rattle.graph.specs.declared.faults.Refusal.{Refusal}
use Rattle.graph.specs.declared.read_sheet.ReadSheet.{ReadSheet}
use Rattle.graph.specs.Stages.{is_ruled}
use Rattle.graph.specs.Judging.{judge_machine, judge_fit, judge_layer, judge_actor, judge_fifo, judge_plain, judge_sequence}
use Rattle.graph.specs.declared.faults.GraphFault.{GraphFault}
use Rattle.graph.specs.declared.faults.GraphFault.TheVariants.{Refused}
use Rattle.rules.specs.Lists.{Lowest}
use Rattle.std.specs.Prelude.{MatchResult}
use Rattle.std.specs.Result.{IsErrAnd}
use Rattle.std.proofs.lemmas.Result.{err_from_is_err_and}
use Rattle.graph.specs.Taking.{refusal_number, Allowed, Judges, Took, TookBy, draft_of}
use Rattle.std.proofs.lemmas.List.{nil_from_length}
use Rattle.graph.proofs.Judged.{Judgement, machine_judged, fit_judged, layer_judged, actor_judged}
use Rattle.graph.proofs.JudgedLinks.{plain_judged, delayed_judged, sequence_judged}

-- a judgement turns the decision into the relation
decided : (d : Draft) (e : Entry) (after : Draft) (j : Option Refusal) (r : Result Unit Refusal) → Judgement d e j → TookBy j d e after r → Took d e after r
decided d e after j (Ok u) judged by = (subst (Judgement d e) by.0 judged, by.1)
decided d e after j (Err f) judged by = subst (Judgement d e) by judged

-- also of the entry as it came
pub took : (s t : ReadSheet) (e f : Entry) (j : Option Refusal) (r : Result Unit Refusal) → e ≡ f → Judgement (draft_of s) f j → TookBy j (draft_of s) f (draft_of t) r → Took (draft_of s) e (draft_of t) r
took s t e f j r is judged by = subst (λ x. Took (draft_of s) x (draft_of t) r) (sym is) (decided (draft_of s) f (draft_of t) j r judged by)

-- an entry that was taken met no refusal
pub accepted : (d : Draft) (e : Entry) (after : Draft) (r : Result Unit Refusal) → is_ok r ≡ true → Took d e after r → Free d e × (after ≡ next d e)
accepted d e after (Ok u) ok t = t
accepted d e after (Err f) ok t = absurd (cc)

-- one that was not is reported with its refusal and its line
pub rejected : (d : Draft) (e : Entry) (after : Draft) (r : Result Unit Refusal) (m : Result Unit GraphFault) (at : ℕ) (f : GraphFault) → Took d e after r →
    MatchResult r (λ u. m ≡ Ok u) (λ n. IsErrAnd m (λ g. g ≡ Refused n at)) → m ≡ Err f → (n : Refusal) × Lowest (Refuses d e) (refusal_number n) × (f ≡ Refused n at)
rejected d e after (Ok u) m at f t mapped is = absurd (cc)
rejected d e after (Err n) m at f t mapped is = let g = err_from_is_err_and m mapped in (n, t, cc)

-- and of checks that change nothing
decided_alone : (d : Draft) (e : Entry) (j : Option Refusal) (r : Result Unit Refusal) → Judgement d e j → Judges j r → Allowed d e r
decided_alone d e j (Ok u) judged by = subst (Judgement d e) by judged
decided_alone d e j (Err f) judged by = subst (Judgement d e) by judged

pub allowed : (s : ReadSheet) (k l : Link) (j : Option Refusal) (r : Result Unit Refusal) → k ≡ l → Judgement (draft_of s) (NextLink l) j → Judges j r → Allowed (draft_of s) (NextLink k) r
allowed s k l j r is judged by = subst (λ (x : Link). Allowed (draft_of s) (NextLink x) r) (sym is) (decided_alone (draft_of s) (NextLink l) j r judged by)

-- ---- what was read so far judges every entry as the rules do

headed : (s : ReadSheet) → is_ruled s.stage ≡ false → length (vec_items s.actors) ≡ 0
headed s e = sym s.actors.ok.0 ∙ (s.headed e).1

few : (s : ReadSheet) → length (vec_items s.actors) ≤ 64
few s = subst (λ n. n ≤ 64) s.actors.ok.0 s.few

-- counts as they are kept
by_counts : (s : ReadSheet) (P : ℕ → ℕ → Type 0) → P (length (vec_items s.actors)) (fifo_count (vec_items s.links.list)) → P (vec_len s.actors) s.links.fifos
by_counts s P p = subst (λ n. P n s.links.fifos) (sym s.actors.ok.0) (subst (λ k. P (length (vec_items s.actors)) k) (sym s.links.counted) p)

pub sheet_machine : (s : ReadSheet) (m : Machine) → Judgement (draft_of s) (OnMachine m) (judge_machine s.stage m)
sheet_machine s m = machine_judged s.stage (vec_items s.layers) (vec_items s.actors) (vec_items s.links.list) m

pub sheet_fit : (s : ReadSheet) (f : Fit) → Judgement (draft_of s) (ByFit f) (judge_fit s.stage)
sheet_fit s f = fit_judged s.stage (vec_items s.layers) (vec_items s.actors) (vec_items s.links.list) f

pub sheet_layer : (s : ReadSheet) (l : Layer) → Judgement (draft_of s) (WithLayer l) (judge_layer s.stage (vec_len s.actors) (vec_items s.layers) l)
sheet_layer s l =
    layer_judged s.stage (vec_items s.layers) (vec_items s.actors) (vec_items s.links.list) (vec_len s.actors) l s.actors.ok.0
    (λ e. nil_from_length (vec_items s.links.list) (sym s.links.list.ok.0 ∙ s.peopled e))

pub sheet_actor : (s : ReadSheet) (a : Actor) → Judgement (draft_of s) (NextActor a) (judge_actor s.stage (vec_len s.actors) (vec_len s.links.list) a)
sheet_actor s a =
    actor_judged s.stage (vec_items s.layers) (vec_items s.actors) (vec_items s.links.list) (vec_len s.actors) (vec_len s.links.list) a s.actors.ok.0 s.links.list.ok.0

pub sheet_plain : (s : ReadSheet) (f : Fifo) → Judgement (draft_of s) (NextLink (Plain f)) (judge_plain (vec_len s.actors) s.links.fifos s.links.order.rows f)
sheet_plain s f =
    by_counts s (λ n k. Judgement (draft_of s) (NextLink (Plain f)) (judge_plain n k s.links.order.rows f))
    (plain_judged s.stage (vec_items s.layers) (vec_items s.actors) (vec_items s.links.list) s.links.order.rows f (headed s) (few s) s.links.heard s.links.meant)

pub sheet_delayed : (s : ReadSheet) (f : Fifo) → Judgement (draft_of s) (NextLink (Delayed f)) (judge_fifo (vec_len s.actors) s.links.fifos f None)
sheet_delayed s f =
    by_counts s (λ n k. Judgement (draft_of s) (NextLink (Delayed f)) (judge_fifo n k f None))
    (delayed_judged s.stage (vec_items s.layers) (vec_items s.actors) (vec_items s.links.list) f (headed s))

pub sheet_sequence : (s : ReadSheet) (q : Sequence) → Judgement (draft_of s) (NextLink (Ordered q)) (judge_sequence (vec_len s.actors) (core_in (vec_items s.actors)) s.links.order.rows q)
sheet_sequence s q =
    by_counts s (λ n k. Judgement (draft_of s) (NextLink (Ordered q)) (judge_sequence n (core_in (vec_items s.actors)) s.links.order.rows q))
    (sequence_judged s.stage (vec_items s.layers) (vec_items s.actors) (vec_items s.links.list) s.links.order.rows q (headed s) (few s) s.links.heard s.links.meant)
