-- The checks of a link are the refusals of the rules.
use Rattle.std.proofs.Common.{◌≡◌, ℕ, ◌<◌, ◌≤◌, true, false, not, ◌&&◌, eqb, ltb, List, length, None, Option, sym, refl, ap, subst, ⊎_elim, arith}
use Rattle.std.proofs.lemmas.Bool.{not-false, and_cases, and_parts, ltb-true, ltb-false, lt-ltb, eqb-true, eq-eqb, not-true, or_cases, or_right}
use Rattle.rules.specs.declared.sheet.Layer.{Layer}
use Rattle.rules.specs.declared.sheet.Actor.{Actor}
use Rattle.rules.specs.declared.sheet.Fifo.{Fifo}
use Rattle.rules.specs.declared.sheet.Sequence.{Sequence}
use Rattle.rules.specs.declared.sheet.Link.{Link}
use Rattle.rules.specs.declared.sheet.Link.TheVariants.{Plain, Delayed, Ordered}
use Rattle.rules.specs.declared.sheet.Entry.TheVariants.{NextLink}
use Rattle.rules.specs.Sheets.{core_in}
use Rattle.rules.specs.Order.{Linked, edges}
use Rattle.rules.specs.Drafts.{actors_of, links_of, Draft, sheet, InTurn, InRange, Size, out_of_turn, off_range, unknown_from, unknown_to, too_many_fifos, equal_ends, across_cores, backward, Orders, by_fifo, by_sequence, Buffers, plain, delayed, from, to, fifo_count}
use Rattle.rules.proofs.Meeting.{turns, in_turn}
use Rattle.rules.proofs.Passing.{Passed, passed_none, passed_more, free_at}
use Rattle.graph.specs.declared.faults.Refusal.{Refusal}
use Rattle.graph.specs.declared.faults.Refusal.TheVariants.{OutOfTurn, OffRange, Unknown, TooMany, EqualEnds, AcrossCores, Backward}
use Rattle.graph.specs.declared.stage.Stage.{Stage}
use Rattle.graph.specs.declared.stage.Stage.TheVariants.{Blank, Machined, Ruled}
use Rattle.graph.specs.Stages.{is_ruled}
use Rattle.graph.specs.Ranges.{size_in_range}
use Rattle.graph.specs.Rows.{before, up_to, may_join}
use Rattle.graph.specs.Orders.{Heard, Meant}
use Rattle.graph.specs.Judging.{unless, judge_fifo, judge_plain, judge_sequence}
use Rattle.graph.specs.Taking.{draft_from}
use Rattle.std.proofs.lemmas.List.{nil_from_length}
use Rattle.graph.proofs.Ranged.{refuted, size_told, size_heard}
use Rattle.graph.proofs.Ties.{told}
use Rattle.graph.proofs.Judged.{Judgement, checked, timely}

-- what the order allows: the second is not before the first
allows : (rows : List ℕ) (links : List Link) → Heard rows links → (k : Link) → Orders k → may_join rows (from k) (to k) ≡ true → (d : Draft) → links_of d ≡ links → Linked (edges (links_of d)) (to k) (from k) → ⊥
allows rows links heard k orders t d same h =
    let p = and_parts (ltb (from k) 64) (ltb (to k) 64 && not (up_to (before rows) (to k) (from k))) t in
    let q = and_parts (ltb (to k) 64) (not (up_to (before rows) (to k) (from k))) p.1 in
    refuted (up_to (before rows) (to k) (from k)) (λ u. u) (not-true (up_to (before rows) (to k) (from k)) q.1)
    (or_right (eqb (to k) (from k)) (before rows (to k) (from k)) (heard (to k) (from k) (subst (λ ks. Linked (edges ks) (to k) (from k)) same h)))

-- what it forbids: the second is before the first
pub forbids : (rows : List ℕ) (links : List Link) → Meant rows links → (a b : ℕ) → a < 64 → b < 64 → (a ≡ b → ⊥) → may_join rows a b ≡ false → Linked (edges links) b a
forbids rows links meant a b la lb differ f =
    ⊎_elim
    (λ x. absurd (refuted (ltb a 64) (lt-ltb a 64) x la))
    (λ y. ⊎_elim
    (λ x. absurd (refuted (ltb b 64) (lt-ltb b 64) x lb))
    (λ z. ⊎_elim (λ e. absurd (differ (sym (eqb-true b a e)))) (λ h. told rows links meant b a h) (or_cases (eqb b a) (before rows b a) (not-false (up_to (before rows) b a) z)))
    (and_cases (ltb b 64) (not (up_to (before rows) b a)) y))
    (and_cases (ltb a 64) (ltb b 64 && not (up_to (before rows) b a)) f)

-- a link on a sheet that has no actor is out of turn
pub no_actor : (stage : Stage) (layers : List Layer) (actors : List Actor) (links : List Link) (k : Link) → length actors ≡ 0 → InTurn (draft_from stage layers actors links) (NextLink k) → ⊥
no_actor Blank layers actors links k none t = turns t
no_actor (Machined m) layers actors links k none t = turns t
no_actor (Ruled m f) layers actors links k none t = turns t (nil_from_length actors none)

-- on one that has, it is in turn, and the draft has its actors and links
pub record Peopled (stage : Stage) (layers : List Layer) (actors : List Actor) (links : List Link) : Type 0 where
  pub turn : (k : Link) → InTurn (draft_from stage layers actors links) (NextLink k)
  pub same_actors : actors_of (draft_from stage layers actors links) ≡ actors
  pub same_links : links_of (draft_from stage layers actors links) ≡ links

some_actor : (stage : Stage) (layers : List Layer) (actors : List Actor) (links : List Link) → (is_ruled stage ≡ false → length actors ≡ 0) → (length actors ≡ 0 → ⊥) → Peopled stage layers actors links
some_actor Blank layers actors links head some = absurd (some (head refl))
some_actor (Machined m) layers actors links head some = absurd (some (head refl))
some_actor (Ruled m f) layers actors links head some = record {
  turn = λ k. in_turn (sheet (record { machine = m; fit = f; layers = layers; actors = actors; links = links })) (NextLink k) (λ e. some (ap length e));
  same_actors = refl;
  same_links = refl;
}

-- the checks that both sorts of FIFO have, and what follows them
fifo_judged : (stage : Stage) (layers : List Layer) (actors : List Actor) (links : List Link) (k : Link) (f : Fifo) (rest : Option Refusal) → Buffers k → from k ≡ f.from → to k ≡ f.to →
    (InRange (NextLink k) → Size f.size) → (Size f.size → InRange (NextLink k)) → (is_ruled stage ≡ false → length actors ≡ 0) →
    (Peopled stage layers actors links → f.from < length actors → f.to < length actors → Passed (draft_from stage layers actors links) (NextLink k) 8 → Judgement (draft_from stage layers actors links) (NextLink k) rest) →
    Judgement (draft_from stage layers actors links) (NextLink k) (judge_fifo (length actors) (fifo_count links) f rest)
fifo_judged stage layers actors links k f rest is-fifo e-from e-to so-range range-so head good =
    let d = draft_from stage layers actors links in
    let e = NextLink k in
    let n = length actors in
    checked d e OutOfTurn (not (eqb n 0)) (unless (size_in_range f.size) OffRange (unless (ltb f.from n && ltb f.to n) Unknown (unless (ltb (fifo_count links) 192) TooMany rest))) (passed_none d e)
    (λ clear. out_of_turn e (no_actor stage layers actors links k (eqb-true n 0 (not-false (eqb n 0) clear))))
    (λ t4.
    let here = some_actor stage layers actors links head (λ z. refuted (eqb n 0) (λ u. u) (not-true (eqb n 0) t4) (eq-eqb n 0 z)) in
    let p5 = timely d e (here.turn k) in
    let long : length (actors_of d) ≡ n = ap length here.same_actors in
    let count : fifo_count (links_of d) ≡ fifo_count links = ap fifo_count here.same_links in
    checked d e OffRange (size_in_range f.size) (unless (ltb f.from n && ltb f.to n) Unknown (unless (ltb (fifo_count links) 192) TooMany rest)) p5
    (λ clear. off_range e (λ r. refuted (size_in_range f.size) (size_heard f.size) clear (so-range r)))
    (λ t5.
    let p6 = passed_more d e 5 p5 (λ no. no (range-so (size_told f.size t5))) in
    checked d e Unknown (ltb f.from n && ltb f.to n) (unless (ltb (fifo_count links) 192) TooMany rest) p6
    (λ clear. ⊎_elim
    (λ x. unknown_from k (let l = ltb-false f.from n x in omega arith))
    (λ y. unknown_to k (let l = ltb-false f.to n y in omega arith))
    (and_cases (ltb f.from n) (ltb f.to n) clear))
    (λ t6.
    let ends = and_parts (ltb f.from n) (ltb f.to n) t6 in
    let l = ltb-true f.from n ends.0 in
    let m = ltb-true f.to n ends.1 in
    let p7 = passed_more d e 6 p6 (λ h. ⊎_elim (λ u. omega arith) (λ u. omega arith) h) in
    checked d e TooMany (ltb (fifo_count links) 192) rest p7
    (λ clear. too_many_fifos k is-fifo (let g = ltb-false (fifo_count links) 192 clear in omega arith))
    (λ t7. good here l m (passed_more d e 7 p7 (λ h. let g = ltb-true (fifo_count links) 192 t7 in omega (arith, h.1)))))))

pub delayed_judged : (stage : Stage) (layers : List Layer) (actors : List Actor) (links : List Link) (f : Fifo) → (is_ruled stage ≡ false → length actors ≡ 0) →
    Judgement (draft_from stage layers actors links) (NextLink (Delayed f)) (judge_fifo (length actors) (fifo_count links) f None)
delayed_judged stage layers actors links f head =
    let d = draft_from stage layers actors links in
    let e = NextLink (Delayed f) in
    fifo_judged stage layers actors links (Delayed f) f None (delayed f) refl refl (λ r. r) (λ r. r) head
    (λ here l m p8. free_at d e (passed_more d e 10 (passed_more d e 9 (passed_more d e 8 p8 (λ h. idle h.0)) (λ h. h)) (λ h. idle h.0)))
  where
    idle : Orders (Delayed f) → ⊥
    idle o = elim o [ ]

pub plain_judged : (stage : Stage) (layers : List Layer) (actors : List Actor) (links : List Link) (rows : List ℕ) (f : Fifo) → (is_ruled stage ≡ false → length actors ≡ 0) → length actors ≤ 64 →
    Heard rows links → Meant rows links → Judgement (draft_from stage layers actors links) (NextLink (Plain f)) (judge_plain (length actors) (fifo_count links) rows f)
plain_judged stage layers actors links rows f head few heard meant =
    let d = draft_from stage layers actors links in
    let k = Plain f in
    let e = NextLink k in
    fifo_judged stage layers actors links k f (unless (not (eqb f.from f.to)) EqualEnds (unless (may_join rows f.from f.to) Backward None)) (plain f) refl refl (λ r. r) (λ r. r) head
    (λ here l m p8.
    checked d e EqualEnds (not (eqb f.from f.to)) (unless (may_join rows f.from f.to) Backward None) p8
    (λ clear. equal_ends k (by_fifo f) (eqb-true f.from f.to (not-false (eqb f.from f.to) clear)))
    (λ t8.
    let differ : f.from ≡ f.to → ⊥ = λ same. refuted (eqb f.from f.to) (λ u. u) (not-true (eqb f.from f.to) t8) (eq-eqb f.from f.to same) in
    let p10 = passed_more d e 9 (passed_more d e 8 p8 (λ h. differ h.1)) (λ h. h) in
    checked d e Backward (may_join rows f.from f.to) None p10
    (λ clear. backward k (by_fifo f) (subst (λ ks. Linked (edges ks) f.to f.from) (sym here.same_links) (forbids rows links meant f.from f.to (omega arith) (omega arith) differ clear)))
    (λ t10. free_at d e (passed_more d e 10 p10 (λ h. allows rows links heard k (by_fifo f) t10 d here.same_links h.1)))))

pub sequence_judged : (stage : Stage) (layers : List Layer) (actors : List Actor) (links : List Link) (rows : List ℕ) (q : Sequence) → (is_ruled stage ≡ false → length actors ≡ 0) → length actors ≤ 64 →
    Heard rows links → Meant rows links → Judgement (draft_from stage layers actors links) (NextLink (Ordered q)) (judge_sequence (length actors) (core_in actors) rows q)
sequence_judged stage layers actors links rows q head few heard meant =
    let d = draft_from stage layers actors links in
    let k = Ordered q in
    let e = NextLink k in
    let n = length actors in
    let ordered = unless (may_join rows q.first q.second) Backward None in
    let near = unless (eqb (core_in actors q.first) (core_in actors q.second)) AcrossCores ordered in
    let apart = unless (not (eqb q.first q.second)) EqualEnds near in
    checked d e OutOfTurn (not (eqb n 0)) (unless (ltb q.first n && ltb q.second n) Unknown apart) (passed_none d e)
    (λ clear. out_of_turn e (no_actor stage layers actors links k (eqb-true n 0 (not-false (eqb n 0) clear))))
    (λ t4.
    let here = some_actor stage layers actors links head (λ z. refuted (eqb n 0) (λ u. u) (not-true (eqb n 0) t4) (eq-eqb n 0 z)) in
    let long : length (actors_of d) ≡ n = ap length here.same_actors in
    let p6 = passed_more d e 5 (timely d e (here.turn k)) (λ no. no tt) in
    checked d e Unknown (ltb q.first n && ltb q.second n) apart p6
    (λ clear. ⊎_elim
    (λ x. unknown_from k (let l = ltb-false q.first n x in omega arith))
    (λ y. unknown_to k (let l = ltb-false q.second n y in omega arith))
    (and_cases (ltb q.first n) (ltb q.second n) clear))
    (λ t6.
    let ends = and_parts (ltb q.first n) (ltb q.second n) t6 in
    let l = ltb-true q.first n ends.0 in
    let m = ltb-true q.second n ends.1 in
    let p8 = passed_more d e 7 (passed_more d e 6 p6 (λ h. ⊎_elim (λ u. omega arith) (λ u. omega arith) h)) (λ h. no_fifo h.0) in
    checked d e EqualEnds (not (eqb q.first q.second)) near p8
    (λ clear. equal_ends k (by_sequence q) (eqb-true q.first q.second (not-false (eqb q.first q.second) clear)))
    (λ t8.
    let differ : q.first ≡ q.second → ⊥ = λ same. refuted (eqb q.first q.second) (λ u. u) (not-true (eqb q.first q.second) t8) (eq-eqb q.first q.second same) in
    let p9 = passed_more d e 8 p8 (λ h. differ h.1) in
    checked d e AcrossCores (eqb (core_in actors q.first) (core_in actors q.second)) ordered p9
    (λ clear. across_cores q (subst (λ xs. core_in xs q.first ≡ core_in xs q.second → ⊥) (sym here.same_actors) (refuted (eqb (core_in actors q.first) (core_in actors q.second)) (eq-eqb (core_in actors q.first) (core_in actors q.second)) clear)))
    (λ t9.
    let p10 = passed_more d e 9 p9 (λ h. h (subst (λ xs. core_in xs q.first ≡ core_in xs q.second) (sym here.same_actors) (eqb-true (core_in actors q.first) (core_in actors q.second) t9))) in
    checked d e Backward (may_join rows q.first q.second) None p10
    (λ clear. backward k (by_sequence q) (subst (λ ks. Linked (edges ks) q.second q.first) (sym here.same_links) (forbids rows links meant q.first q.second (omega arith) (omega arith) differ clear)))
    (λ t10. free_at d e (passed_more d e 10 p10 (λ h. allows rows links heard k (by_sequence q) t10 d here.same_links h.1)))))))
  where
    no_fifo : Buffers (Ordered q) → ⊥
    no_fifo b = elim b [ ]
