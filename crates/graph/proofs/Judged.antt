-- The checks of the reader, tried one after the other, are the refusals of the rules.
use Rattle.std.proofs.Common.{◌≡◌, ℕ, Bool, true, false, not, ◌&&◌, eqb, ltb, leb, List, [], ◌∷◌, length, Some, None, Option, sym, refl, ap, ◌∙◌, inl, inr, arith}
use Rattle.std.proofs.lemmas.Bool.{not_from_false, and_parts, and_from, leb-true, le-leb, ltb-true, ltb-false, eqb-true, eq-eqb, not-true}
use Rattle.rules.specs.declared.sheet.Machine.{Machine}
use Rattle.rules.specs.declared.sheet.Fit.{Fit}
use Rattle.rules.specs.declared.sheet.Layer.{Layer}
use Rattle.rules.specs.declared.sheet.Layer.TheVariants.{LowLine, SnugLimit}
use Rattle.rules.specs.declared.sheet.Actor.{Actor}
use Rattle.rules.specs.declared.sheet.Link.{Link}
use Rattle.rules.specs.declared.sheet.Entry.{Entry}
use Rattle.rules.specs.declared.sheet.Entry.TheVariants.{OnMachine, ByFit, WithLayer, NextActor}
use Rattle.rules.specs.Lists.{◌∈◌, Lowest}
use Rattle.rules.specs.Sheets.{Sheet}
use Rattle.rules.specs.Drafts.{Draft, nothing, machined, sheet, InTurn, InRange, machine_first, fit_next, actor_then, Refuses, out_of_turn, off_range, unknown_core, too_many_actors, Free}
use Rattle.rules.proofs.Meeting.{turns, in_turn, Unknown as HasUnknown, HasTooMany, HasEqualEnds, Across, Against}
use Rattle.rules.proofs.Passing.{Passed, passed_none, passed_more, lowest_at, free_at}
use Rattle.graph.specs.declared.faults.Refusal.{Refusal}
use Rattle.graph.specs.declared.faults.Refusal.TheVariants.{OutOfTurn, OffRange, Unknown, TooMany}
use Rattle.graph.specs.declared.stage.Stage.{Stage}
use Rattle.graph.specs.declared.stage.Stage.TheVariants.{Blank, Machined, Ruled}
use Rattle.graph.specs.Ranges.{machine_in_range}
use Rattle.graph.specs.Judging.{unless, judge_machine, judge_fit, judge_layer, judge_actor, has_sort, layer_in_range}
use Rattle.graph.specs.Taking.{refusal_number, draft_from}
use Rattle.std.proofs.lemmas.List.{nil_from_length}
use Rattle.graph.proofs.Ranged.{refuted, machine_told, machine_heard, layer_told, layer_heard}

-- none refuses the entry, or this one does and none with a lower number
abbrev pub Judgement : Draft → Entry → Option Refusal → Type 0
Judgement d e None = Free d e
Judgement d e (Some f) = Lowest (Refuses d e) (refusal_number f)

-- one check: refused by it, or passed and judged by the rest
pub checked : (d : Draft) (e : Entry) (f : Refusal) (b : Bool) (rest : Option Refusal) → Passed d e (refusal_number f) →
    (b ≡ false → Refuses d e (refusal_number f)) → (b ≡ true → Judgement d e rest) → Judgement d e (unless b f rest)
checked d e f true rest p bad good = good refl
checked d e f false rest p bad good = lowest_at d e (refusal_number f) p (bad refl)

-- an entry out of turn
pub untimely : (d : Draft) (e : Entry) → (InTurn d e → ⊥) → Judgement d e (Some OutOfTurn)
untimely d e h = lowest_at d e 4 (passed_none d e) (out_of_turn e h)

-- an entry in turn has passed the first check
pub timely : (d : Draft) (e : Entry) → InTurn d e → Passed d e 5
timely d e h = passed_more d e 4 (passed_none d e) (λ none. none h)

-- an entry in turn and in range that the later checks let pass
free_then : (d : Draft) (e : Entry) → InTurn d e → InRange e → (HasUnknown d e → ⊥) → (HasTooMany d e → ⊥) → (HasEqualEnds e → ⊥) → (Across d e → ⊥) → (Against d e → ⊥) → Free d e
free_then d e turn range p6 p7 p8 p9 p10 =
    free_at d e
    (passed_more d e 10 (passed_more d e 9 (passed_more d e 8 (passed_more d e 7 (passed_more d e 6 (passed_more d e 5 (timely d e turn) (λ no. no range)) p6) p7) p8) p9) p10)

pub machine_judged : (stage : Stage) (layers : List Layer) (actors : List Actor) (links : List Link) (m : Machine) → Judgement (draft_from stage layers actors links) (OnMachine m) (judge_machine stage m)
machine_judged Blank layers actors links m =
    let d = nothing in
    let e = OnMachine m in
    checked d e OffRange (machine_in_range m) None (timely d e (machine_first m))
    (λ clear. off_range e (refuted (machine_in_range m) (machine_heard m) clear))
    (λ t. free_then d e (machine_first m) (machine_told m t) (λ h. h) (λ h. h) (λ h. h) (λ h. h) (λ h. h))
machine_judged (Machined n) layers actors links m = untimely (machined n) (OnMachine m) (λ t. turns t)
machine_judged (Ruled n f) layers actors links m = untimely (sheet (record { machine = n; fit = f; layers = layers; actors = actors; links = links })) (OnMachine m) (λ t. turns t)

pub fit_judged : (stage : Stage) (layers : List Layer) (actors : List Actor) (links : List Link) (f : Fit) → Judgement (draft_from stage layers actors links) (ByFit f) (judge_fit stage)
fit_judged Blank layers actors links f = untimely nothing (ByFit f) (λ t. turns t)
fit_judged (Machined n) layers actors links f =
    let d = machined n in
    let e = ByFit f in
    free_then d e (fit_next n f) tt (λ h. h) (λ h. h) (λ h. h) (λ h. h) (λ h. h)
fit_judged (Ruled n g) layers actors links f = untimely (sheet (record { machine = n; fit = g; layers = layers; actors = actors; links = links })) (ByFit f) (λ t. turns t)

-- ---- layers

-- where the sort is not there no layer of it is
no_sort_low : (n : ℕ) (layers : List Layer) → has_sort (LowLine n) layers ≡ false → (k : ℕ) → LowLine k ∈ layers → ⊥
no_sort_low n [] e k m = m
no_sort_low n (LowLine j ∷ ls) e k m = cc
no_sort_low n (SnugLimit j ∷ ls) e k (inl m) = cc
no_sort_low n (SnugLimit j ∷ ls) e k (inr m) = no_sort_low n ls e k m

some_sort_low : (n : ℕ) (layers : List Layer) → ((k : ℕ) → LowLine k ∈ layers → ⊥) → has_sort (LowLine n) layers ≡ false
some_sort_low n [] none = refl
some_sort_low n (LowLine j ∷ ls) none = absurd (none j (inl refl))
some_sort_low n (SnugLimit j ∷ ls) none = some_sort_low n ls (λ k m. none k (inr m))

no_sort_snug : (n : ℕ) (layers : List Layer) → has_sort (SnugLimit n) layers ≡ false → (k : ℕ) → SnugLimit k ∈ layers → ⊥
no_sort_snug n [] e k m = m
no_sort_snug n (SnugLimit j ∷ ls) e k m = cc
no_sort_snug n (LowLine j ∷ ls) e k (inl m) = cc
no_sort_snug n (LowLine j ∷ ls) e k (inr m) = no_sort_snug n ls e k m

some_sort_snug : (n : ℕ) (layers : List Layer) → ((k : ℕ) → SnugLimit k ∈ layers → ⊥) → has_sort (SnugLimit n) layers ≡ false
some_sort_snug n [] none = refl
some_sort_snug n (SnugLimit j ∷ ls) none = absurd (none j (inl refl))
some_sort_snug n (LowLine j ∷ ls) none = some_sort_snug n ls (λ k m. none k (inr m))

-- a sheet that may still have layers
layer_told_turn : (s : Sheet) (l : Layer) → s.actors ≡ [] → s.links ≡ [] → has_sort l s.layers ≡ false → InTurn (sheet s) (WithLayer l)
layer_told_turn s (LowLine n) a k h = in_turn (sheet s) (WithLayer (LowLine n)) (a, k, no_sort_low n s.layers h)
layer_told_turn s (SnugLimit n) a k h = in_turn (sheet s) (WithLayer (SnugLimit n)) (a, k, no_sort_snug n s.layers h)

layer_heard_turn : (s : Sheet) (l : Layer) → InTurn (sheet s) (WithLayer l) → (s.actors ≡ []) × (has_sort l s.layers ≡ false)
layer_heard_turn s (LowLine n) t = let h = turns t in (h.0, some_sort_low n s.layers h.2)
layer_heard_turn s (SnugLimit n) t = let h = turns t in (h.0, some_sort_snug n s.layers h.2)

pub layer_judged : (stage : Stage) (layers : List Layer) (actors : List Actor) (links : List Link) (n : ℕ) (l : Layer) → n ≡ length actors → (n ≡ 0 → links ≡ []) →
    Judgement (draft_from stage layers actors links) (WithLayer l) (judge_layer stage n layers l)
layer_judged Blank layers actors links n l long empty = untimely nothing (WithLayer l) (λ t. turns t)
layer_judged (Machined m) layers actors links n l long empty = untimely (machined m) (WithLayer l) (λ t. turns t)
layer_judged (Ruled m f) layers actors links n l long empty =
    let s : Sheet = record { machine = m; fit = f; layers = layers; actors = actors; links = links } in
    let d = sheet s in
    let e = WithLayer l in
    checked d e OutOfTurn (eqb n 0 && not (has_sort l layers)) (unless (layer_in_range l) OffRange None) (passed_none d e)
    (λ clear. out_of_turn e (refuted (eqb n 0 && not (has_sort l layers)) (λ t. let h = layer_heard_turn s l t in and_from (eqb n 0) (not (has_sort l layers)) (eq-eqb n 0 (long ∙ ap length h.0)) (not_from_false (has_sort l layers) h.1)) clear))
    (λ t.
    let parts = and_parts (eqb n 0) (not (has_sort l layers)) t in
    let none = eqb-true n 0 parts.0 in
    let turn = layer_told_turn s l (nil_from_length actors (sym long ∙ none)) (empty none) (not-true (has_sort l layers) parts.1) in
    checked d e OffRange (layer_in_range l) None (timely d e turn)
    (λ clear. off_range e (refuted (layer_in_range l) (layer_heard l) clear))
    (λ r. free_then d e turn (layer_told l r) (λ h. h) (λ h. h) (λ h. h) (λ h. h) (λ h. h)))

-- ---- actors

pub actor_judged : (stage : Stage) (layers : List Layer) (actors : List Actor) (links : List Link) (n k : ℕ) (a : Actor) → n ≡ length actors → k ≡ length links →
    Judgement (draft_from stage layers actors links) (NextActor a) (judge_actor stage n k a)
actor_judged Blank layers actors links n k a long many = untimely nothing (NextActor a) (λ t. turns t)
actor_judged (Machined m) layers actors links n k a long many = untimely (machined m) (NextActor a) (λ t. turns t)
actor_judged (Ruled m f) layers actors links n k a long many =
    let s : Sheet = record { machine = m; fit = f; layers = layers; actors = actors; links = links } in
    let d = sheet s in
    let e = NextActor a in
    checked d e OutOfTurn (eqb k 0) (unless (leb a.work 16777216) OffRange (unless (ltb a.core m.cores) Unknown (unless (ltb n 64) TooMany None))) (passed_none d e)
    (λ clear. out_of_turn e (refuted (eqb k 0) (λ t. eq-eqb k 0 (many ∙ ap length (turns t))) clear))
    (λ t4. let p5 = timely d e (actor_then s a (nil_from_length links (sym many ∙ eqb-true k 0 t4))) in
    checked d e OffRange (leb a.work 16777216) (unless (ltb a.core m.cores) Unknown (unless (ltb n 64) TooMany None)) p5
    (λ clear. off_range e (refuted (leb a.work 16777216) (le-leb a.work 16777216) clear))
    (λ t5. let p6 = passed_more d e 5 p5 (λ no. no (leb-true a.work 16777216 t5)) in
    checked d e Unknown (ltb a.core m.cores) (unless (ltb n 64) TooMany None) p6
    (λ clear. unknown_core a (ltb-false a.core m.cores clear))
    (λ t6. let p7 = passed_more d e 6 p6 (λ h. let l = ltb-true a.core m.cores t6 in omega arith) in
    checked d e TooMany (ltb n 64) None p7
    (λ clear. too_many_actors a (let l = ltb-false n 64 clear in omega arith))
    (λ t7. free_at d e
    (passed_more d e 10 (passed_more d e 9 (passed_more d e 8 (passed_more d e 7 p7 (λ h. let l = ltb-true n 64 t7 in omega arith))
    (λ h. h)) (λ h. h)) (λ h. h))))))
