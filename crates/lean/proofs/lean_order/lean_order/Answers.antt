use Rattle.std.proofs.Common.{◌≡◌, ◌-◌, ◌++◌, length, take, drop, vec_items, sym, refl, ap, ◌∙◌, subst, inl, inr, ⊎_elim, arith}
use Rattle.std.proofs.lemmas.List.{take_at, drop_at, length-take-le}
use Rattle.words.specs.Words.{bit}
use Rattle.rules.specs.Lean.{Lean}
use Rattle.graph.specs.declared.order.Order.{Order}
use Rattle.lean.specs.Totals.{totals, highest}
use Rattle.lean.specs.Waiting.{Describes}
use Rattle.lean.proofs.OfGraph.{ends_empty, ends_short, ends_listed}
use Rattle.lean.proofs.lean_order.lean_order.Goals as goal

pub returns-then-n-eq0 : goal.returns-then-n-eq0
returns-then-n-eq0 c =
    ends_empty c.args.graph.now.sheet c.args.memory.now c.args.memory.now c.args.out.now c.args.out.now (omega (arith, c.actors-n.ensures.len)) refl refl

pub returns-then-memory-n : goal.returns-then-memory-n
returns-then-memory-n c =
    ends_short c.args.graph.now.sheet c.args.memory.now c.args.memory.now c.args.out.now c.args.out.now (omega (arith, c.actors-n.ensures.len))
    (⊎_elim (λ l. inl (omega (arith, c.actors-n.ensures.len))) (λ l. inr (omega (arith, l.1, c.actors-n.ensures.len))) c.then-memory-n.either)
    refl refl

pub returns : goal.returns
returns c =
    let held = c.args.graph.now.sheet in
    let n = length c.actors-n.result.now in
    let out = c.args.out.now in
    let last = c.list.new.out in
    let rest = drop (n - 0) out in
    let z : n - 0 ≡ n = omega arith in
    let part : length (take (n - 0) out) ≡ n = length-take-le (n - 0) out (omega (arith, c.if-out-n.false)) ∙ z in
    let long : length last ≡ n = c.list.auto.out ∙ part in
    let counted = c.actors-n.ensures.len in
    let front : take n (last ++ rest) ≡ last = take_at last rest n long in
    ends_listed held c.args.memory.now c.list.new.memory out (last ++ rest) (omega arith) (omega arith) (omega arith) n c.peak_of-peak.result counted
    (λ s d. subst (Lean s) (sym front) (c.list.ensures s
    (subst (λ ks. Describes ks c.order.result.now.rows (length (take (n - 0) out)) s) (sym c.links.ensures.items)
    (subst (λ (o : Order). Describes (vec_items held.links.list) o.rows (length (take (n - 0) out)) s) (sym c.order.ensures)
    (subst (λ k. Describes (vec_items held.links.list) held.links.order.rows k s) (sym part) d)))))
    (c.peak_of-peak.ensures
    ∙ ap (λ os. highest 0 (totals os (bit 0) (take (n - 0) (last ++ rest)))) c.objects.ensures.items
    ∙ ap (λ k. highest 0 (totals (vec_items held.objects.list) (bit 0) (take k (last ++ rest)))) z)
    (drop_at last rest n long ∙ ap (λ k. drop k out) z)
