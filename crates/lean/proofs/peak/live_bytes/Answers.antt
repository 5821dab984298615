use Rattle.std.proofs.Common.{◌≡◌, ◌+◌, false, cond, get_or, drop, sym, arith}
use Rattle.std.proofs.lemmas.List.{at_drop_more, at_drop_all}
use Rattle.std.proofs.lemmas.Bool.{cond-true, cond-false}
use Rattle.rules.specs.declared.memory.Object.{Object}
use Rattle.words.specs.Words.{bit}
use Rattle.lean.specs.Totals.{lives, live_in}
use Rattle.lean.proofs.peak.live_bytes.Goals as goal
use Rattle.lean.proofs.peak.live_bytes.Goals.{then-is_live, else-is_live}

pub loop-object-init : goal.loop-object-init
loop-object-init c = (omega arith, omega arith)

pub loop-object-preserved : goal.loop-object-preserved
loop-object-preserved c =
    let S = bit c.args.started in
    let F = bit c.args.finished in
    let os = c.args.objects.now in
    let i = c.loop-object.object-index in
    let o : Object = get_or os i (record { producer = 0; consumer = 0; size = 0; delayed = false }) in
    let s : live_in (drop i os) S F ≡ cond (lives S F o) o.size 0 + live_in (drop (i + 1) os) S F =
    at_drop_more (λ xs. live_in xs S F) os i (record { producer = 0; consumer = 0; size = 0; delayed = false }) c.loop-object-test.true in
    elim c.if-is_live.branch [
      | then-is_live w ↦ let k = cond-true (lives S F o) o.size 0 (sym w.if-is_live.ensures) in (omega arith, omega arith)
      | else-is_live w ↦ let k = cond-false (lives S F o) o.size 0 (sym w.if-is_live.ensures) in (omega arith, omega arith)
    ]

pub returns : goal.returns
returns c =
    let s = at_drop_all (λ xs. live_in xs (bit c.args.started) (bit c.args.finished)) c.args.objects.now c.loop-object.object-index c.loop-object-test.false in
    omega arith
