use Rattle.std.proofs.Common.{◌≡◌, ◌<◌, length, refl, ◌∙◌, arith}
use Rattle.std.proofs.lemmas.List.{drop-set-lt}
use Rattle.run.proofs.Retold.{replayed_none, replayed_next, replayed_all}
use Rattle.run.proofs.replaying.replay_into.Goals as goal

pub loop-i-init : goal.loop-i-init
loop-i-init c = (replayed_none c.args.graph.now c.new-run.result c.new-run.ensures.graph c.new-run.ensures.state, refl)

pub loop-i-preserved : goal.loop-i-preserved
loop-i-preserved c =
    let m : c.loop-i.i < length c.loop-i.answers = omega (arith, c.requires.room, c.loop-i.auto.answers) in (
      replayed_next c.args.graph.now c.args.calls.now c.loop-i.answers c.loop-i.i c.loop-i.run c.call.new.self _ c.call.result
          c.loop-i-test.true m c.loop-i.invariant.0 c.call.ensures,
      drop-set-lt (length c.args.calls.now) c.loop-i.answers c.loop-i.i c.call.result c.loop-i-test.true ∙ c.loop-i.invariant.1,
    )

pub returns : goal.returns
returns c =
    let e : c.loop-i.i ≡ length c.args.calls.now = omega arith in
    record {
      run = replayed_all c.args.graph.now c.args.calls.now c.loop-i.answers c.loop-i.i c.loop-i.run e c.loop-i.invariant.0;
      rest = c.loop-i.invariant.1;
    }
