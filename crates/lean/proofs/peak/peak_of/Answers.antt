use Rattle.std.proofs.Common.{sym, ◌∙◌}
use Rattle.std.proofs.lemmas.List.{at_drop_all}
use Rattle.words.specs.Words.{bit}
use Rattle.lean.specs.Totals.{totals, highest}
use Rattle.lean.proofs.Tops.{one_more}
use Rattle.lean.proofs.peak.peak_of.Goals as goal

pub loop-actor-preserved : goal.loop-actor-preserved
loop-actor-preserved c =
    one_more c.args.objects.now c.args.listing.now c.loop-actor.actor-index c.loop-actor-test.true
    c.loop-actor.finished c.with-started.result c.with-started.ensures.bits c.loop-actor.peak
    c.live_bytes-running.result c.live_bytes-left.result c.max.result c.max-peak.result
    c.live_bytes-running.ensures c.live_bytes-left.ensures c.max.ensures c.max-peak.ensures
    (highest 0 (totals c.args.objects.now (bit 0) c.args.listing.now)) c.loop-actor.invariant

pub returns : goal.returns
returns c =
    sym (at_drop_all (λ ns. highest c.loop-actor.peak (totals c.args.objects.now (bit c.loop-actor.finished) ns)) c.args.listing.now c.loop-actor.actor-index c.loop-actor-test.false)
    ∙ c.loop-actor.invariant
