use Rattle.std.proofs.Common.{Some, None, ◌∙◌, rules, tests}
use Rattle.std.proofs.lemmas.Iterator.{YieldsList-from_slice}
use Rattle.std.proofs.lemmas.Iterator.Consumers.{YieldsList-at, YieldsList-from_filter}
use Rattle.rules.specs.Fitting.{width}
use Rattle.fit.proofs.Tightest.{holds, least_from_yields_List, takes_best}
use Rattle.fit.proofs.best.BestFitFitRule.fit.Goals as goal

pub returns-in_err-tightest : goal.returns-in_err-tightest
returns-in_err-tightest c =
    c.from_residual.ensures
    ∙ takes_best c.args.q.size c.args.q.grain c.args.q.gaps.now c.min_by_key.result None c.in_err-tightest.was
    (least_from_yields_List width _ c.min_by_key.result c.min_by_key.ensures.ran
    (YieldsList-from_filter _ (holds c.args.q.size c.args.q.grain) (YieldsList-at c.filter.ensures.source (YieldsList-from_slice c.args.q.gaps.now c.iter.ensures.rest))
    c.filter.ensures.closure (λ x b q k. search (rules, tests)))
    (λ x k q h. search (rules, tests)))

pub returns : goal.returns
returns c =
    c.place_in.ensures
    ∙ takes_best c.args.q.size c.args.q.grain c.args.q.gaps.now c.min_by_key.result (Some c.in_ok-tightest.tightest) c.in_ok-tightest.was
    (least_from_yields_List width _ c.min_by_key.result c.min_by_key.ensures.ran
    (YieldsList-from_filter _ (holds c.args.q.size c.args.q.grain) (YieldsList-at c.filter.ensures.source (YieldsList-from_slice c.args.q.gaps.now c.iter.ensures.rest))
    c.filter.ensures.closure (λ x b q k. search (rules, tests)))
    (λ x k q h. search (rules, tests)))
