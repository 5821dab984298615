use Rattle.std.proofs.Common.{ap, ◌∙◌, subst, rules, tests}
use Rattle.std.specs.Iterator.Runs.{ItemsMapTo}
use Rattle.std.specs.Slice.Iter.{iter_rest}
use Rattle.fit.proofs.Found.{finds_first}
use Rattle.fit.proofs.first.FirstFitFitRule.fit.Goals as goal

pub returns : goal.returns
returns c =
    let p = c.find_map.ensures.runs in
    finds_first c.args.q.size c.args.q.grain c.args.q.gaps.now p.0 _ _
    (subst (λ xs. ItemsMapTo p.0 (λ y. y.now) xs) (ap iter_rest p.1 ∙ c.iter.ensures.rest) (c.iter.ensures.runs p.0 p.0.seen))
    (λ x r q k. search (rules, tests)) c.find_map.result p.2
