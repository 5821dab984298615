use Rattle.std.proofs.Common.{rules, tests}
use Rattle.std.proofs.iter.runs.Made.{chains}
use Rattle.own.proofs.Found.{finds_last}
use Rattle.own.proofs.last.LastFitFitRule.fit.Goals as goal

pub returns : goal.returns
returns c =
    let p = c.find_map.ensures.runs in
    let seen = p.0.seen in
    finds_last c.args.q.size c.args.q.grain c.args.q.gaps.now p.0 _ _ (search (rules, chains)) (λ w. search (rules, chains)) (λ k d h l. search (rules, chains))
    (λ x r h k. search (rules, tests)) c.find_map.result p.2
