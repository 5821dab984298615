use Rattle.std.proofs.Common.{◌≡◌, ◌≤◌, length, take, filter}
use Rattle.fit.proofs.preference.ask_first.Given as goal

-- what is kept are the preferred ones of the gaps so far
abbrev pub invariant-loop-gap : goal.invariant-loop-gap
invariant-loop-gap g l = record {
  few : length l.kept.items ≤ l.gap-index;
  same : l.kept.items ≡ filter (λ x. g.P.Preference.preferred l.preference x l.q.size l.q.grain) (take l.gap-index l.q.gaps.now);
}
