use Rattle.std.proofs.Common.{◌≡◌, true, sym, ◌∙◌, rules, tests}
use Rattle.std.specs.Option.{MatchOption}
use Rattle.std.proofs.lemmas.List.Sorted.{answers_always}
use Rattle.fit.specs.Asking.{filled}
use Rattle.fit.proofs.Ascents.{first_test, follows, empty_refuses, sorted_ascends}
use Rattle.fit.proofs.range.are_ascending.Goals as goal

pub returns-then-is_none_or : goal.returns-then-is_none_or
returns-then-is_none_or c =
    let told : MatchOption c.first.result (c.is_none_or.result ≡ true) (λ g. c.is_none_or.result ≡ filled g.now) = search (rules, tests) in
    let fills = first_test c.args.gaps.now c.first.result c.is_none_or.result c.first.ensures.value told in
    sorted_ascends c.args.gaps.now c.is_sorted_by.result (sym fills ∙ c.if-is_none_or.true) (c.is_sorted_by.ensures.cases follows (answers_always _ _ _ (λ f a r q k. search (rules, tests))))

pub returns-else-is_none_or : goal.returns-else-is_none_or
returns-else-is_none_or c =
    let told : MatchOption c.first.result (c.is_none_or.result ≡ true) (λ g. c.is_none_or.result ≡ filled g.now) = search (rules, tests) in
    let fills = first_test c.args.gaps.now c.first.result c.is_none_or.result c.first.ensures.value told in
    c.if-is_none_or.false ∙ empty_refuses c.args.gaps.now (sym fills ∙ c.if-is_none_or.false)
