use Rattle.std.proofs.Common.{◌≡◌, filter, Some, None, Option, refl, sym, ap, ◌∙◌, arith}
use Rattle.std.specs.Option.{option_or}
use Rattle.std.proofs.lemmas.List.{take_all}
use Rattle.rules.specs.Fitting.{ascend_from}
use Rattle.rules.proofs.Questions.{kept_ascend}
use Rattle.fit.proofs.preference.ask_first.Goals as goal

-- the preferred gaps are few and ascend, as all of them
pub invariant_of-preferred : goal.invariant_of-preferred
invariant_of-preferred g c = record {
  sized = c.args.q.sized;
  limited = c.args.q.limited;
  positive = c.args.q.positive;
  grained = c.args.q.grained;
  few = omega arith;
  ascending =
      ap (ascend_from 0) (c.as_slice.ensures.value ∙ c.loop-gap.invariant.same ∙ ap (filter _) (take_all c.loop-gap.gap-index c.args.q.gaps.now c.loop-gap-test.false))
      ∙ kept_ascend _ 0 c.args.q.gaps.now c.args.q.ascending;
}

-- an answer that is there is taken
taken_first : {X : Type 0} (answer first rest : Option X) → answer ≡ first → (answer ≡ None → ⊥) → answer ≡ option_or first rest
taken_first None first rest is some = absurd (some refl)
taken_first (Some x) first rest is some = ap (λ o. option_or o rest) is

pub returns-in-None : goal.returns-in-None
returns-in-None g c =
    let rule = g.R.FitRule.answers c.args.rule.now in
    let kept = c.as_slice.ensures.value ∙ c.loop-gap.invariant.same ∙ ap (filter _) (take_all c.loop-gap.gap-index c.args.q.gaps.now c.loop-gap-test.false) in
    c.fit-in-None.ensures
    ∙ sym (ap (λ o. option_or o (rule c.args.q.gaps.now c.args.q.size c.args.q.grain))
    (ap (λ gs. rule gs c.args.q.size c.args.q.grain) (sym kept) ∙ sym c.fit.ensures ∙ c.in-None.is))

pub returns-in_default : goal.returns-in_default
returns-in_default g c =
    let rule = g.R.FitRule.answers c.args.rule.now in
    let kept = c.as_slice.ensures.value ∙ c.loop-gap.invariant.same ∙ ap (filter _) (take_all c.loop-gap.gap-index c.args.q.gaps.now c.loop-gap-test.false) in
    taken_first _ _ _ (c.fit.ensures ∙ ap (λ gs. rule gs c.args.q.size c.args.q.grain) kept) c.in_default.not-None
