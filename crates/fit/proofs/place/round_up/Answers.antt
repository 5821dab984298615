use Rattle.std.proofs.Common.{◌≡◌, ℕ, ◌+◌, ◌-◌, ◌*◌, ◌/◌, ◌<◌, sym, ap, ◌∙◌, mul-zero, arith}
use Rattle.std.specs.Int.{div_ceil}
use Rattle.std.proofs.lemmas.Nat.{div-mul-add}
use Rattle.std.proofs.lemmas.Grind.{div_ceil_times}
use Rattle.rules.specs.Stretches.{rounded_up}
use Rattle.fit.proofs.place.round_up.Goals as goal

ceil_rounds : (grain n : ℕ) → 0 < grain → div_ceil n grain * grain ≡ rounded_up grain n
unfolding rounded_up
ceil_rounds grain n some =
    let k : ℕ = div_ceil n grain in
    let near = div_ceil_times n grain some in
    let split : n + (grain - 1) ≡ k * grain + (n + (grain - 1) - k * grain) = omega (arith, near.0, near.1) in
    sym
    (ap (λ m. m / grain * grain) split
    ∙ ap (λ m. m * grain) (div-mul-add k grain (n + (grain - 1) - k * grain) (omega (arith, near.0, near.1))))

pub returns-then-grain-eq0-clause-value : goal.returns-then-grain-eq0-clause-value
unfolding rounded_up
returns-then-grain-eq0-clause-value c =
    sym (ap (λ g. (c.args.start + (g - 1)) / g * g) c.if-grain-eq0.true ∙ mul-zero ((c.args.start + (0 - 1)) / 0))

pub returns-clause-value : goal.returns-clause-value
returns-clause-value c =
    let ceil : c.div_ceil.result ≡ div_ceil c.args.start c.args.grain =
    c.div_ceil.ensures ∙ ap (λ n. div_ceil n c.from-step.result) (omega arith) ∙ ap (div_ceil c.args.start) (omega arith)
    in
    ap (λ g. c.div_ceil.result * g) c.from-step.ensures ∙ ap (λ k. k * c.args.grain) ceil
    ∙ ceil_rounds c.args.grain c.args.start (omega arith)
