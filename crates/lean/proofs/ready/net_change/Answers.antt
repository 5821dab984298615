use Rattle.std.proofs.Common.{◌+◌, ap, arith}
use Rattle.std.proofs.lemmas.List.{take_all}
use Rattle.std.proofs.lemmas.Int.{ints}
use Rattle.rules.specs.declared.sheet.Link.TheVariants.{Plain}
use Rattle.rules.specs.Lean.{produced, consumed}
use Rattle.lean.proofs.Nets.{fifos_of_front, fifos_more, produced_more, consumed_more}
use Rattle.lean.proofs.ready.net_change.Goals as goal

pub overflow_add-produced : goal.overflow_add-produced
overflow_add-produced c =
    let more = fifos_more c.args.links.now c.loop-link.link-index (Plain (record { from = 0; to = 0; size = 0 })) c.loop-link-test.true in
    let front = fifos_of_front (c.loop-link.link-index + 1) c.args.links.now in omega arith

pub overflow_add-consumed : goal.overflow_add-consumed
overflow_add-consumed c =
    let more = fifos_more c.args.links.now c.loop-link.link-index (Plain (record { from = 0; to = 0; size = 0 })) c.loop-link-test.true in
    let front = fifos_of_front (c.loop-link.link-index + 1) c.args.links.now in omega arith

pub loop-link-preserved : goal.loop-link-preserved
loop-link-preserved c =
    let d = Plain (record { from = 0; to = 0; size = 0 }) in
    let more = fifos_more c.args.links.now c.loop-link.link-index d c.loop-link-test.true in
    let gains = produced_more c.args.links.now c.loop-link.link-index d c.loop-link-test.true c.args.a in
    let losses = consumed_more c.args.links.now c.loop-link.link-index d c.loop-link-test.true c.args.a in
    (omega arith, omega arith, omega arith, omega arith)

pub overflow_cast-result : goal.overflow_cast-result
overflow_cast-result c = let front = fifos_of_front c.loop-link.link-index c.args.links.now in omega (arith, ints)

pub overflow_cast-result-2 : goal.overflow_cast-result-2
overflow_cast-result-2 c = let front = fifos_of_front c.loop-link.link-index c.args.links.now in omega (arith, ints)

pub overflow_sub-result : goal.overflow_sub-result
overflow_sub-result c = let front = fifos_of_front c.loop-link.link-index c.args.links.now in omega (arith, ints)

pub returns : goal.returns
returns c =
    let front = fifos_of_front c.loop-link.link-index c.args.links.now in
    let all = take_all c.loop-link.link-index c.args.links.now c.loop-link-test.false in
    let gains = ap (λ ks. produced ks c.args.a) all in
    let losses = ap (λ ks. consumed ks c.args.a) all in omega (arith, ints)
