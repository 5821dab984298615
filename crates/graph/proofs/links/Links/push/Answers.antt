use Rattle.std.proofs.Common.{vec_items, ap, ◌∙◌, arith}
use Rattle.rules.specs.Drafts.{fifo_count}
use Rattle.graph.proofs.Ties.{fifo_count_more, order_pushed, order_kept}
use Rattle.graph.proofs.links.Links.push.Goals as goal

pub join-requires : goal.join-requires
join-requires c = record { allowed = rw (c.in-Some.ensures.1, c.in-Some.ensures.2) (c.requires.allowed c.in-Some.ensures.0) }

pub invariant_of-self-clause-counted : goal.invariant_of-self-clause-counted
invariant_of-self-clause-counted c =
    let links = c.args.self.now in
    let count = ap fifo_count c.push_reserved.ensures.items ∙ fifo_count_more (vec_items links.list) c.args.link in omega (arith, links.counted)

pub invariant_of-self-clause-heard : goal.invariant_of-self-clause-heard
invariant_of-self-clause-heard c =
    let links = c.args.self.now in
    (order_pushed links.order.rows c.join.new.self.rows (vec_items links.list) (vec_items c.push_reserved.new.self) c.args.link c.in-Some.pair c.push_reserved.ensures.items c.in-Some.ensures c.join.ensures links.heard links.meant).0

pub invariant_of-self-clause-meant : goal.invariant_of-self-clause-meant
invariant_of-self-clause-meant c =
    let links = c.args.self.now in
    (order_pushed links.order.rows c.join.new.self.rows (vec_items links.list) (vec_items c.push_reserved.new.self) c.args.link c.in-Some.pair c.push_reserved.ensures.items c.in-Some.ensures c.join.ensures links.heard links.meant).1

pub invariant_of-self-in_default-clause-counted : goal.invariant_of-self-in_default-clause-counted
invariant_of-self-in_default-clause-counted c =
    let links = c.args.self.now in
    let count = ap fifo_count c.push_reserved.ensures.items ∙ fifo_count_more (vec_items links.list) c.args.link in omega (arith, links.counted)

pub invariant_of-self-in_default-clause-heard : goal.invariant_of-self-in_default-clause-heard
invariant_of-self-in_default-clause-heard c =
    let links = c.args.self.now in
    (order_kept links.order.rows (vec_items links.list) (vec_items c.push_reserved.new.self) c.args.link c.push_reserved.ensures.items c.in_default.ensures links.heard links.meant).0

pub invariant_of-self-in_default-clause-meant : goal.invariant_of-self-in_default-clause-meant
invariant_of-self-in_default-clause-meant c =
    let links = c.args.self.now in
    (order_kept links.order.rows (vec_items links.list) (vec_items c.push_reserved.new.self) c.args.link c.push_reserved.ensures.items c.in_default.ensures links.heard links.meant).1
