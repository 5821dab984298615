use Rattle.std.proofs.Common.{leb, ◌∙◌, sym, subst, rules, tests, arith}
use Rattle.std.specs.List.Sorted.{IsNonDecreasingBy}
use Rattle.std.proofs.lemmas.Bool.{cond-true}
use Rattle.std.proofs.lemmas.List.Sorted.{IsPartitionedBy-leb, IsPartitionPoint-from_clause}
use Rattle.layout.specs.declared.items.Item.{Item}
use Rattle.layout.proofs.Starting.{put_in_order}
use Rattle.layout.proofs.items.Items.insert.Goals as goal

pub invariant_of-self-clause-sorted : goal.invariant_of-self-clause-sorted
invariant_of-self-clause-sorted c =
    let found = c.deref.result.now in
    let at = c.partition_point-at.result in
    let ok = c.insert.ensures.succeeds (omega (arith, c.args.self.now.room)) in
    let sorted = subst (IsNonDecreasingBy (λ (k : Item). k.on.start)) (sym c.deref.ensures.value) c.args.self.now.sorted in
    let parted = IsPartitionPoint-from_clause (λ (k : Item). leb k.on.start c.args.item.on.start) found at c.partition_point-at.ensures.partitioned
    (IsPartitionedBy-leb (λ (k : Item). k.on.start) found c.args.item.on.start sorted) (λ a r q k. search (rules, tests)) in
    subst (IsNonDecreasingBy (λ (k : Item). k.on.start)) (sym (c.insert.ensures.items ∙ cond-true _ _ _ ok))
    (put_in_order c.args.self.now.list.items found at c.args.item c.deref.ensures.value c.partition_point-at.ensures.bound parted c.args.self.now.sorted)
