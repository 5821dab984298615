use Rattle.std.proofs.Common.{◌≡◌, ◌<◌, [], length, take, sym, ap, subst, arith}
use Rattle.std.proofs.lemmas.List.{take_more_set, take_all}
use Rattle.words.specs.Words.{bit}
use Rattle.words.proofs.Bits.{bit_zero}
use Rattle.queue.specs.Waiting.{waiting}
use Rattle.rules.specs.Lean.{Lean}
use Rattle.lean.specs.Waiting.{Queued}
use Rattle.lean.proofs.Waits.{count_none, served_room, queued_less, listed_more}
use Rattle.lean.proofs.Going.{Going, going_none, going_more, counted_all, lean_whole}
use Rattle.lean.proofs.listing.list.Goals as goal

pub loop-next-init : goal.loop-next-init
loop-next-init c =
    let count = length c.args.out.now in
    let made = c.enter-entered.ensures in (
      omega (arith, made.long, c.requires.room, ap length c.new-queue.ensures.slots),
      sym (count_none (bit 0) count bit_zero),
      made.queued,
      λ s d. going_none c.args.links.now c.args.order.now.rows count s d (waiting c.enter-entered.new.queue) c.enter-entered.result made.queued made.entered,
    )

-- there is room for the actor that is served
in_room : (c : goal.In-Some) → c.loop-next.n < length c.loop-next.out
in_room c =
    let inv = c.loop-next.invariant in
    let r = served_room c.args.links.now (length c.args.out.now) c.loop-next.listed c.loop-next.entered (waiting c.loop-next.queue) (waiting c.pop.new.self)
    inv.2 c.in-Some.next c.in-Some.ensures.items.1 in
    omega (arith, inv.1, c.loop-next.auto.out)

pub offset_bounds-out-n : goal.offset_bounds-out-n
offset_bounds-out-n c = let r = in_room c in omega (arith, c.requires.small, c.loop-next.auto.out)

pub bounds-out-n : goal.bounds-out-n
bounds-out-n c = in_room c

pub overflow_add-n : goal.overflow_add-n
overflow_add-n c = let r = in_room c in omega (arith, c.requires.small, c.loop-next.auto.out)

pub enter-entered-requires-in-Some : goal.enter-entered-requires-in-Some
enter-entered-requires-in-Some c =
    let inv = c.loop-next.invariant in
    let popped = c.in-Some.ensures in
    record {
      room = omega (arith, inv.0, popped.long);
      small = c.requires.small;
      few = c.requires.few;
      queued = queued_less c.args.links.now (length c.args.out.now) c.loop-next.listed c.loop-next.entered (waiting c.loop-next.queue) (waiting c.pop.new.self)
          inv.2 c.in-Some.next popped.items.1 c.with-listed.result c.requires.small c.with-listed.ensures.bits;
    }

pub loop-next-smaller : goal.loop-next-smaller
loop-next-smaller c =
    let inv = c.loop-next.invariant in
    let r = served_room c.args.links.now (length c.args.out.now) c.loop-next.listed c.loop-next.entered (waiting c.loop-next.queue) (waiting c.pop.new.self)
    inv.2 c.in-Some.next c.in-Some.ensures.items.1 in
    omega (arith, inv.1)

pub loop-next-preserved : goal.loop-next-preserved
loop-next-preserved c =
    let inv = c.loop-next.invariant in
    let popped = c.in-Some.ensures in
    let made = c.enter-entered-in-Some.ensures in
    let links = c.args.links.now in
    let rows = c.args.order.now.rows in
    let count = length c.args.out.now in
    let out = c.loop-next.out in
    let n = c.loop-next.n in
    let w = c.in-Some.next in
    let ws = waiting c.loop-next.queue in
    let vs = waiting c.pop.new.self in
    let more = listed_more links count c.loop-next.listed c.loop-next.entered ws vs inv.2 w popped.items.1 c.with-listed.result c.requires.small c.with-listed.ensures.bits in
    let room : n < length out =
    let r = served_room links count c.loop-next.listed c.loop-next.entered ws vs inv.2 w popped.items.1 in omega (arith, inv.1, c.loop-next.auto.out) in (
      omega (arith, inv.0, popped.long, made.long),
      omega (arith, inv.1, more),
      made.queued,
      λ s d. subst (λ front. Going s front c.with-listed.result c.enter-entered-in-Some.result) (sym (take_more_set out n w.actor room))
          (going_more links rows count s d c.requires.small c.loop-next.listed c.loop-next.entered ws vs inv.2 w popped.items.1 popped.items.2
          c.with-listed.result c.with-listed.ensures.bits c.enter-entered-in-Some.result (waiting c.enter-entered-in-Some.new.queue) made.queued made.entered
          (take n out) (inv.3 s d)),
    )

pub returns : goal.returns
returns c s d =
    let inv = c.loop-next.invariant in
    let links = c.args.links.now in
    let rows = c.args.order.now.rows in
    let count = length c.args.out.now in
    let out = c.loop-next.out in
    let n = c.loop-next.n in
    let none : waiting c.loop-next.queue ≡ [] = ap (λ k. take k c.loop-next.queue.slots.now) c.in_default.ensures.items.0 in
    let q : Queued links count c.loop-next.listed c.loop-next.entered [] = subst (Queued links count c.loop-next.listed c.loop-next.entered) none inv.2 in
    let all = counted_all links rows count s d c.loop-next.listed c.loop-next.entered q (take n out) (inv.3 s d) in
    let whole : take n out ≡ out = take_all n out (omega (arith, inv.1, all, c.loop-next.auto.out)) in
    subst (Lean s) whole (lean_whole links rows count s d c.loop-next.listed c.loop-next.entered q (take n out) (inv.3 s d))
