use Rattle.std.proofs.Common.{refl, arith}
use Rattle.layout.proofs.Ascents.{found_skip, found_push}
use Rattle.layout.proofs.Sweeps.{trails_none, trails_skip, trails_push, trails_full, trails_rest}
use Rattle.layout.proofs.gaps.find_gaps.Goals as goal
use Rattle.layout.proofs.gaps.find_gaps.Goals.{then-free-end, else-free-end}

pub loop-item-init : goal.loop-item-init
loop-item-init g c =
    let same = c.into_iter-item-iterator.ensures.into_iter_gives in
    record {
      can = rw same c.requires.can;
      ends = rw same c.requires.ends;
      room = rw (same, c.requires.empty) (omega (arith, c.requires.few));
      found = rw c.requires.empty record { ascending = refl; within = tt; behind = tt };
      trails = rw (same, c.requires.empty) (trails_none g.I.Iterator.next_gives c.args.items c.args.capacity);
    }

pub loop-item-preserved : goal.loop-item-preserved
loop-item-preserved g c =
    let on = c.in-Some.ensures.goes.on c.loop-item.invariant.ends in
    let l = c.loop-item in
    elim c.if-free-end.branch [
      | then-free-end w ↦ record {
        can = on.0;
        ends = on.1;
        room = rw w.gaps-is (omega (arith, on.2));
        found = rw (w.gaps-is, w.push.ensures.items) (found_push c.args.capacity l.free c.min-end.result c.max-free.result l.gaps.items w.if-free-end.true (omega arith) (omega arith) (omega arith) l.invariant.found);
        trails = rw (w.gaps-is, w.push.ensures.items) (trails_push g.I.Iterator.next_gives c.args.items c.args.capacity l.item-iterator c.next.new.self l.free l.gaps.items l.invariant.trails c.in-Some.item c.in-Some.ensures.steps c.min-end.result c.max-free.result c.min-end.ensures c.max-free.ensures w.if-free-end.true);
      }
      | else-free-end w ↦ record {
        can = on.0;
        ends = on.1;
        room = rw w.gaps-is (omega (arith, on.2));
        found = rw w.gaps-is (found_skip c.args.capacity l.free c.max-free.result l.gaps.items (omega arith) l.invariant.found);
        trails = rw w.gaps-is (trails_skip g.I.Iterator.next_gives c.args.items c.args.capacity l.item-iterator c.next.new.self l.free l.gaps.items l.invariant.trails c.in-Some.item c.in-Some.ensures.steps c.min-end.result c.max-free.result c.min-end.ensures c.max-free.ensures w.if-free-end.false);
      }
    ]

pub returns-then-free-capacity : goal.returns-then-free-capacity
returns-then-free-capacity g c =
    let l = c.loop-item in
    let f = found_push c.args.capacity c.loop-item.free c.args.capacity c.args.capacity c.loop-item.gaps.items c.if-free-capacity.true (omega arith) (omega arith) (omega arith) c.loop-item.invariant.found in
    rw c.push-then-free-capacity.ensures.items record { gaps = trails_rest g.I.Iterator.next_gives c.args.items c.args.capacity l.item-iterator c.next.new.self l.free l.gaps.items l.invariant.trails c.in-None.ensures.steps c.if-free-capacity.true; ascending = f.ascending; within = f.within }

pub returns-else-free-capacity : goal.returns-else-free-capacity
returns-else-free-capacity g c =
    let l = c.loop-item in
    record { gaps = trails_full g.I.Iterator.next_gives c.args.items c.args.capacity l.item-iterator c.next.new.self l.free l.gaps.items l.invariant.trails c.in-None.ensures.steps c.if-free-capacity.false; ascending = c.loop-item.invariant.found.ascending; within = c.loop-item.invariant.found.within }
