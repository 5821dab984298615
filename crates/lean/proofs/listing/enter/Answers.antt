use Rattle.std.proofs.Common.{◌≡◌, ◌+◌, ◌<◌, true, is_ok, length, sym, refl, ◌∙◌, subst, arith, w64, to_z, of_z}
use Rattle.std.proofs.lemmas.List.{length-take-le}
use Rattle.std.proofs.lemmas.Int.{to_z-of_z}
use Rattle.std.proofs.lemmas.Bool.{lt-ltb, both_ways}
use Rattle.queue.specs.Waiting.{waiting, capacity}
use Rattle.lean.specs.declared.ready.ReadyActor.{ReadyActor}
use Rattle.lean.specs.Waiting.{is_free, Entered}
use Rattle.lean.proofs.Waits.{given_ok, free_told, free_heard, room, queued_more, entered_none, entered_skip, entered_more}
use Rattle.lean.proofs.listing.enter.Goals as goal
use Rattle.lean.proofs.listing.enter.Goals.{then-not-has+then-is_free, else-not-has, else-not-has-via-then-not-has+else-is_free, else-not-has-via-else-not-has}

pub loop-a-init : goal.loop-a-init
loop-a-init c =
    (refl, refl, c.requires.queued, entered_none c.args.order.now.rows c.args.listed c.args.entered)

pub loop-a-preserved : goal.loop-a-preserved
loop-a-preserved c =
    let inv = c.loop-a.invariant in
    let links = c.args.links.now in
    let count = c.args.count in
    let listed = c.args.listed in
    let rows = c.args.order.now.rows in
    let all = c.loop-a.all in
    let a = c.loop-a.a in
    let ws = waiting c.loop-a.queue in
    elim c.if-not-has.branch [
      | then-not-has+then-is_free w ↦
          let x : ReadyActor = record { net = to_z w64 (of_z w64 w.net_change-net.result); actor = a } in
          let fresh = sym c.has.ensures ∙ w.if-not-has.true in
          let long : length ws ≡ c.loop-a.queue.len = length-take-le c.loop-a.queue.len c.loop-a.queue.slots.now c.loop-a.queue.within in
          let less : c.loop-a.queue.len < capacity c.loop-a.queue =
          let r = room links count listed all ws ws inv.2 a c.loop-a-test.true fresh in omega (arith, c.requires.room, inv.0) in
          let pushed : is_ok w.push.result ≡ true = w.push.ensures.room ∙ lt-ltb c.loop-a.queue.len (capacity c.loop-a.queue) less in
          let net = to_z-of_z w64 w.net_change-net.result (record { sfits = w.net_change-net.type_inv }) ∙ w.net_change-net.ensures in
          let q = queued_more links count listed all ws (waiting w.push.new.self) inv.2 x w.with-all.result c.requires.small c.loop-a-test.true fresh net
          w.with-all.ensures.bits (given_ok w.push.result pushed w.push.ensures.items).1 in
          let e = entered_more rows listed a c.args.entered all w.with-all.result (omega (arith, c.requires.small, c.loop-a-test.true)) w.with-all.ensures.bits inv.3
          (free_told rows c.args.order.now.long listed a (sym w.is_free.ensures ∙ w.if-is_free.true)) in
          rw (w.queue-is, w.all-is) (w.push.ensures.long ∙ inv.0, w.push.ensures.lender ∙ inv.1, q, e)
      | else-not-has w ↦
          let e : Entered rows listed (a + 1) c.args.entered all = entered_skip rows listed a c.args.entered all inv.3
          (elim w.else-not-has.branch [
            | else-not-has-via-then-not-has+else-is_free v ↦ λ free. absurd (both_ways (is_free rows listed a) (sym v.is_free.ensures ∙ v.if-is_free.false) (free_heard rows c.args.order.now.long listed a free))
            | else-not-has-via-else-not-has v ↦ λ free. sym c.has.ensures ∙ v.if-not-has.false
          ]) in
          rw (w.queue-is, w.all-is) (inv.0, inv.1, inv.2, e)
    ]

pub returns : goal.returns
returns c =
    let inv = c.loop-a.invariant in
    let end : c.loop-a.a ≡ c.args.count = omega arith in
    record {
      long = inv.0;
      lender = inv.1;
      queued = inv.2;
      entered = subst (λ n. Entered c.args.order.now.rows c.args.listed n c.args.entered c.loop-a.all) end inv.3;
    }
