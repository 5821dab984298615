use Rattle.std.proofs.Common.{◌≡◌, ◌≤◌, length, take, [], ◌∷◌, ◌++◌, vec_items, refl, sym, ap, ◌∙◌, subst, arith}
use Rattle.std.proofs.lemmas.List.{length-map, length-take-le}
use Rattle.std.proofs.lemmas.Result.{err_from_is_err_and}
use Rattle.queue.specs.Waiting.{waiting}
use Rattle.layout.specs.declared.spots.Spot.{Spot}
use Rattle.layout.specs.Banks.{bank_over}
use Rattle.layout.specs.Items.{place_of}
use Rattle.layout.specs.Spots.{homes_of}
use Rattle.layout.specs.Turns.{objects_at, Wait}
use Rattle.layout.specs.Worlds.{Unsettled}
use Rattle.layout.proofs.Asked.{cases_err}
use Rattle.layout.proofs.Gathers.{few_wait, objects_known}
use Rattle.layout.proofs.Settling.{next_settled}
use Rattle.layout.proofs.Progress.{progress_first, progress_own, progress_lacks, progress_more, progress_last}
use Rattle.layout.proofs.plan_layout.Layout.place_next.Goals as goal

pub loop-next-init : goal.loop-next-init
loop-next-init g c =
    let placer = c.args.placer.now in
    let sizes = g.W.ObjectSet.sizes placer.world.now in
    let spots = c.args.self.now.spots.items in
    let queue = c.in_ok-queue.queue in
    let waits = subst (λ ss. Wait sizes (objects_at (homes_of ss) placer.bank) (waiting queue)) c.as_slice.ensures.value c.in_ok-queue.ensures.waits.0 in
    let few = few_wait sizes (homes_of spots) placer.bank (waiting queue) waits in
    record {
      progress = rw c.clear.ensures (progress_first sizes (g.W.ObjectSet.excluding placer.world.now) placer.space.capacity placer.space.grain.bytes placer.bank (g.R.FitRule.answers placer.rule.now) spots (waiting queue) waits);
      few = omega (arith, few, length-take-le queue.len queue.slots.now queue.within, length-map spots (λ (s : Spot). s.homes), c.args.self.now.spots.ok, c.args.self.now.spotted, c.clear.new.self.list.ok, ap length c.clear.ensures);
      spots = refl;
      banks = refl;
    }

pub take_turn-requires-clause-known : goal.take_turn-requires-clause-known
take_turn-requires-clause-known g c =
    let placer = c.args.placer.now in
    let spots = c.args.self.now.spots.items in
    let l = c.loop-next in
    let own = progress_own (g.W.ObjectSet.sizes placer.world.now) (g.W.ObjectSet.excluding placer.world.now) placer.space.capacity placer.space.grain.bytes placer.bank (g.R.FitRule.answers placer.rule.now) spots
    l.self.spots.items l.self.items.list.items (waiting l.queue) l.invariant.progress c.in-Some.next (waiting c.pop.new.self) c.in-Some.ensures.items.1 c.in-Some.ensures.items.2 in
    omega (arith, objects_known (homes_of spots) placer.bank c.in-Some.next.object own, length-map spots (λ (s : Spot). s.homes), c.args.self.now.spots.ok, c.requires.spotted)

pub loop-next-preserved : goal.loop-next-preserved
loop-next-preserved g c =
    let placer = c.args.placer.now in
    let spots = c.args.self.now.spots.items in
    let l = c.loop-next in
    let new = c.take_turn.new.self in
    let own = progress_own (g.W.ObjectSet.sizes placer.world.now) (g.W.ObjectSet.excluding placer.world.now) placer.space.capacity placer.space.grain.bytes placer.bank (g.R.FitRule.answers placer.rule.now) spots
    l.self.spots.items l.self.items.list.items (waiting l.queue) l.invariant.progress c.in-Some.next (waiting c.pop.new.self) c.in-Some.ensures.items.1 c.in-Some.ensures.items.2 in
    let known = objects_known (homes_of spots) placer.bank c.in-Some.next.object own in
    record {
      progress =
          progress_more (g.W.ObjectSet.sizes placer.world.now) (g.W.ObjectSet.excluding placer.world.now) placer.space.capacity placer.space.grain.bytes placer.bank (g.R.FitRule.answers placer.rule.now) spots
          l.self.spots.items l.self.items.list.items (waiting l.queue) l.invariant.progress c.in-Some.next (waiting c.pop.new.self) c.in-Some.ensures.items.1 c.in-Some.ensures.items.2
          new.items.list.items new.spots.items c.in_ok-take_turn.ensures.outcome placer.numbered (omega (arith, known, length-map spots (λ (s : Spot). s.homes), c.args.self.now.spots.ok, l.self.spots.ok, l.invariant.spots)) new.items.sorted;
      few = omega (arith, c.in-Some.ensures.items.0, c.take_turn.ensures.items, l.invariant.few);
      spots = c.take_turn.ensures.spots ∙ l.invariant.spots;
      banks = c.take_turn.ensures.banks ∙ l.invariant.banks;
    }

pub returns-in_err-take_turn-clause-outcome : goal.returns-in_err-take_turn-clause-outcome
returns-in_err-take_turn-clause-outcome g c =
    let placer = c.args.placer.now in
    let sizes = g.W.ObjectSet.sizes placer.world.now in
    let excluding = g.W.ObjectSet.excluding placer.world.now in
    let rule = g.R.FitRule.answers placer.rule.now in
    let spots = c.args.self.now.spots.items in
    let l = c.loop-next in
    let queue = c.in_ok-queue.queue in
    let waits = subst (λ ss. Wait sizes (objects_at (homes_of ss) placer.bank) (waiting queue)) c.as_slice.ensures.value c.in_ok-queue.ensures.waits.0 in
    let few = few_wait sizes (homes_of spots) placer.bank (waiting queue) waits in
    let fits : length (objects_at (homes_of spots) placer.bank) ≤ length c.args.memory.now = omega (arith, few, length-take-le queue.len queue.slots.now queue.within, c.in_ok-queue.ensures.waits.1) in
    let bank = bank_over sizes excluding placer.space.capacity placer.space.grain.bytes (objects_at (homes_of spots) placer.bank) in
    let told = c.in_err-take_turn.ensures.outcome in
    let lacks = progress_lacks sizes excluding placer.space.capacity placer.space.grain.bytes placer.bank rule spots
    l.self.spots.items l.self.items.list.items (waiting l.queue) l.invariant.progress c.in-Some.next (waiting c.pop.new.self) c.in-Some.ensures.items.1 c.in-Some.ensures.items.2 told.1 in
    let p = err_from_is_err_and c.from_residual-in_err-take_turn.result c.from_residual-in_err-take_turn.ensures.1 in
    cases_err _ _ c.from_residual-in_err-take_turn.result p.0 p.1
    (subst (λ e. Unsettled bank rule (length c.args.memory.now) placer.bank e) (sym (p.2 ∙ told.0)) (refl, fits, (place_of l.self.items.list.items, lacks)))

pub returns-clause-outcome : goal.returns-clause-outcome
returns-clause-outcome g c =
    let placer = c.args.placer.now in
    let sizes = g.W.ObjectSet.sizes placer.world.now in
    let excluding = g.W.ObjectSet.excluding placer.world.now in
    let rule = g.R.FitRule.answers placer.rule.now in
    let spots = c.args.self.now.spots.items in
    let l = c.loop-next in
    let queue = c.in_ok-queue.queue in
    let waits = subst (λ ss. Wait sizes (objects_at (homes_of ss) placer.bank) (waiting queue)) c.as_slice.ensures.value c.in_ok-queue.ensures.waits.0 in
    let few = few_wait sizes (homes_of spots) placer.bank (waiting queue) waits in
    let fits : length (objects_at (homes_of spots) placer.bank) ≤ length c.args.memory.now = omega (arith, few, length-take-le queue.len queue.slots.now queue.within, c.in_ok-queue.ensures.waits.1) in
    let none : waiting l.queue ≡ [] = ap (λ n. take n l.queue.slots.now) c.in_default.ensures.items.0 in
    let filled = progress_last sizes excluding placer.space.capacity placer.space.grain.bytes placer.bank rule spots
    l.self.spots.items l.self.items.list.items (waiting l.queue) none l.invariant.progress c.footprint.result c.footprint.ensures in
    next_settled sizes excluding placer.space.capacity placer.space.grain.bytes (length c.args.memory.now) placer.bank rule spots l.self.spots.items l.self.items.list.items c.footprint.result c.args.self.now.banks.items c.push_reserved.new.self.items placer.numbered filled l.invariant.progress.noted
    (c.push_reserved.ensures.items ∙ ap (λ bs. vec_items bs ++ record { capacity = placer.space.capacity; footprint = c.footprint.result } ∷ []) l.invariant.banks) fits
