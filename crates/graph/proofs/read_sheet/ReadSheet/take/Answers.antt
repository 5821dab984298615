use Rattle.rules.specs.declared.sheet.Entry.TheVariants.{OnMachine, ByFit, WithLayer, NextActor}
use Rattle.graph.proofs.Took.{took, sheet_machine, sheet_fit, sheet_layer, sheet_actor}
use Rattle.graph.proofs.read_sheet.ReadSheet.take.Goals as goal

pub returns-in-OnMachine-clause-took : goal.returns-in-OnMachine-clause-took
returns-in-OnMachine-clause-took c =
    let s = c.args.self.now in
    let m = c.in-OnMachine.machine in
    took s c.take_machine.new.self c.args.entry (OnMachine m) _ c.take_machine.result c.in-OnMachine.is (sheet_machine s m) c.take_machine.ensures.took

pub returns-in-ByFit-clause-took : goal.returns-in-ByFit-clause-took
returns-in-ByFit-clause-took c =
    let s = c.args.self.now in
    let f = c.in-ByFit.fit in
    took s c.take_fit.new.self c.args.entry (ByFit f) _ c.take_fit.result c.in-ByFit.is (sheet_fit s f) c.take_fit.ensures.took

pub returns-in-WithLayer-clause-took : goal.returns-in-WithLayer-clause-took
returns-in-WithLayer-clause-took c =
    let s = c.args.self.now in
    let l = c.in-WithLayer.layer in
    took s c.take_layer.new.self c.args.entry (WithLayer l) _ c.take_layer.result c.in-WithLayer.is (sheet_layer s l) c.take_layer.ensures.took

pub returns-in-NextActor-clause-took : goal.returns-in-NextActor-clause-took
returns-in-NextActor-clause-took c =
    let s = c.args.self.now in
    let a = c.in-NextActor.actor in
    took s c.take_actor.new.self c.args.entry (NextActor a) _ c.take_actor.result c.in-NextActor.is (sheet_actor s a) c.take_actor.ensures.took
