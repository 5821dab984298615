use Rattle.std.proofs.Common.{replicate, refl}
use Rattle.graph.specs.Held.{sheet_held}
use Rattle.graph.proofs.Held.{few_held}
use Rattle.run.specs.Records.{idle}
use Rattle.run.proofs.Stepping.{shows_fresh}
use Rattle.run.proofs.Onward.{reached_fresh}
use Rattle.run.proofs.sheet_run.Run.new.Goals as goal

pub invariant_of-result : goal.invariant_of-result
invariant_of-result c =
    let r = c.args.graph.now.sheet in
    let rows = c.order_table.result.rows in
    record { long = refl; reached = reached_fresh (sheet_held r) (replicate 64 idle) rows (shows_fresh (sheet_held r) rows (few_held r) c.order_table.ensures) }

pub returns : goal.returns
returns c =
    let r = c.args.graph.now.sheet in
    record { graph = refl; state = shows_fresh (sheet_held r) c.order_table.result.rows (few_held r) c.order_table.ensures }
