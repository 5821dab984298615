use Rattle.std.proofs.Common.{◌≡◌, ◌≤◌, length, take, arith, rules}
use Rattle.rules.specs.Sheets.{actor_count}
use Rattle.run.specs.Called.{sheet_of}
use Rattle.run.specs.Records.{are_done}
use Rattle.run.proofs.Overall.{over_told}
use Rattle.run.proofs.sheet_run.Run.is_over.Goals as goal

pub returns : goal.returns
returns c =
    let run = c.args.self.now in
    let n = actor_count (sheet_of run) in
    let l : n ≤ length run.records = omega (arith, run.long, c.actor_count-count.ensures.value, c.actor_count-count.ensures.few) in
    let told : c.are_done.result ≡ are_done (take n run.records) = search rules in
    over_told (sheet_of run) run.records c.are_done.result l told
