use Rattle.std.proofs.Common.{◌<◌, ◌≤◌, length, sym, arith}
use Rattle.rules.specs.Sheets.{actor_count}
use Rattle.run.specs.Called.{sheet_of}
use Rattle.run.specs.Records.{idle}
use Rattle.run.proofs.Recorded.{phases_at, phases_past}
use Rattle.run.proofs.sheet_run.Run.phase_of.Goals as goal

pub returns-then-a-actor_count : goal.returns-then-a-actor_count
returns-then-a-actor_count c =
    let run = c.args.self.now in
    let l : c.args.a < actor_count (sheet_of run) = omega (arith, c.actor_count.ensures.value) in
    let h : c.args.a < length run.records = omega (arith, run.long, c.actor_count.ensures.few) in
    sym (phases_at (actor_count (sheet_of run)) run.records c.args.a idle l h)

pub returns-else-a-actor_count : goal.returns-else-a-actor_count
returns-else-a-actor_count c =
    let run = c.args.self.now in
    let l : actor_count (sheet_of run) ≤ c.args.a = omega (arith, c.actor_count.ensures.value) in
    sym (phases_past (actor_count (sheet_of run)) run.records c.args.a l)
