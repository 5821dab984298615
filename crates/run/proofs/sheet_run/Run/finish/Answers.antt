use Rattle.std.proofs.Common.{◌<◌, ◌≤◌, set, refl, ◌∙◌, arith, length-set}
use Rattle.rules.specs.Runs.{finish, granted}
use Rattle.rules.specs.Sheets.{actor_count}
use Rattle.run.specs.declared.faults.RunFault.TheVariants.{Unknown, AlreadyStarted, NotRunning}
use Rattle.run.specs.Called.{sheet_of}
use Rattle.run.specs.Views.{Steps}
use Rattle.run.proofs.Stepping.{finish_unknown_steps, finish_idle_steps, finish_steps}
use Rattle.run.proofs.Onward.{goes_on}
use Rattle.run.proofs.Calling.{refused_call, same_but, other_number, idle_not_again}
use Rattle.run.proofs.sheet_run.Run.finish.Goals as goal
use Rattle.run.proofs.sheet_run.Run.finish.Goals.{After-end}

pub returns-then-a-actor_count : goal.returns-then-a-actor_count
returns-then-a-actor_count c =
    let run = c.args.self.now in
    let l : actor_count (sheet_of run) ≤ c.args.a = omega (arith, c.actor_count.ensures.value) in
    refused_call run (finish c.args.a) Unknown (other_number Unknown AlreadyStarted (λ e. omega arith)) (finish_unknown_steps (sheet_of run) run.records run.order.rows c.args.a l)

pub returns-then-not-is_running : goal.returns-then-not-is_running
returns-then-not-is_running c =
    let run = c.args.self.now in
    let l : c.args.a < actor_count (sheet_of run) = omega (arith, c.actor_count.ensures.value) in
    refused_call run (finish c.args.a) NotRunning idle_not_again (finish_idle_steps (sheet_of run) run.records run.order.rows c.args.a l c.if-not-is_running.ensures)

granted_steps : (c : After-end) →
    Steps (sheet_of c.args.self.now) (finish c.args.a) granted c.args.self.now.records c.args.self.now.order.rows (set c.args.self.now.records c.args.a c.end.new.self) c.args.self.now.order.rows
granted_steps c =
    let run = c.args.self.now in
    let l : c.args.a < actor_count (sheet_of run) = omega (arith, c.actor_count.ensures.value) in
    finish_steps (sheet_of run) run.records run.order.rows c.args.a c.end.new.self c.end.ensures l c.if-not-is_running.ensures

pub invariant_of-self : goal.invariant_of-self
invariant_of-self c =
    let run = c.args.self.now in
    let records = set run.records c.args.a c.end.new.self in record { long = length-set run.records c.args.a c.end.new.self ∙ run.long; reached = goes_on (sheet_of run) (finish c.args.a) granted run.records run.order.rows records run.order.rows run.reached (granted_steps c) }

pub returns : goal.returns
returns c =
    record { graph = refl; steps = granted_steps (goal.at.returns c).After-end; suits = tt; leaves = (same_but c.args.self.now.records c.args.a c.end.new.self, refl) }
