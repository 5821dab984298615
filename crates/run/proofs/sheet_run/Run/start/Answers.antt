use Rattle.std.proofs.Common.{◌<◌, ◌≤◌, set, refl, ◌∙◌, arith, length-set}
use Rattle.rules.specs.Runs.{start, granted}
use Rattle.rules.specs.Sheets.{actor_count}
use Rattle.run.specs.declared.faults.RunFault.TheVariants.{Unknown, AlreadyStarted, NotRunning, Early}
use Rattle.run.specs.Called.{sheet_of}
use Rattle.run.specs.Views.{Steps}
use Rattle.run.proofs.Stepping.{start_unknown_steps, start_again_steps, start_early_steps, start_steps}
use Rattle.run.proofs.Onward.{goes_on}
use Rattle.run.proofs.Calling.{refused_call, same_but, other_number, again_not_idle}
use Rattle.run.proofs.sheet_run.Run.start.Goals as goal
use Rattle.run.proofs.sheet_run.Run.start.Goals.{After-begin}

pub returns-then-a-actor_count : goal.returns-then-a-actor_count
returns-then-a-actor_count c =
    let run = c.args.self.now in
    let l : actor_count (sheet_of run) ≤ c.args.a = omega (arith, c.actor_count.ensures.value) in
    refused_call run (start c.args.a) Unknown (other_number Unknown NotRunning (λ e. omega arith)) (start_unknown_steps (sheet_of run) run.records run.order.rows c.args.a l)

pub returns-then-not-is_waiting : goal.returns-then-not-is_waiting
returns-then-not-is_waiting c =
    let run = c.args.self.now in
    let l : c.args.a < actor_count (sheet_of run) = omega (arith, c.actor_count.ensures.value) in
    refused_call run (start c.args.a) AlreadyStarted again_not_idle (start_again_steps (sheet_of run) run.records run.order.rows c.args.a l c.if-not-is_waiting.ensures)

pub returns-then-not-is_free : goal.returns-then-not-is_free
returns-then-not-is_free c =
    let run = c.args.self.now in
    let l : c.args.a < actor_count (sheet_of run) = omega (arith, c.actor_count.ensures.value) in
    refused_call run (start c.args.a) Early (other_number Early NotRunning (λ e. omega arith))
    (start_early_steps (sheet_of run) run.records run.order.rows c.args.a l c.if-not-is_waiting.ensures c.if-not-is_free.ensures)

granted_steps : (c : After-begin) →
    Steps (sheet_of c.args.self.now) (start c.args.a) granted c.args.self.now.records c.args.self.now.order.rows (set c.args.self.now.records c.args.a c.begin.new.self) c.args.self.now.order.rows
granted_steps c =
    let run = c.args.self.now in
    let l : c.args.a < actor_count (sheet_of run) = omega (arith, c.actor_count.ensures.value) in
    start_steps (sheet_of run) run.records run.order.rows c.args.a c.begin.new.self c.begin.ensures l c.if-not-is_waiting.ensures c.if-not-is_free.ensures

pub invariant_of-self : goal.invariant_of-self
invariant_of-self c =
    let run = c.args.self.now in
    let records = set run.records c.args.a c.begin.new.self in record { long = length-set run.records c.args.a c.begin.new.self ∙ run.long; reached = goes_on (sheet_of run) (start c.args.a) granted run.records run.order.rows records run.order.rows run.reached (granted_steps c) }

pub returns : goal.returns
returns c =
    record { graph = refl; steps = granted_steps (goal.at.returns c).After-begin; suits = tt; leaves = (same_but c.args.self.now.records c.args.a c.begin.new.self, refl) }
