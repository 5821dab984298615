use Rattle.std.proofs.Common.{Some, subst}
use Rattle.graph.specs.Questions.{IsObject}
use Rattle.run.specs.Called.{sheet_of}
use Rattle.run.proofs.Told.{says_live}
use Rattle.run.proofs.sheet_run.Run.is_live.Goals as goal

pub returns : goal.returns
returns c =
    let run = c.args.self.now in
    let o = c.in_ok-object.object in
    let known : IsObject (sheet_of run) c.args.x (Some o) = subst (λ q. IsObject (sheet_of run) c.args.x q) c.in_ok-object.was c.object.ensures in
    says_live (sheet_of run) run.records run.order.rows o c.args.x c.lives.result known.0 known.1 c.lives.ensures
