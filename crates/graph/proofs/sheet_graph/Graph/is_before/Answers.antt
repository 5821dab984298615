use Rattle.std.proofs.Common.{◌≡◌, ◌&&◌, ltb, vec_len, rules}
use Rattle.std.specs.Prelude.{IfSome}
use Rattle.graph.specs.Rows.{before}
use Rattle.graph.proofs.Told.{says_before}
use Rattle.graph.proofs.sheet_graph.Graph.is_before.Goals as goal

pub returns : goal.returns
returns c =
    let r = c.args.self.now.sheet in
    let known : c.are_below.result ≡ (ltb c.args.a (vec_len r.actors) && ltb c.args.b (vec_len r.actors)) = search rules in
    let some : IfSome c.then.result (λ t. t ≡ before r.links.order.rows c.args.a c.args.b) = search rules in
    says_before r c.args.a c.args.b c.are_below.result c.then.result known c.then.ensures.variant some
