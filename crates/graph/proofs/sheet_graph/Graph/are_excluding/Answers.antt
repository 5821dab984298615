use Rattle.std.proofs.Common.{◌≡◌, ◌&&◌, ltb, vec_items, vec_len, rules}
use Rattle.std.specs.Prelude.{IfSome}
use Rattle.graph.specs.RowBits.{row_bit}
use Rattle.graph.proofs.Told.{says_excludes}
use Rattle.graph.proofs.sheet_graph.Graph.are_excluding.Goals as goal

pub returns : goal.returns
returns c =
    let r = c.args.self.now.sheet in
    let known : c.are_below.result ≡ (ltb c.args.x (vec_len r.objects.list) && ltb c.args.y (vec_len r.objects.list)) = search rules in
    let some : IfSome c.then.result (λ t. t ≡ row_bit (vec_items c.args.self.now.exclusions.rows) c.args.x c.args.y) = search rules in
    says_excludes r c.args.x c.args.y c.are_below.result _ c.then.result known c.then.ensures.variant some (c.args.self.now.tied c.args.x c.args.y)
