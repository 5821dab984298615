use Rattle.std.proofs.Common.{◌≡◌, ltb, vec_items, vec_len, rules}
use Rattle.std.specs.Prelude.{IfSome}
use Rattle.graph.specs.Seats.{touching_in}
use Rattle.graph.proofs.Told.{says_touching}
use Rattle.graph.proofs.sheet_graph.Graph.cores_touching.Goals as goal

pub returns : goal.returns
returns c =
    let r = c.args.self.now.sheet in
    let known : ltb c.args.x c.len.result ≡ ltb c.args.x (vec_len r.objects.list) = search rules in
    let some : IfSome c.then.result (λ set. set ≡ touching_in (vec_items r.actors) (vec_items r.objects.list) c.args.x) = search rules in
    says_touching r c.args.x _ c.then.result known c.then.ensures.variant some
