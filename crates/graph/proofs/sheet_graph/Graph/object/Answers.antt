use Rattle.std.proofs.Common.{◌≡◌, false, ltb, List, length, is_some, vec_items, ap, ◌∙◌, arith, rules}
use Rattle.std.specs.Option.{unwrap_or}
use Rattle.rules.specs.declared.memory.Object.{Object}
use Rattle.graph.specs.Excluding.{object_at}
use Rattle.graph.proofs.Told.{says_object}
use Rattle.graph.proofs.sheet_graph.Graph.object.Goals as goal

pub returns : goal.returns
returns c =
    let r = c.args.self.now.sheet in
    let none : Object = record { producer = 0; consumer = 0; size = 0; delayed = false } in
    let some : is_some c.copied.result ≡ ltb c.args.x (length (vec_items r.objects.list)) = search rules in
    let at : unwrap_or c.copied.result none ≡ object_at (vec_items r.objects.list) c.args.x =
    ap (λ o. unwrap_or o none) c.copied.ensures
    ∙ (c.get.ensures.lookup.4 (omega arith) none ∙ ap (λ (os : List Object). object_at os c.args.x) c.as_slice-objects.ensures.value) in
    says_object r c.args.x c.copied.result some at
