-- What a graph holds is the sheet's.
use Rattle.std.proofs.Common.{◌≡◌, ℕ, true, false, length, vec_items, vec_len, sym, ap, ◌∙◌, subst, arith}
use Rattle.rules.specs.Lists.{Every}
use Rattle.rules.specs.Sheets.{Sheet, actor_count}
use Rattle.rules.specs.Objects.{objects}
use Rattle.rules.specs.Order.{Ends, OrderedSheet}
use Rattle.graph.specs.declared.read_sheet.ReadSheet.{ReadSheet}
use Rattle.graph.specs.Orders.{Heard, Meant}
use Rattle.graph.specs.Readings.{Holds}
use Rattle.graph.proofs.Known.{all_ends}
use Rattle.graph.proofs.Held.{held_is, objects_of_held}

module _ (r : ReadSheet) (s : Sheet) (holds : Holds r s) where
  pub actors_are : vec_items r.actors ≡ s.actors
  actors_are = ap (λ (t : Sheet). t.actors) (held_is r s holds)

  pub count_is : vec_len r.actors ≡ actor_count s
  count_is = r.actors.ok.0 ∙ ap length actors_are

  pub links_are : vec_items r.links.list ≡ s.links
  links_are = ap (λ (t : Sheet). t.links) (held_is r s holds)

  pub objects_are : vec_items r.objects.list ≡ objects s
  objects_are = objects_of_held r ∙ ap objects (held_is r s holds)

  -- the table holds the sheet's order
  pub rows_heard : Heard r.links.order.rows s.links
  rows_heard = subst (λ ks. Heard r.links.order.rows ks) links_are r.links.heard

  pub rows_meant : Meant r.links.order.rows s.links
  rows_meant = subst (λ ks. Meant r.links.order.rows ks) links_are r.links.meant

  -- links join actors, and no actor is before itself
  pub sheet_ordered : OrderedSheet s
  sheet_ordered =
      record {
        ends =
            subst (λ n. Every (Ends n) s.links) count_is
            (subst (λ ks. Every (Ends (vec_len r.actors)) ks) links_are (all_ends (vec_len r.actors) (vec_items r.links.list) r.known));
        no_circle = λ a b.
            let heard = rows_heard a a b in
            let z : false ≡ true = sym (r.links.order.irreflexive a) ∙ heard in
            let k : ◌≡◌ {A = ℕ} 0 1 = cc in omega arith;
      }
