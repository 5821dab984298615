-- The objects that a graph shows to placing are those of its sheet, and the sheet can be placed.
use Rattle.std.proofs.Common.{◌≡◌, ℕ, ◌<◌, ◌≤◌, false, ltb, List, length, vec_items, vec_len, sym, ap, ◌∙◌, subst}
use Rattle.std.proofs.lemmas.List.{get_or-map}
use Rattle.std.proofs.lemmas.Bool.{lt-ltb, cond-true}
use Rattle.rules.specs.declared.memory.Object.{Object}
use Rattle.rules.specs.Sheets.{Sheet}
use Rattle.rules.specs.Objects.{objects, object_count, size}
use Rattle.rules.specs.Fitting.{is_grain}
use Rattle.rules.specs.Fabrics.{Meaning}
use Rattle.rules.specs.Layouts.{Lawful, RunsOn, Placeable}
use Rattle.rules.proofs.Questions.{table_from_test}
use Rattle.graph.specs.declared.sheet_graph.Graph.{Graph}
use Rattle.graph.specs.Excluding.{excluding, object_at}
use Rattle.graph.specs.Readings.{Holds}
use Rattle.graph.specs.Seats.{core_pair, touching_in}
use Rattle.graph.specs.Sizes.{size_at}
use Rattle.graph.proofs.Exclusive.{excluding_told, excluding_heard}
use Rattle.graph.proofs.Heads.{grain_held}
use Rattle.graph.proofs.Sheeted.{actors_are, objects_are, rows_heard, rows_meant, sheet_ordered}
use Rattle.layout.specs.Sheets.{OfSheet}
use Rattle.layout.specs.Worlds.{World, seen}

-- what placing sees of a graph
abbrev pub seen_of : Graph → World
seen_of g =
    seen (vec_len g.sheet.objects.list) (size_at (vec_items g.sheet.objects.list))
    (excluding g.sheet.links.order.rows (vec_items g.sheet.objects.list))
    (touching_in (vec_items g.sheet.actors) (vec_items g.sheet.objects.list))

-- the size of an object by its number
pub size_at_object : (os : List Object) (x : ℕ) → x < length os → size_at os x ≡ (object_at os x).size
size_at_object os x l = get_or-map (λ (o : Object). o.size) os x (record { producer = 0; consumer = 0; size = 0; delayed = false }) 0 l

module _ (g : Graph) (s : Sheet) (holds : Holds g.sheet s) where
  pub same_count : vec_len g.sheet.objects.list ≡ object_count s
  same_count = g.sheet.objects.list.ok.0 ∙ ap length (objects_are g.sheet s holds)

  same_size : (x : ℕ) → x < object_count s → size_at (vec_items g.sheet.objects.list) x ≡ size s x
  same_size x l = ap (λ os. size_at os x) (objects_are g.sheet s holds) ∙ size_at_object (objects s) x l

  pub of_graph : OfSheet (seen_of g) s
  of_graph =
      record {
        count = same_count;
        sizes = same_size;
        touched = λ x l.
            ap (λ os. touching_in (vec_items g.sheet.actors) os x) (objects_are g.sheet s holds)
            ∙ ap (λ actors. touching_in actors (objects s) x) (actors_are g.sheet s holds)
            ∙ cond-true (ltb x (object_count s)) (core_pair s.actors (object_at (objects s) x)) 0 (lt-ltb x (object_count s) l);
        excluding = λ x y k l. (
          (λ e.
              excluding_told g.sheet.links.order.rows s (rows_heard g.sheet s holds) x y
              (ap (λ os. excluding g.sheet.links.order.rows os x y) (sym (objects_are g.sheet s holds)) ∙ e)),
          (λ e.
              ap (λ os. excluding g.sheet.links.order.rows os x y) (objects_are g.sheet s holds)
              ∙ excluding_heard g.sheet.links.order.rows s (rows_meant g.sheet s holds) x y e),
        );
      }

  pub placeable : (m : Meaning) → Lawful m → RunsOn s m → Placeable s m
  placeable m lawful runs_on =
      record {
        ordered = sheet_ordered g.sheet s holds;
        few_objects = subst (λ n. n ≤ 256) same_count g.sheet.objects.few;
        sizes_in_range = λ x l.
            let k : x < vec_len g.sheet.objects.list = subst (λ n. x < n) (sym same_count) l in (
              subst (λ n. 0 < n) (same_size x l) (g.sheet.objects.filled x k),
              subst (λ n. n ≤ 16777216) (same_size x l) (g.sheet.objects.small x k),
            );
        grain_on_the_table =
            table_from_test s.machine.grain
            (ap is_grain (sym (grain_held (vec_items g.sheet.layers) (vec_items g.sheet.actors) (vec_items g.sheet.links.list) g.sheet.stage s holds))
            ∙ g.sheet.grained);
        lawful = lawful;
        runs_on = runs_on;
      }
