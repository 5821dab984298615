-- How a placing ends.
use Rattle.std.proofs.Common.{◌≡◌, ℕ, [], ◌<◌, ◌≤◌, true, false, length, get_or, Some, None, Ok, Err, vec_items, vec_len, sym, refl, ap, ◌∙◌, subst, arith}
use Rattle.std.proofs.lemmas.List.{length-map, get_or-map}
use Rattle.rules.specs.declared.sheet.Machine.{Machine}
use Rattle.rules.specs.declared.sheet.Fit.{Fit}
use Rattle.rules.specs.Sheets.{Sheet}
use Rattle.rules.specs.Objects.{object_count}
use Rattle.rules.specs.Fitting.{Rule, IsFitRule}
use Rattle.rules.specs.Fabrics.{Meaning}
use Rattle.rules.specs.Placing.{Footprint}
use Rattle.rules.specs.Layouts.{Lawful, RunsOn, LaidOut, bank_of}
use Rattle.rules.proofs.Promising.{the_whole_promise}
use Rattle.graph.specs.Seats.{all_on}
use Rattle.graph.specs.Stages.{head_of}
use Rattle.graph.proofs.Heads.{headed_holds, unheaded}
use Rattle.graph.proofs.Seated.{all_runs_on, runs_all_on}
use Rattle.layout.specs.Worlds.{AllSettled, LacksRoom, NotSettled, use_at}
use Rattle.layout.specs.declared.faults.LayoutFault.{LayoutFault}
use Rattle.layout.specs.declared.faults.LayoutFault.TheVariants.{NoGap as Unheld, ShortMemory as Short}
use Rattle.layout.proofs.OnSheets.{settled_laid_out, settled_footprint, lacks_no_room}
use Rattle.layout.specs.declared.spots.Spot.{Spot}
use Rattle.layout.proofs.Whole.{homes_length, homes_at, enough_memory}
use Rattle.map.proofs.OnSheets.{settled_map}
use Rattle.planner.specs.declared.faults.JobFault.TheVariants.{Empty, LacksCore, NoGap, ShortMemory}
use Rattle.planner.specs.declared.plan.Plan.{Plan}
use Rattle.planner.specs.Reports.{fault_of}
use Rattle.planner.specs.Plans.{HasRead, PlacesBy, none_read, short_memory, lacks_core, no_gap, places, PlacedAs, places_of, footprint_of}
use Rattle.planner.proofs.OfGraph.{seen_of, same_count, of_graph, placeable}

module _ (p : Plan) (m : Meaning) (rule : Rule) (memory : ℕ) where
  -- no sheet was read
  pub ends_empty : head_of p.graph.sheet.stage ≡ None → PlacesBy m rule memory p p (Err Empty)
  ends_empty e =
      none_read (λ s. unheaded (vec_items p.graph.sheet.layers) (vec_items p.graph.sheet.actors) (vec_items p.graph.sheet.links.list) p.graph.sheet.stage e s) refl

  module _ (h : Machine × Fit) (headed : head_of p.graph.sheet.stage ≡ Some h) where
    abbrev held : Sheet
    held =
        record {
          machine = h.0;
          fit = h.1;
          layers = vec_items p.graph.sheet.layers;
          actors = vec_items p.graph.sheet.actors;
          links = vec_items p.graph.sheet.links.list;
        }

    holds : HasRead p held
    holds =
        headed_holds (vec_items p.graph.sheet.layers) (vec_items p.graph.sheet.actors) (vec_items p.graph.sheet.links.list) p.graph.sheet.stage h headed

    -- the memory lent is too short
    pub ends_short : memory < vec_len p.graph.sheet.objects.list → PlacesBy m rule memory p p (Err ShortMemory)
    ends_short l = short_memory held holds (subst (λ n. memory < n) (same_count p.graph held holds) l) refl

    module _ (enough : vec_len p.graph.sheet.objects.list ≤ memory) where
      room : object_count held ≤ memory
      room = subst (λ n. n ≤ memory) (same_count p.graph held holds) enough

      -- an actor's core is none of the fabric's
      pub ends_without_core : all_on m.cores (vec_items p.graph.sheet.actors) ≡ false → PlacesBy m rule memory p p (Err LacksCore)
      ends_without_core e =
          lacks_core held holds room
          (λ runs. let z : false ≡ true = sym e ∙ runs_all_on m.cores (vec_items p.graph.sheet.actors) runs in let k : ◌≡◌ {A = ℕ} 0 1 = cc in omega arith)
          refl

      module _ (after : Plan) (same : after.graph ≡ p.graph) (on : all_on m.cores (vec_items p.graph.sheet.actors) ≡ true) where
        runs_on : RunsOn held m
        runs_on = all_runs_on m.cores (vec_items p.graph.sheet.actors) on

        -- no gap held an object
        no_gap_ends : (x b : ℕ) → LacksRoom (seen_of p.graph) m rule h.0.grain x b → after.layout.placed ≡ false →
            PlacesBy m rule memory p after (Err (NoGap x b))
        no_gap_ends x b lacks unplaced =
            no_gap held holds room runs_on (lacks_no_room (seen_of p.graph) held (of_graph p.graph held holds) m rule h.0.grain refl x b lacks) same unplaced

        -- a layout that was refused
        pub ends_refused : (f : LayoutFault) → NotSettled (seen_of p.graph) m rule h.0.grain memory f → after.layout.placed ≡ false →
            PlacesBy m rule memory p after (Err (fault_of f))
        ends_refused (Unheld x b) lacks unplaced = no_gap_ends x b lacks.0 unplaced
        ends_refused Short lacks unplaced = absurd (enough_memory (seen_of p.graph) m rule h.0.grain memory enough lacks)

        -- every object has its places
        pub ends_placed : Lawful m → IsFitRule rule →
            AllSettled (seen_of p.graph) m rule h.0.grain memory (vec_items after.layout.banks) (vec_items after.layout.spots) →
            after.layout.placed ≡ true → PlacesBy m rule memory p after (Ok tt)
        ends_placed lawful fit-rule all is_placed = places held holds room runs_on placed_as same
          where
            laid_out : LaidOut held m rule (places_of after)
            laid_out =
                settled_laid_out (seen_of p.graph) held (of_graph p.graph held holds) m rule h.0.grain refl memory (vec_items after.layout.banks) (vec_items after.layout.spots) all

            count : length (vec_items after.layout.spots) ≡ object_count held
            count =
                sym (length-map (vec_items after.layout.spots) (λ (t : Spot). t.homes)) ∙ ap length all.homes_are
                ∙ homes_length (seen_of p.graph) m (vec_len p.graph.sheet.objects.list) ∙ same_count p.graph held holds

            sized : (b : ℕ) → b < m.banks → (use_at (vec_items after.layout.banks) b).capacity ≡ m.capacity b
            sized b l = (all.settled b l).capacity

            footprints : (b : ℕ) → b < m.banks → Footprint (bank_of held m b) (places_of after b) (footprint_of after b)
            footprints b l =
                settled_footprint (seen_of p.graph) held (of_graph p.graph held holds) m rule h.0.grain refl memory (vec_items after.layout.banks) (vec_items after.layout.spots) all b l

            placed_as : PlacedAs held m rule after
            placed_as =
                record {
                  placed = is_placed;
                  laid_out = laid_out;
                  objects = count;
                  homes = λ x l.
                      sym (get_or-map (λ (t : Spot). t.homes) (vec_items after.layout.spots) x (record { homes = 0; places = [] }) 0 (subst (λ n. x < n) (sym count) l))
                      ∙ ap (λ hs. get_or hs x 0) all.homes_are
                      ∙ homes_at (seen_of p.graph) m (vec_len p.graph.sheet.objects.list) x (subst (λ n. x < n) (sym (same_count p.graph held holds)) l)
                      ∙ ap m.homes ((of_graph p.graph held holds).touched x l);
                  banks = all.counted;
                  capacities = sized;
                  footprints = footprints;
                  map = settled_map (seen_of p.graph) held (of_graph p.graph held holds) m rule h.0.grain refl memory after.layout all;
                  promised = the_whole_promise held m rule (places_of after) (placeable p.graph held holds m lawful runs_on) fit-rule laid_out;
                }
