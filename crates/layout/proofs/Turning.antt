-- Placing turn by turn, over a list of items.

use Rattle.std.proofs.Common.{◌≡◌, ℕ, ◌+◌, ◌≤◌, Bool, List, [], ◌∷◌, ◌++◌, Some, None, Option, sym, ap, ◌∙◌, subst, inl, inr, ⊎_elim, arith}
use Rattle.std.specs.List.{insert}
use Rattle.std.proofs.ByRecursion.{All-weaker}
use Rattle.rules.specs.Lists.{Every, Any, ◌∈◌}
use Rattle.rules.specs.Fitting.{Rule}
use Rattle.rules.specs.Placing.{Bank, Earlier, LacksSpace}
use Rattle.rules.specs.Standings.{Standing, Answered}
use Rattle.rules.proofs.Members.{all_at}
use Rattle.rules.proofs.Joined.{some_one}
use Rattle.rules.proofs.Turns.{never_earlier_itself}
use Rattle.rules.proofs.Standing.{gaps_seen, standing_none, no_place_yet, standing_more, standing_lacks, standing_placing, standing_full}
use Rattle.layout.specs.declared.items.Item.{Item}
use Rattle.layout.specs.Starts.{ByStart}
use Rattle.layout.specs.Items.{spans, blocking, place_of}
use Rattle.layout.specs.Banks.{bank_over, Asked, Rightly, Laid, Highest, Filled}
use Rattle.layout.proofs.Blocks.{blocked_by}
use Rattle.layout.proofs.Lookups.{found, place_own, place_other, all_inserted}

module _ (sizes : ℕ → ℕ) (excluding : ℕ → ℕ → Bool) (capacity grain : ℕ) (objects : List ℕ) (rule : Rule) where
  abbrev bank : Bank
  bank = bank_over sizes excluding capacity grain objects

  -- before the first turn
  pub laid_none : Laid bank rule [] []
  laid_none = record { sorted = tt; rightly = tt; standing = standing_none bank rule }

  module _ (done : List ℕ) (items : List Item) (laid : Laid bank rule done items) (of_bank : (y : ℕ) → y ∈ done → y ∈ objects) where
    -- an item's object is done
    item_done : Every (λ it. it.object ∈ done) items
    item_done =
        All-weaker (Rightly bank (place_of items)) (λ it. it.object ∈ done) (λ it r. laid.standing.nothing_else it.object it.on.start r.0) items laid.rightly

    -- the turn of x, where those done are the earlier ones
    module _ (x : ℕ) (own : x ∈ objects) (early : (y : ℕ) → y ∈ done → Earlier bank y x) (before : (y : ℕ) → y ∈ objects → Earlier bank y x → y ∈ done) where
      not_done : x ∈ done → ⊥
      not_done m = never_earlier_itself bank x (early x m)

      -- what was asked about the items was asked about the places
      answered : (o : Option ℕ) → Asked excluding rule capacity grain (sizes x) x items o → Answered bank rule (place_of items) x o
      answered o a =
          record {
            gaps = a.gaps;
            are_gaps =
                gaps_seen bank (λ (it : Item). it.object) (λ (it : Item). it.on) (place_of items) items x laid.rightly (found items)
                (All-weaker (λ it. it.object ∈ done) (λ it. (it.object ∈ objects) × Earlier bank it.object x) (λ it m. (of_bank it.object m, early it.object m)) items item_done)
                (blocking excluding x items) (blocked_by excluding x items) a.gaps a.are_gaps;
            says = a.says;
          }

      -- a turn that finds no gap
      pub turn_lacks : Asked excluding rule capacity grain (sizes x) x items None → LacksSpace bank rule (place_of items) x
      turn_lacks a = standing_lacks bank rule done (place_of items) laid.standing x own not_done before (answered None a)

      -- a turn that places its object
      module _ (it : Item) (next : List Item) (k : ℕ) (same : it.object ≡ x) where
        absent : place_of items it.object ≡ None
        absent = subst (λ y. place_of items y ≡ None) (sym same) (no_place_yet bank rule done (place_of items) laid.standing x not_done)

        here : place_of (insert items k it) it.object ≡ Some it.on.start
        here = place_own it items k absent

        others : (y : ℕ) → (y ≡ x → ⊥) → place_of (insert items k it) y ≡ place_of items y
        others y n = place_other it items k y (λ e. n (e ∙ same))

        all_both : (ks : List Item) → Every (Rightly bank (place_of items)) ks → Every (λ j. j.object ∈ done) ks →
            Every (Rightly bank (place_of (insert items k it))) ks
        all_both [] a b = tt
        all_both (j ∷ js) a b =
            ((others j.object (λ e. not_done (subst (λ y. y ∈ done) e b.0)) ∙ a.0.0, a.0.1), all_both js a.1 b.1)

        pub turn_more : Asked excluding rule capacity grain (sizes x) x items (Some it.on.start) → it.on.end ≡ it.on.start + sizes x → next ≡ insert items k it → ByStart (spans next) →
            Laid bank rule (done ++ x ∷ []) next
        turn_more a size put sorted =
            record {
              sorted = sorted;
              rightly =
                  subst (λ ks. Every (Rightly bank (place_of ks)) ks) (sym put)
                  (all_inserted (Rightly bank (place_of (insert items k it))) it items k (here, size ∙ ap (λ y. it.on.start + sizes y) (sym same)) (all_both items laid.rightly item_done));
              standing =
                  subst (λ ks. Standing bank rule (done ++ x ∷ []) (place_of ks)) (sym put)
                  (standing_more bank rule done (place_of items) laid.standing x it.on.start (place_of (insert items k it)) early (answered (Some it.on.start) a)
                  (subst (λ y. place_of (insert items k it) y ≡ Some it.on.start) same here) others);
            }

    -- after the last turn
    pub laid_filled : ((x : ℕ) → x ∈ objects → x ∈ done) → (f : ℕ) → Highest items f → Filled bank rule items f
    laid_filled all f high =
        record {
          placing = standing_placing bank rule done (place_of items) laid.standing all;
          full = standing_full bank rule done (place_of items) laid.standing all;
          footprint = record { no_end_above = below; an_end_or_nothing = ⊎_elim (λ a. inl (an_item a)) (λ z. inr (z.0, λ x m. ap (λ ks. place_of ks x) z.1)) high.an_end };
          rightly = laid.rightly;
        }
      where
        below : (x p : ℕ) → x ∈ objects → place_of items x ≡ Some p → p + sizes x ≤ f
        below x p m e =
            let r = some_one (λ it. it.object ≡ x) items (found items x p e) in
            let it = r.0 in
            let right = all_at (Rightly bank (place_of items)) it items r.1 laid.rightly in
            let low = all_at (λ k. k.on.end ≤ f) it items r.1 high.none_above in
            let start : Some it.on.start ≡ Some p = sym right.0 ∙ ap (place_of items) r.2 ∙ e in
            let at : it.on.start ≡ p = cc in
            let size : sizes it.object ≡ sizes x = ap sizes r.2 in
            omega (arith, right.1)

        an_item : Any (λ it. f ≡ it.on.end) items → (x : ℕ) × (p : ℕ) × (x ∈ objects) × (place_of items x ≡ Some p) × (f ≡ p + sizes x)
        an_item a =
            let r = some_one (λ it. f ≡ it.on.end) items a in
            let it = r.0 in
            let right = all_at (Rightly bank (place_of items)) it items r.1 laid.rightly in
            (it.object, it.on.start, of_bank it.object (all_at (λ k. k.object ∈ done) it items r.1 item_done), right.0, r.2 ∙ right.1)
