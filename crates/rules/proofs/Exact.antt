-- Exclusion is exact: objects that exclude each other can be live together, and the witness shows them so.
use Rattle.std.proofs.Common.{◌≡◌, ℕ, ◌<◌, Bool, true, false, ◌⊎◌, List, [], ◌∷◌, map, sym, refl, ap, ◌∙◌, subst, subst₂, inl, inr}
use Rattle.std.proofs.ByRecursion.{All-append}
use Rattle.rules.specs.Lists.{Every, ◌∈◌}
use Rattle.rules.specs.Sheets.{Sheet}
use Rattle.rules.specs.Order.{Before, OrderedSheet}
use Rattle.rules.specs.Objects.{object_count, first, last, always_live}
use Rattle.rules.specs.Exclusion.{Excludes, AllExclude}
use Rattle.rules.specs.Runs.{State, Started, Finished, Call, start, Grants, Reached, Fires, fresh}
use Rattle.rules.specs.Lives.{Live, Needed}
use Rattle.rules.specs.RunLaws.{WitnessShows, ExclusionIsExact, ExclusionIsExactForAll}
use Rattle.rules.proofs.Members.{all_at}
use Rattle.rules.proofs.Joined.{all_from_members}
use Rattle.rules.proofs.Deciding.{Decided, same_number}
use Rattle.rules.proofs.Spans.{never_turned}
use Rattle.rules.proofs.Excluding.{exclusion_is_a_graph}
use Rattle.rules.proofs.Living.{live_objects_exclude}
use Rattle.rules.proofs.Granting.{grants_lead, grants_join, fresh_fired, firing_runs, firing_fires, starts_fire, Opening, opening, openers_run}
use Rattle.rules.proofs.Witnesses.{some_witness, same_witness}

-- where each opener has started and only the needed are finished, objects that exclude each other are live
pub excluding_live : (s : Sheet) → OrderedSheet s → (xs : List ℕ) (st : State) → Every (λ x. x < object_count s) xs → Opening s xs [] st →
    AllExclude s xs → Every (Live s st) xs
excluding_live s sound xs st known o exclude = all_from_members (Live s st) xs live
  where
    within : (x : ℕ) → x ∈ xs → x < object_count s
    within x m = all_at (λ x. x < object_count s) x xs m known

    started : (x : ℕ) → x ∈ xs → always_live s x ≡ false → Started st (first s x)
    started x m p =
        elim (o.opened (first s x) (record { number = x; listed = m; passes = p; opens = refl })) [ inl n ↦ absurd n | inr on ↦ on ]

    not_over : (x : ℕ) → x ∈ xs → always_live s x ≡ false → (n : Needed s xs (last s x)) → Decided (x ≡ n.opens.number) → ⊥
    not_over x m p n (inl e) =
        never_turned s sound x (within x m) p
        (subst (λ (b : ℕ). Before s (last s x) b) (n.opens.opens ∙ ap (first s) (sym e)) n.ahead)
    not_over x m p n (inr d) =
        (exclude x n.opens.number m n.opens.listed d).not_apart
        (record { passes = p; passes_too = n.opens.passes; ordered = inl (subst (λ (b : ℕ). Before s (last s x) b) n.opens.opens n.ahead) })

    lives : (x : ℕ) → x ∈ xs → (d : Bool) → always_live s x ≡ d → (always_live s x ≡ true) ⊎ (Started st (first s x) × (Finished st (last s x) → ⊥))
    lives x m true t = inl t
    lives x m false p =
        inr (started x m p, λ f. let need = o.only (last s x) f in not_over x m p need (same_number x need.opens.number))

    live : (x : ℕ) → x ∈ xs → Live s st x
    live x m = record { known = within x m; lives = lives x m (always_live s x) refl }

-- objects that are live in a reached state exclude each other
pub live_excluding : (s : Sheet) (cs : List Call) (st : State) → Reached s cs st → (xs : List ℕ) → Every (Live s st) xs → AllExclude s xs
live_excluding s cs st r xs live x y m n d = live_objects_exclude s cs st r x y d (all_at (Live s st) x xs m live) (all_at (Live s st) y xs n live)

-- the one witness, which is granted and leaves all live exactly when every two exclude each other
pub witness_shows : WitnessShows
witness_shows s sound xs known =
    let w = some_witness s sound xs known in
    let v = w.1 in
    let f = firing_runs s sound xs v.firing (fresh s) (fresh_fired s) (λ a m. absurd m) in
    let start-all = opening s xs v.openers f.0 (λ a m. (v.all_openers a).0 m) (λ a e. (v.all_openers a).1 e) f.2 in
    let g = openers_run s sound xs known v.openers v.ascending (λ a m. (v.all_openers a).0 m) f.0 start-all in
    let all : Grants s (fresh s) w.0 g.0 = subst (λ (cs : List Call). Grants s (fresh s) cs g.0) (sym v.whole) (grants_join f.1 g.1) in
    record {
      calls = w.0;
      witness = v;
      only = λ others u. same_witness s xs u v;
      fires = subst (Every Fires) (sym v.whole) (All-append Fires v.fires (map (λ a. start a) v.openers) (firing_fires v.firing) (starts_fire v.openers));
      state = g.0;
      all_granted = all;
      live = (excluding_live s sound xs g.0 known g.2, live_excluding s w.0 g.0 (grants_lead all) xs);
    }

-- every two exclude each other exactly when all can be live together
pub exclusion_is_exact_for_all : ExclusionIsExactForAll
exclusion_is_exact_for_all s sound xs known = (
  λ e. let w = witness_shows s sound xs known in
      record { calls = w.calls; fires = w.fires; state = w.state; reached = grants_lead w.all_granted; live = w.live.0 e },
  λ t. live_excluding s t.calls t.state t.reached xs t.live,
)

-- two that exclude each other are a list of which every two do
pub pair_excludes : (s : Sheet) (x y : ℕ) → Excludes s x y → AllExclude s (x ∷ y ∷ [])
pair_excludes s x y e a b (inl p) (inl q) d = absurd (d (p ∙ sym q))
pair_excludes s x y e a b (inl p) (inr (inl q)) d = subst₂ (Excludes s) (sym p) (sym q) e
pair_excludes s x y e a b (inl p) (inr (inr n)) d = absurd n
pair_excludes s x y e a b (inr (inl p)) (inl q) d = subst₂ (Excludes s) (sym p) (sym q) (exclusion_is_a_graph.both_ways s x y e)
pair_excludes s x y e a b (inr (inl p)) (inr (inl q)) d = absurd (d (p ∙ sym q))
pair_excludes s x y e a b (inr (inl p)) (inr (inr n)) d = absurd n
pair_excludes s x y e a b (inr (inr m)) n d = absurd m

-- and so for two objects
pub exclusion_is_exact : ExclusionIsExact
exclusion_is_exact s sound x y different = (
  λ e. (exclusion_is_exact_for_all s sound (x ∷ y ∷ []) (e.known, (e.known_too, tt))).0 (pair_excludes s x y e),
  λ t. live_objects_exclude s t.calls t.state t.reached x y different t.live.0 t.live.1.0,
)
