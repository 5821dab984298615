-- A sweep over the items that an iterator gives.

use Rattle.std.proofs.Common.{◌≡◌, ℕ, ◌<◌, ◌≤◌, min, max, List, [], ◌∷◌, ◌++◌, Some, None, Option, Bor, sym, refl, ap, ◌∙◌, subst, arith}
use Rattle.std.specs.Iterator.{AlwaysYields}
use Rattle.std.proofs.lemmas.List.{map_push, append-nil, append_assoc}
use Rattle.rules.specs.declared.memory.Stretch.{Stretch}
use Rattle.rules.specs.Stretches.{Every, Gaps, Blocked}
use Rattle.rules.proofs.Sweeping.{Swept, swept_none, swept_skip, swept_push, swept_full, swept_rest}
use Rattle.layout.specs.declared.items.Item.{Item}
use Rattle.layout.specs.Starts.{ByStart}
use Rattle.layout.specs.Items.{spans}

-- those before an item do not start above it
front_starts : (front : List Item) (it : Item) (back : List Item) → ByStart (spans (front ++ it ∷ back)) → Every (λ t. t.start ≤ it.on.start) (spans front)
front_starts [] it back b = tt
front_starts (k ∷ front) it back b = (first front b.0, front_starts front it back b.1)
  where
    first : (front : List Item) → Every (λ u. k.on.start ≤ u.start) (spans (front ++ it ∷ back)) → k.on.start ≤ it.on.start
    first [] a = a.0
    first (j ∷ js) a = first js a.1

module _ {S : Type 0} (steps : S → Option (Bor Item) → S → Type 0) where
  -- the iterator has given the first of the items xs, and gives the others; gs are the gaps that the first leave
  pub record Trail (capacity : ℕ) (xs : List Item) (it : S) (free : ℕ) (gs : List Stretch) : Type 0 where
    pub done : List Item
    pub rest : List Item
    pub whole : xs ≡ done ++ rest
    pub on : AlwaysYields steps (λ y. y.now) it rest
    pub swept : Swept capacity (spans done) gs free

  -- the same, whatever the items are
  pub record Trails (start : S) (capacity : ℕ) (it : S) (free : ℕ) (gs : List Stretch) : Type 0 where
    pub trail : (xs : List Item) → AlwaysYields steps (λ y. y.now) start xs → ByStart (spans xs) → Trail capacity xs it free gs

  pub trails_none : (start : S) (capacity : ℕ) → Trails start capacity start 0 []
  trails_none start capacity = record { trail = λ xs all by. record { done = []; rest = xs; whole = refl; on = all; swept = swept_none capacity } }

  module _ (start : S) (capacity : ℕ) (it next : S) (free : ℕ) (gs : List Stretch) (trails : Trails start capacity it free gs) where
    -- one item more
    module _ (x : Bor Item) (step : steps it (Some x) next) (more : List Stretch) (then : ℕ)
        (goes : (done : List Item) → Every (λ t. t.start ≤ x.now.on.start) (spans done) → Swept capacity (spans done) gs free → Swept capacity (spans done ++ x.now.on ∷ []) more then) where
      pub trails_more : Trails start capacity next then more
      trails_more = record { trail = λ xs all by. let t = trails.trail xs all by in after xs by t.done t.rest t.whole t.on t.swept }
        where
          after : (xs : List Item) → ByStart (spans xs) → (done rest : List Item) → xs ≡ done ++ rest → AlwaysYields steps (λ y. y.now) it rest → Swept capacity (spans done) gs free →
              Trail capacity xs next then more
          after xs by done [] whole on swept = absurd (on x next step)
          after xs by done (y ∷ ys) whole on swept =
              let m = on.1 x next step in
              let given : x.now ≡ y = m.0 in
              let split : xs ≡ done ++ x.now ∷ ys = whole ∙ ap (λ k. done ++ k ∷ ys) (sym given) in
              record {
                done = done ++ x.now ∷ [];
                rest = ys;
                whole = split ∙ sym (append_assoc done (x.now ∷ []) ys);
                on = m.1;
                swept =
                    subst (λ ss. Swept capacity ss more then) (sym (map_push (λ (k : Item). k.on) done x.now))
                    (goes done (front_starts done x.now ys (subst (λ ks. ByStart (spans ks)) split by)) swept);
              }

    -- an item that leaves no gap before it
    pub trails_skip : (x : Bor Item) → steps it (Some x) next → (end then : ℕ) → end ≡ min x.now.on.start capacity → then ≡ max free x.now.on.end → end ≤ free →
        Trails start capacity next then gs
    trails_skip x step end then ends goes closed =
        trails_more x step gs then
        (λ done front swept. subst (Swept capacity (spans done ++ x.now.on ∷ []) gs) (sym goes) (swept_skip capacity (spans done) gs free swept x.now.on front (omega arith)))

    -- one that leaves a gap
    pub trails_push : (x : Bor Item) → steps it (Some x) next → (end then : ℕ) → end ≡ min x.now.on.start capacity → then ≡ max free x.now.on.end → free < end →
        Trails start capacity next then (gs ++ record { start = free; end = end } ∷ [])
    trails_push x step end then ends goes some =
        trails_more x step (gs ++ record { start = free; end = end } ∷ []) then
        (λ done front swept.
        subst (Swept capacity (spans done ++ x.now.on ∷ []) (gs ++ record { start = free; end = end } ∷ [])) (sym goes)
        (subst (λ e. Swept capacity (spans done ++ x.now.on ∷ []) (gs ++ record { start = free; end = e } ∷ []) (max free x.now.on.end)) (sym ends)
        (swept_push capacity (spans done) gs free swept x.now.on front (omega arith) x.now.filled)))

    -- at the end
    module _ (step : steps it None next) where
      finished : (xs : List Item) (t : Trail capacity xs it free gs) → Swept capacity (spans xs) gs free
      finished xs t = by t.rest t.whole t.on
        where
          by : (rest : List Item) → xs ≡ t.done ++ rest → AlwaysYields steps (λ y. y.now) it rest → Swept capacity (spans xs) gs free
          by [] whole on = subst (λ ks. Swept capacity (spans ks) gs free) (sym (whole ∙ append-nil t.done)) t.swept
          by (y ∷ ys) whole on = absurd (on.0 next step)

      pub trails_full : capacity ≤ free → (xs : List Item) → AlwaysYields steps (λ y. y.now) start xs → ByStart (spans xs) → Gaps capacity (Blocked (spans xs)) gs
      trails_full none xs all by = swept_full capacity (spans xs) gs free (finished xs (trails.trail xs all by)) none

      pub trails_rest : free < capacity → (xs : List Item) → AlwaysYields steps (λ y. y.now) start xs → ByStart (spans xs) →
          Gaps capacity (Blocked (spans xs)) (gs ++ record { start = free; end = capacity } ∷ [])
      trails_rest some xs all by = swept_rest capacity (spans xs) gs free (finished xs (trails.trail xs all by)) some
