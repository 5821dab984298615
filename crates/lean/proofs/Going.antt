-- A lean listing, one actor after the other.
use Rattle.std.proofs.Common.{◌≡◌, ℕ, ◌+◌, ◌<◌, ◌≤◌, true, false, cond, not, ◌&&◌, ◌||◌, eqb, ltb, ◌⊎◌, ◌↔◌, List, [], ◌∷◌, ◌++◌, pos, ◌-ℤ◌, sym, ap, ◌∙◌, subst, inl, inr, ⊎_elim, append_assoc, arith}
use lib.Signed.{lt_z}
use Rattle.std.specs.List.Sorted.{IsPermutation}
use Rattle.std.proofs.lemmas.List.{append-nil}
use Rattle.std.proofs.lemmas.Int.{ints}
use Rattle.std.proofs.lemmas.Bool.{both_ways, cases_Bool, cases_order, and_from, not_from_false, cond-true, cond-false, lt-ltb}
use Rattle.rules.specs.declared.sheet.Link.{Link}
use Rattle.rules.specs.Lists.{Every, ◌∈◌}
use Rattle.rules.specs.Lean.{produced, consumed, Leaner, ReadyToList, LeanFrom, Lean}
use Rattle.rules.specs.Order.{Before}
use Rattle.rules.specs.Sheets.{Sheet, actor_count}
use Rattle.rules.proofs.Leanest.{all_listed}
use Rattle.words.specs.Words.{bit}
use Rattle.words.proofs.Bits.{bit_zero}
use Rattle.graph.proofs.Ties.{told}
use Rattle.queue.specs.Heaps.{Least}
use Rattle.std.specs.BinaryHeap.{lt_by_cmp}
use Rattle.std.specs.declared.cmp.Ordering.{Ordering}
use Rattle.std.specs.declared.cmp.Ordering.TheVariants.{Less, Equal, Greater}
use Rattle.std.specs.Ordering.{is_lt, ordering_then, int_cmp, nat_cmp}
use Rattle.lean.specs.declared.ready.ReadyActor.{ReadyActor}
use Rattle.lean.specs.Nets.{net_of}
use Rattle.lean.specs.Waiting.{count_of, times, Free, Queued, Entered, Describes}
use Rattle.lean.proofs.Waits.{at_times, count_all, served, served_known, served_net, word_has, word_keeps, word_cases}

-- what is listed so far goes on as a lean listing does, and exactly the actors that can be listed next have entered and are not listed
pub record Going (s : Sheet) (front : List ℕ) (listed entered : ℕ) : Type 0 where
  pub so_far : List ℕ
  pub goes_on : (rest : List ℕ) → LeanFrom s so_far rest → Lean s (front ++ rest)
  pub marked : (a : ℕ) → (bit listed a ≡ true) ↔ (a ∈ so_far)
  pub ready : (a : ℕ) → bit entered a ≡ true → bit listed a ≡ false → ReadyToList s so_far a
  pub every : (a : ℕ) → ReadyToList s so_far a → bit entered a ≡ true

module _ (links : List Link) (rows : List ℕ) (count : ℕ) (s : Sheet) (d : Describes links rows count s) where
  -- by the rows, and by the sheet
  free_behind : (so_far : List ℕ) (listed a : ℕ) → ((b : ℕ) → (bit listed b ≡ true) ↔ (b ∈ so_far)) → Free rows listed a → (b : ℕ) → Before s b a → b ∈ so_far
  free_behind so_far listed a marked free b c = (marked b).0 (free b (d.heard b a c))

  behind_free : (so_far : List ℕ) (listed a : ℕ) → ((b : ℕ) → (bit listed b ≡ true) ↔ (b ∈ so_far)) → ((b : ℕ) → Before s b a → b ∈ so_far) → Free rows listed a
  behind_free so_far listed a marked behind b e = (marked b).1 (behind b (told rows s.links d.meant b a e))

  -- nothing is listed
  pub going_none : (queue : List ReadyActor) (new : ℕ) → Queued links count 0 new queue → Entered rows 0 count 0 new → Going s [] 0 new
  going_none queue new q e =
      record {
        so_far = [];
        goes_on = λ rest lean. lean;
        marked = none;
        ready = λ a in' out. record {
          known = subst (λ n. a < n) d.count_is (q.known a in');
          new = λ m. m;
          behind = ⊎_elim (λ old. absurd (both_ways (bit 0 a) (bit_zero a) old)) (λ free. free_behind [] 0 a none free) (e.only a in');
        };
        every = λ a r. e.every a (subst (λ n. a < n) (sym d.count_is) r.known) (behind_free [] 0 a none r.behind);
      }
    where
      none : (a : ℕ) → (bit 0 a ≡ true) ↔ (a ∈ [])
      none a = (λ h. both_ways (bit 0 a) (bit_zero a) h, λ m. absurd m)

-- ---- the least of the queue is the leanest

-- the smaller net change first, equal ones by lower number
abbrev pub by_net : ReadyActor → ReadyActor → Ordering
by_net x y = ordering_then (int_cmp x.net y.net) (nat_cmp x.actor y.actor)

-- whoever does not go before the first has a larger net change, or an equal one and the higher number
leaner_by : (pa ca pb cb a b : ℕ) → is_lt (ordering_then (int_cmp (pos pb -ℤ pos cb) (pos pa -ℤ pos ca)) (nat_cmp b a)) ≡ false →
    (b ≡ a) ⊎ ((pa + cb < pb + ca) ⊎ ((pa + cb ≡ pb + ca) × (a < b)))
leaner_by pa ca pb cb a b h =
    ⊎_elim
    (λ same. tied same (cases_order a b))
    (⊎_elim (λ less. inr (inl less)) (λ more. absurd (both_ways _ h (above more))))
    (cases_order (pa + cb) (pb + ca))
  where
    by : lt_z (pos pb -ℤ pos cb) (pos pa -ℤ pos ca) ≡ false → lt_z (pos pa -ℤ pos ca) (pos pb -ℤ pos cb) ≡ false → int_cmp (pos pb -ℤ pos cb) (pos pa -ℤ pos ca) ≡ Equal
    by e f =
        cond-false (lt_z (pos pb -ℤ pos cb) (pos pa -ℤ pos ca)) Less (cond (lt_z (pos pa -ℤ pos ca) (pos pb -ℤ pos cb)) Greater Equal) e
        ∙ cond-false (lt_z (pos pa -ℤ pos ca) (pos pb -ℤ pos cb)) Greater Equal f

    tied : pa + cb ≡ pb + ca → (a ≡ b) ⊎ ((a < b) ⊎ (b < a)) → (b ≡ a) ⊎ ((pa + cb < pb + ca) ⊎ ((pa + cb ≡ pb + ca) × (a < b)))
    tied same (inl e) = inl (sym e)
    tied same (inr (inl l)) = inr (inr (same, l))
    tied same (inr (inr l)) =
        let e = by (grind (arith, ints)) (grind (arith, ints)) in
        let t : is_lt (nat_cmp b a) ≡ true = ap is_lt (cond-true (ltb b a) Less (cond (eqb b a) Equal Greater) (lt-ltb b a l)) in
        absurd (both_ways (is_lt (nat_cmp b a)) (subst (λ o. is_lt (ordering_then o (nat_cmp b a)) ≡ false) e h) t)

    above : pb + ca < pa + cb → is_lt (ordering_then (int_cmp (pos pb -ℤ pos cb) (pos pa -ℤ pos ca)) (nat_cmp b a)) ≡ true
    above l =
        let e : lt_z (pos pb -ℤ pos cb) (pos pa -ℤ pos ca) ≡ true = grind (arith, ints) in
        ap (λ o. is_lt (ordering_then o (nat_cmp b a)))
        (cond-true (lt_z (pos pb -ℤ pos cb) (pos pa -ℤ pos ca)) Less (cond (lt_z (pos pa -ℤ pos ca) (pos pb -ℤ pos cb)) Greater Equal) e)

both_of : {X : Type 0} (P Q : X → Type 0) (xs : List X) → Every P xs → Every Q xs → Every (λ x. P x × Q x) xs
both_of P Q [] p q = tt
both_of P Q (x ∷ xs) p q = ((p.0, q.0), both_of P Q xs p.1 q.1)

module _ (links : List Link) (s : Sheet) (same_links : links ≡ s.links) where
  -- what is served first is leaner than another that waits
  leaner_served : (w v : ReadyActor) (b : ℕ) → w.net ≡ net_of links w.actor → v.net ≡ net_of links v.actor → v.actor ≡ b → lt_by_cmp by_net v w ≡ false →
      (b ≡ w.actor) ⊎ Leaner s w.actor b
  leaner_served w v b wn vn e first =
      let mine : w.net ≡ net_of s.links w.actor = wn ∙ ap (λ ks. net_of ks w.actor) same_links in
      let other : v.net ≡ net_of s.links b = vn ∙ ap (λ ks. net_of ks v.actor) same_links ∙ ap (net_of s.links) e in
      leaner_by (produced s.links w.actor) (consumed s.links w.actor) (produced s.links b) (consumed s.links b) w.actor b
      (ap (λ z. is_lt (ordering_then (int_cmp z (net_of s.links w.actor)) (nat_cmp b w.actor))) (sym other)
      ∙ ap (λ z. is_lt (ordering_then (int_cmp v.net z) (nat_cmp b w.actor))) (sym mine)
      ∙ ap (λ n. is_lt (ordering_then (int_cmp v.net w.net) (nat_cmp n w.actor))) (sym e) ∙ first)

-- ---- one actor more

module _ (links : List Link) (rows : List ℕ) (count : ℕ) (s : Sheet) (d : Describes links rows count s) (small : count ≤ 64)
    (listed entered : ℕ) (ws vs : List ReadyActor) (q : Queued links count listed entered ws)
    (w : ReadyActor) (moved : IsPermutation ws (w ∷ vs)) (least : Least by_net w ws)
    (new : ℕ) (bits : (j : ℕ) → bit new j ≡ (bit listed j || (ltb w.actor 64 && eqb w.actor j)))
    (grown : ℕ) (us : List ReadyActor) (p : Queued links count new grown us) (e : Entered rows new count entered grown)
    (front : List ℕ) (g : Going s front listed entered) where
  tight : w.actor < 64
  tight = let k = served_known links count listed entered ws vs q w moved in omega arith

  was : bit entered w.actor ≡ true
  was = (served links count listed entered ws vs q w moved).0

  unlisted : bit listed w.actor ≡ false
  unlisted = (served links count listed entered ws vs q w moved).1

  -- it is leaner than any other that can be listed
  leanest : (b : ℕ) → ReadyToList s g.so_far b → (b ≡ w.actor) ⊎ Leaner s w.actor b
  leanest b r =
      let out : bit listed b ≡ false = ⊎_elim (λ t. absurd (r.new ((g.marked b).0 t))) (λ f. f) (cases_Bool (bit listed b)) in
      let waits : times b ws ≡ 1 =
      q.once b ∙ cond-true (bit entered b && not (bit listed b)) 1 0 (and_from (bit entered b) (not (bit listed b)) (g.every b r) (not_from_false (bit listed b) out)) in
      let found = at_times (λ v. (lt_by_cmp by_net v w ≡ false) × (v.net ≡ net_of links v.actor)) b ws (omega arith) (both_of (λ v. lt_by_cmp by_net v w ≡ false) (λ v. v.net ≡ net_of links v.actor) ws least q.nets) in
      leaner_served links s d.links_are w found.0 b (served_net links count listed entered ws vs q w moved) found.2.1 found.1 found.2.0

  marked_more : (b : ℕ) → (bit new b ≡ true) ↔ (b ∈ (w.actor ∷ g.so_far))
  marked_more b = (
    λ h. ⊎_elim (λ o. inr ((g.marked b).0 o)) (λ same. inl same) (word_cases listed new w.actor tight bits b h),
    λ m. ⊎_elim
        (λ same. subst (λ n. bit new n ≡ true) (sym same) (word_has listed new w.actor tight bits))
        (λ i. word_keeps listed new w.actor tight bits b ((g.marked b).1 i)) m,
  )

  pub going_more : Going s (front ++ w.actor ∷ []) new grown
  going_more =
      record {
        so_far = w.actor ∷ g.so_far;
        goes_on = λ rest lean.
            subst (Lean s) (sym (append_assoc front (w.actor ∷ []) rest))
            (g.goes_on (w.actor ∷ rest) (g.ready w.actor was unlisted, leanest, lean));
        marked = marked_more;
        ready = λ b in' out. record {
          known = subst (λ n. b < n) d.count_is (p.known b in');
          new = λ m. both_ways (bit new b) out ((marked_more b).1 m);
          behind = ⊎_elim
              (λ old. λ c h. inr ((g.ready b old (still b out)).behind c h))
              (λ free. free_behind links rows count s d (w.actor ∷ g.so_far) new b marked_more free) (e.only b in');
        };
        every = λ b r. e.every b (subst (λ n. b < n) (sym d.count_is) r.known) (behind_free links rows count s d (w.actor ∷ g.so_far) new b marked_more r.behind);
      }
    where
      still : (b : ℕ) → bit new b ≡ false → bit listed b ≡ false
      still b out = ⊎_elim (λ t. absurd (both_ways (bit new b) out (word_keeps listed new w.actor tight bits b t))) (λ f. f) (cases_Bool (bit listed b))

-- ---- the end

module _ (links : List Link) (rows : List ℕ) (count : ℕ) (s : Sheet) (d : Describes links rows count s) (listed entered : ℕ)
    (q : Queued links count listed entered []) (front : List ℕ) (g : Going s front listed entered) where
  -- where nothing waits, every actor is listed
  over : (a : ℕ) → a < actor_count s → a ∈ g.so_far
  over = all_listed s d.ordered g.so_far none
    where
      none : (a : ℕ) → a < actor_count s → ReadyToList s g.so_far a → ⊥
      none a l r =
          let out : bit listed a ≡ false = ⊎_elim (λ t. absurd (r.new ((g.marked a).0 t))) (λ f. f) (cases_Bool (bit listed a)) in
          let waits : times a [] ≡ 1 =
          q.once a ∙ cond-true (bit entered a && not (bit listed a)) 1 0 (and_from (bit entered a) (not (bit listed a)) (g.every a r) (not_from_false (bit listed a) out)) in
          omega arith

  pub counted_all : count_of (bit listed) count ≡ count
  counted_all = count_all (bit listed) count (λ a l. (g.marked a).1 (over a (subst (λ n. a < n) d.count_is l)))

  -- and the listing is lean
  pub lean_whole : Lean s front
  lean_whole = subst (Lean s) (append-nil front) (g.goes_on [] over)
