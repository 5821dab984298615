-- Rules that take the gap that comes first by an order: one is first fit, one is best fit, and each has one answer.
use Rattle.std.proofs.Common.{◌≡◌, ℕ, ◌+◌, ◌<◌, ◌≤◌, ◌⊎◌, List, [], ◌∷◌, Some, None, Option, sym, refl, ap, ◌∙◌, inl, inr, ⊎_elim, arith}
use Rattle.std.proofs.ByRecursion.{All-weaker}
use Rattle.std.proofs.lemmas.Bool.{cases_lt, cases_order}
use Rattle.rules.specs.declared.memory.Stretch.{Stretch}
use Rattle.rules.specs.Stretches.{Every, ◌∈◌}
use Rattle.rules.specs.Fitting.{place_in, Holds, answer_from, Ascending, Takes, Lower, Tighter, width}
use Rattle.rules.specs.PlacingLaws.{FirstAndBestFit}
use Rattle.rules.proofs.Members.{any_at, all_at}
use Rattle.rules.proofs.Joined.{some_one}
use Rattle.rules.proofs.Layers.{first_fit_is_a_fit_rule, best_fit_is_a_fit_rule}

-- gaps of a proper question that start at one byte are one gap
pub same_start : (gs : List Stretch) → Every (λ g. (g.start < g.end) × (g.end ≤ 4294967295)) gs → Ascending gs →
    (g h : Stretch) → g ∈ gs → h ∈ gs → g.start ≡ h.start → g ≡ h
same_start [] w up g h i j e = absurd i
same_start (k ∷ ks) w up g h (inl a) (inl b) e = a ∙ sym b
same_start (k ∷ ks) w up g h (inl a) (inr j) e =
    let l = all_at (λ f. k.end ≤ f.start) h ks j up.0 in
    let v = w.0 in
    let s : g.start ≡ k.start = ap (λ f. f.start) a in
    absurd (omega arith)
same_start (k ∷ ks) w up g h (inr i) (inl b) e =
    let l = all_at (λ f. k.end ≤ f.start) g ks i up.0 in
    let v = w.0 in
    let s : h.start ≡ k.start = ap (λ f. f.start) b in
    absurd (omega arith)
same_start (k ∷ ks) w up g h (inr i) (inr j) e = same_start ks w.1 up.1 g h i j e

module _ (Prior : Stretch → Stretch → Type 0) (one_way : (g h : Stretch) → Prior g h ⊎ Prior h g)
    (through : (f g h : Stretch) → Prior f g → Prior g h → Prior f h) (size grain : ℕ) where
  -- the gap that comes first of those that hold the size, if one does
  abbrev Picked : List Stretch → Type 0
  Picked gs =
      Every (λ g. Holds g size grain → ⊥) gs
      ⊎ ((g : Stretch) × (g ∈ gs) × Holds g size grain × Every (λ h. Holds h size grain → Prior g h) gs)

  pick : (gs : List Stretch) → Picked gs
  pick [] = inl tt
  pick (g ∷ gs) = step (cases_lt g.end (place_in g grain + size)) (pick gs)
    where
      itself : Prior g g
      itself = ⊎_elim (λ p. p) (λ p. p) (one_way g g)

      step : (g.end < place_in g grain + size) ⊎ Holds g size grain → Picked gs → Picked (g ∷ gs)
      step (inl l) (inl absent) = inl (λ h. omega arith, absent)
      step (inl l) (inr r) = inr (r.0, inr r.1, r.2, (λ h. absurd (omega arith), r.3))
      step (inr h) (inl absent) =
          inr (g, inl refl, h, (λ k. itself, All-weaker (λ f. Holds f size grain → ⊥) (λ f. Holds f size grain → Prior g f) (λ f n k. absurd (n k)) gs absent))
      step (inr h) (inr r) =
          ⊎_elim
          (λ p. inr (
            g,
            inl refl,
            h,
            (λ k. itself, All-weaker (λ f. Holds f size grain → Prior r.0 f) (λ f. Holds f size grain → Prior g f) (λ f q k. through g r.0 f p (q k)) gs r.3),
          ))
          (λ p. inr (r.0, inr r.1, r.2, (λ k. p, r.3)))
          (one_way g r.0)

  answer : (gs : List Stretch) → Picked gs → Option (ℕ × ℕ)
  answer gs (inl absent) = None
  answer gs (inr r) = Some (answer_from r.0 size grain)

  answer_takes : (gs : List Stretch) (p : Picked gs) → Takes Prior gs size grain (answer gs p)
  unfolding answer
  answer_takes gs (inl absent) = absent
  answer_takes gs (inr r) =
      any_at
      (λ g. Holds g size grain × (answer_from r.0 size grain ≡ answer_from g size grain) × Every (λ h. Holds h size grain → Prior g h) gs)
      r.0 gs r.1 (r.2, refl, r.3)

  -- an answer that takes the first gap exists
  some_answer : (gs : List Stretch) → (a : Option (ℕ × ℕ)) × Takes Prior gs size grain a
  some_answer gs = (answer gs (pick gs), answer_takes gs (pick gs))

  -- and there is one only, where gaps that each come before the other are one gap
  one_answer : (gs : List Stretch) → ((g h : Stretch) → g ∈ gs → h ∈ gs → Prior g h → Prior h g → g ≡ h) →
      (a b : Option (ℕ × ℕ)) → Takes Prior gs size grain a → Takes Prior gs size grain b → a ≡ b
  one_answer gs same None None s t = refl
  one_answer gs same None (Some b) s t =
      let r = some_one (λ g. Holds g size grain × (b ≡ answer_from g size grain) × Every (λ h. Holds h size grain → Prior g h) gs) gs t in
      absurd (all_at (λ g. Holds g size grain → ⊥) r.0 gs r.1 s r.2.0)
  one_answer gs same (Some a) None s t =
      let r = some_one (λ g. Holds g size grain × (a ≡ answer_from g size grain) × Every (λ h. Holds h size grain → Prior g h) gs) gs s in
      absurd (all_at (λ g. Holds g size grain → ⊥) r.0 gs r.1 t r.2.0)
  one_answer gs same (Some a) (Some b) s t =
      let q = some_one (λ g. Holds g size grain × (a ≡ answer_from g size grain) × Every (λ h. Holds h size grain → Prior g h) gs) gs s in
      let r = some_one (λ g. Holds g size grain × (b ≡ answer_from g size grain) × Every (λ h. Holds h size grain → Prior g h) gs) gs t in
      let e : q.0 ≡ r.0 =
      same q.0 r.0 q.1 r.1 (all_at (λ h. Holds h size grain → Prior q.0 h) r.0 gs r.1 q.2.2 r.2.0)
      (all_at (λ h. Holds h size grain → Prior r.0 h) q.0 gs q.1 r.2.2 q.2.0)
      in
      ap Some (q.2.1 ∙ ap (λ g. answer_from g size grain) e ∙ sym r.2.1)

lower_one_way : (g h : Stretch) → Lower g h ⊎ Lower h g
lower_one_way g h = ⊎_elim (λ l. inl (omega arith)) inr (cases_lt g.start h.start)

tighter_one_way : (g h : Stretch) → Tighter g h ⊎ Tighter h g
tighter_one_way g h =
    ⊎_elim
    (λ e. ⊎_elim (λ l. inl (inr (e, omega arith))) (λ l. inr (inr (sym e, l))) (cases_lt g.start h.start))
    (⊎_elim (λ l. inl (inl l)) (λ l. inr (inl l)))
    (cases_order (width g) (width h))

tighter_through : (f g h : Stretch) → Tighter f g → Tighter g h → Tighter f h
tighter_through f g h (inl l) (inl k) = inl (omega arith)
tighter_through f g h (inl l) (inr k) = inl (omega arith)
tighter_through f g h (inr l) (inl k) = inl (omega arith)
tighter_through f g h (inr l) (inr k) = inr (omega arith, omega arith)

tighter_both_ways : (g h : Stretch) → Tighter g h → Tighter h g → g.start ≡ h.start
tighter_both_ways g h (inl l) (inl k) = absurd (omega arith)
tighter_both_ways g h (inl l) (inr k) = absurd (omega arith)
tighter_both_ways g h (inr l) (inl k) = absurd (omega arith)
tighter_both_ways g h (inr l) (inr k) = omega arith

pub first_and_best_fit : FirstAndBestFit
first_and_best_fit =
    record {
      first_is_a_fit_rule = first_fit_is_a_fit_rule;
      best_is_a_fit_rule = best_fit_is_a_fit_rule;
      some_first_fit = (λ gs size grain. (lowest size grain gs).0, λ gs size grain p. (lowest size grain gs).1);
      some_best_fit = (λ gs size grain. (tightest size grain gs).0, λ gs size grain p. (tightest size grain gs).1);
      one_first_answer = λ gs size grain p.
          one_answer Lower lower_one_way (λ f g h l k. omega arith) size grain gs
          (λ g h i j l k. same_start gs p.gaps_in_range p.ascending g h i j (omega arith));
      one_best_answer = λ gs size grain p.
          one_answer Tighter tighter_one_way tighter_through size grain gs
          (λ g h i j l k. same_start gs p.gaps_in_range p.ascending g h i j (tighter_both_ways g h l k));
    }
  where
    lowest : (size grain : ℕ) (gs : List Stretch) → (a : Option (ℕ × ℕ)) × Takes Lower gs size grain a
    lowest = some_answer Lower lower_one_way (λ f g h l k. omega arith)

    tightest : (size grain : ℕ) (gs : List Stretch) → (a : Option (ℕ × ℕ)) × Takes Tighter gs size grain a
    tightest = some_answer Tighter tighter_one_way tighter_through
