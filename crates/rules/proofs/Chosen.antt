-- What first fit and best fit choose comes first by its order of gaps.
use Rattle.std.proofs.Common.{◌≡◌, ℕ, ◌+◌, ◌<◌, ◌≤◌, Bool, true, false, cond, ◌&&◌, ltb, leb, ◌⊎◌, List, [], ◌∷◌, Some, None, Option, sym, refl, subst, inl, inr, ⊎_elim, eq-or-lt_of_le, arith}
use Rattle.std.specs.Option.{option_or}
use Rattle.std.proofs.ByRecursion.{All-weaker}
use Rattle.std.proofs.lemmas.Bool.{leb-true, leb-false, le-leb, ltb-true, ltb-false, and_parts, and_cases}
use Rattle.rules.specs.declared.memory.Stretch.{Stretch}
use Rattle.rules.specs.Stretches.{Every, ◌∈◌}
use Rattle.rules.specs.Fitting.{place_in, Holds, answer_from, Ascending, Proper, Takes, Lower, Tighter, width, IsFirstFit, IsBestFit}
use Rattle.rules.proofs.Members.{any_weaker, any_at}
use Rattle.rules.specs.Choosing.{first_of, best_from, taken, best_of}

-- whether a gap holds the size
abbrev fits : ℕ → ℕ → Stretch → Bool
fits size grain g = leb (place_in g grain + size) g.end

-- none is empty
abbrev Filled : List Stretch → Type 0
Filled gs = Every (λ g. g.start < g.end) gs

module _ (size grain : ℕ) where
  -- ---- first fit

  -- a gap that does not hold the size changes no answer
  pass : (g : Stretch) (gs : List Stretch) → (Holds g size grain → ⊥) → (a : Option (ℕ × ℕ)) → Takes Lower gs size grain a → Takes Lower (g ∷ gs) size grain a
  pass g gs n None t = (n, t)
  pass g gs n (Some a) t =
      inr (any_weaker
      (λ f. Holds f size grain × (a ≡ answer_from f size grain) × Every (λ h. Holds h size grain → Lower f h) gs)
      (λ f. Holds f size grain × (a ≡ answer_from f size grain) × Every (λ h. Holds h size grain → Lower f h) (g ∷ gs))
      (λ f p. (p.0, p.1, (λ h. absurd (n h), p.2))) gs t)

  first_step : (g : Stretch) (gs : List Stretch) → g.start < g.end → Every (λ h. g.end ≤ h.start) gs →
      (rest : Option (ℕ × ℕ)) → Takes Lower gs size grain rest → (b : Bool) → fits size grain g ≡ b →
      Takes Lower (g ∷ gs) size grain (option_or (cond b (Some (answer_from g size grain)) None) rest)
  first_step g gs filled above rest t true e =
      inl (
        leb-true (place_in g grain + size) g.end e,
        refl,
        (λ h. omega arith, All-weaker (λ h. g.end ≤ h.start) (λ h. Holds h size grain → Lower g h) (λ h l k. omega arith) gs above),
      )
  first_step g gs filled above rest t false e =
      pass g gs (λ h. let l = leb-false (place_in g grain + size) g.end e in omega arith) rest t

  first_takes_lowest : (gs : List Stretch) → Filled gs → Ascending gs → Takes Lower gs size grain (first_of gs size grain)
  first_takes_lowest [] f up = tt
  first_takes_lowest (g ∷ gs) f up =
      first_step g gs f.0 up.0 (first_of gs size grain) (first_takes_lowest gs f.1 up.1) (fits size grain g) refl

  -- ---- best fit

  -- x is the best of the gaps and one before them
  pub record BestOfBoth (b : Stretch) (gs : List Stretch) (x : Stretch) : Type 0 where
    pub found : best_from size grain (Some b) gs ≡ Some x
    pub holds : Holds x size grain
    pub one_of : (x ≡ b) ⊎ (x ∈ gs)
    pub before : Tighter x b
    pub among : Every (λ h. Holds h size grain → Tighter x h) gs

  through : (x g b : Stretch) → Tighter x g → width g < width b → Tighter x b
  through x g b (inl l) k = inl (omega arith)
  through x g b (inr e) k = inl (omega arith)

  onward : (x b g : Stretch) → Tighter x b → width b ≤ width g → b.start ≤ g.start → Tighter x g
  onward x b g (inl l) k s = inl (omega arith)
  onward x b g (inr e) k s = ⊎_elim (λ m. inr (omega arith, omega arith)) (λ l. inl (omega arith)) (eq-or-lt_of_le k)

  -- the gap takes the place of the best so far, or leaves it
  best_step : (b g : Stretch) (gs : List Stretch) → b.start ≤ g.start →
      (Holds g size grain → (x : Stretch) × BestOfBoth g gs x) → ((x : Stretch) × BestOfBoth b gs x) →
      (t : Bool) → (fits size grain g && ltb (width g) (width b)) ≡ t →
      (x : Stretch) × (best_from size grain (cond t (Some g) (Some b)) gs ≡ Some x) × Holds x size grain × ((x ≡ b) ⊎ (x ∈ (g ∷ gs))) × Tighter x b
      × Every (λ h. Holds h size grain → Tighter x h) (g ∷ gs)
  best_step b g gs s taking keeping true e =
      let parts = and_parts (fits size grain g) (ltb (width g) (width b)) e in
      let it = taking (leb-true (place_in g grain + size) g.end parts.0) in
      let r = it.1 in
      (it.0, r.found, r.holds, inr r.one_of, through it.0 g b r.before (ltb-true (width g) (width b) parts.1), (λ _. r.before, r.among))
  best_step b g gs s taking keeping false e =
      let x = keeping.0 in
      let r = keeping.1 in (
        x,
        r.found,
        r.holds,
        ⊎_elim inl (λ m. inr (inr m)) r.one_of,
        r.before,
        (λ h. onward x b g r.before (wider h (and_cases (fits size grain g) (ltb (width g) (width b)) e)) s, r.among),
      )
    where
      wider : Holds g size grain → (fits size grain g ≡ false) ⊎ (ltb (width g) (width b) ≡ false) → width b ≤ width g
      wider h (inl n) = let l = leb-false (place_in g grain + size) g.end n in omega arith
      wider h (inr n) = ltb-false (width g) (width b) n

  best_after : (b : Stretch) (gs : List Stretch) → Holds b size grain → b.start < b.end → Every (λ h. b.end ≤ h.start) gs → Filled gs → Ascending gs →
      (x : Stretch) × BestOfBoth b gs x
  best_after b [] h f above filled up =
      (b, record { found = refl; holds = h; one_of = inl refl; before = inr (refl, omega arith); among = tt })
  best_after b (g ∷ gs) h f above filled up =
      let r =
      best_step b g gs (omega (arith, above.0))
      (λ k. best_after g gs k filled.0 up.0 filled.1 up.1) (best_after b gs h f above.1 filled.1 up.1)
      (fits size grain g && ltb (width g) (width b)) refl
      in
      (r.0, record { found = r.1; holds = r.2; one_of = r.3; before = r.4; among = r.5 })

  -- none holds the size, or x is the best
  Chosen : List Stretch → Option Stretch → Type 0
  Chosen gs best =
      ((best ≡ None) × Every (λ h. Holds h size grain → ⊥) gs)
      ⊎ ((x : Stretch) × (best ≡ Some x) × Holds x size grain × (x ∈ gs) × Every (λ h. Holds h size grain → Tighter x h) gs)

  choose_step : (g : Stretch) (gs : List Stretch) → (Holds g size grain → (x : Stretch) × BestOfBoth g gs x) → Chosen gs (best_from size grain None gs) →
      (t : Bool) → fits size grain g ≡ t → Chosen (g ∷ gs) (best_from size grain (cond t (Some g) None) gs)
  unfolding Chosen
  choose_step g gs taking rest true e =
      let it = taking (leb-true (place_in g grain + size) g.end e) in
      let r = it.1 in
      inr (it.0, r.found, r.holds, r.one_of, (λ _. r.before, r.among))
  choose_step g gs taking rest false e =
      ⊎_elim
      (λ n. inl (n.0, (lacks, n.1)))
      (λ r. inr (r.0, r.1, r.2, inr r.3, (λ h. absurd (lacks h), r.4)))
      rest
    where
      lacks : Holds g size grain → ⊥
      lacks h = let l = leb-false (place_in g grain + size) g.end e in omega arith

  chosen : (gs : List Stretch) → Filled gs → Ascending gs → Chosen gs (best_from size grain None gs)
  unfolding Chosen
  chosen [] f up = inl (refl, tt)
  chosen (g ∷ gs) f up =
      choose_step g gs (λ h. best_after g gs h f.0 up.0 f.1 up.1) (chosen gs f.1 up.1) (fits size grain g) refl

  takes_chosen : (gs : List Stretch) (best : Option Stretch) → Chosen gs best → Takes Tighter gs size grain (taken size grain best)
  unfolding Chosen
  takes_chosen gs best (inl n) = subst (λ o. Takes Tighter gs size grain (taken size grain o)) (sym n.0) n.1
  takes_chosen gs best (inr r) =
      subst (λ o. Takes Tighter gs size grain (taken size grain o)) (sym r.1)
      (subst (λ b. Takes Tighter gs size grain (cond b (Some (answer_from r.0 size grain)) None)) (sym (le-leb (place_in r.0 grain + size) r.0.end r.2))
      (any_at
      (λ g. Holds g size grain × (answer_from r.0 size grain ≡ answer_from g size grain) × Every (λ h. Holds h size grain → Tighter g h) gs)
      r.0 gs r.3 (r.2, refl, r.4)))

filled_gaps : (gs : List Stretch) (size grain : ℕ) → Proper gs size grain → Filled gs
filled_gaps gs size grain p = All-weaker (λ g. (g.start < g.end) × (g.end ≤ 4294967295)) (λ g. g.start < g.end) (λ g l. l.0) gs p.gaps_in_range

-- first_of is first fit
pub first_takes_the_lowest : IsFirstFit first_of
first_takes_the_lowest gs size grain p = first_takes_lowest size grain gs (filled_gaps gs size grain p) p.ascending

-- best_of is best fit
pub best_takes_the_tightest : IsBestFit best_of
best_takes_the_tightest gs size grain p =
    takes_chosen size grain gs (best_from size grain None gs) (chosen size grain gs (filled_gaps gs size grain p) p.ascending)
