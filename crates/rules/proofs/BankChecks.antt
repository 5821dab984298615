-- The places of one bank, checked: the rule's answer to the gaps that each object sees, and the footprint.
use Rattle.std.proofs.Common.{◌≡◌, ℕ, ◌+◌, ◌<◌, ◌≤◌, Bool, true, false, ◌&&◌, ◌||◌, eqb, ltb, leb, List, Some, None, Option, sym, refl, ap, ◌∙◌, subst, inl, inr, ⊎_elim}
use Rattle.std.specs.Option.{option_map}
use Rattle.std.proofs.lemmas.Bool.{and_parts, and_from, or_cases, or_left, or_right, eqb-true, eq-eqb, ltb-true, lt-ltb, leb-true, le-leb, true≢false}
use Rattle.rules.specs.declared.memory.Stretch.{Stretch}
use Rattle.rules.specs.Lists.{◌∈◌}
use Rattle.rules.specs.Fitting.{Rule}
use Rattle.rules.specs.Placing.{Bank, Places, Earlier, Taken, ByTheRule, Placing, Full, LacksSpace, Footprint}
use Rattle.rules.proofs.Checking.{unless, unless_so, all_of, all_of_so, any_of, any_of_so, so_any_of, is_among, is_among_so}
use Rattle.rules.proofs.GapChecks.{are_gaps, gaps_so, gaps_from}

-- ---- turns and bytes

-- whether x has its turn before y
unfoldable pub is_earlier : Bank → ℕ → ℕ → Bool
is_earlier bank x y = ltb (bank.size y) (bank.size x) || (eqb (bank.size x) (bank.size y) && ltb x y)

earlier_so : (bank : Bank) (x y : ℕ) → is_earlier bank x y ≡ true → Earlier bank x y
unfolding is_earlier
earlier_so bank x y t =
    ⊎_elim (λ l. inl (ltb-true (bank.size y) (bank.size x) l))
    (λ e. let p = and_parts (eqb (bank.size x) (bank.size y)) (ltb x y) e in inr (eqb-true (bank.size x) (bank.size y) p.0, ltb-true x y p.1))
    (or_cases (ltb (bank.size y) (bank.size x)) (eqb (bank.size x) (bank.size y) && ltb x y) t)

so_earlier : (bank : Bank) (x y : ℕ) → Earlier bank x y → is_earlier bank x y ≡ true
unfolding is_earlier
so_earlier bank x y (inl l) =
    or_left (ltb (bank.size y) (bank.size x)) (eqb (bank.size x) (bank.size y) && ltb x y) (lt-ltb (bank.size y) (bank.size x) l)
so_earlier bank x y (inr e) =
    or_right (ltb (bank.size y) (bank.size x)) (eqb (bank.size x) (bank.size y) && ltb x y)
    (and_from (eqb (bank.size x) (bank.size y)) (ltb x y) (eq-eqb (bank.size x) (bank.size y) e.0) (lt-ltb x y e.1))

-- whether what is so placed, of that size, lies on a byte
unfoldable pub lies_on : Option ℕ → ℕ → ℕ → Bool
lies_on None size b = false
lies_on (Some p) size b = leb p b && ltb b (p + size)

lies_on_so : (o : Option ℕ) (size b : ℕ) → lies_on o size b ≡ true → (p : ℕ) × (o ≡ Some p) × (p ≤ b) × (b < p + size)
unfolding lies_on
lies_on_so None size b t = absurd (true≢false (sym t))
lies_on_so (Some p) size b t =
    let q = and_parts (leb p b) (ltb b (p + size)) t in (p, refl, leb-true p b q.0, ltb-true b (p + size) q.1)

so_lies_on : (o : Option ℕ) (size b p : ℕ) → o ≡ Some p → p ≤ b → b < p + size → lies_on o size b ≡ true
unfolding lies_on
so_lies_on o size b p e l k =
    subst (λ o. lies_on o size b ≡ true) (sym e) (and_from (leb p b) (ltb b (p + size)) (le-leb p b l) (lt-ltb b (p + size) k))

-- whether y takes a byte from x
unfoldable pub takes : Bank → (ℕ → ℕ → Bool) → Places → ℕ → ℕ → ℕ → Bool
unfolding is_earlier lies_on
takes bank excluding places x b y = is_earlier bank y x && (excluding y x && lies_on (places y) (bank.size y) b)

-- whether a byte is taken when x has its turn
unfoldable pub is_taken : Bank → (ℕ → ℕ → Bool) → Places → ℕ → ℕ → Bool
unfolding any_of takes
is_taken bank excluding places x b = any_of (takes bank excluding places x b) bank.objects

-- whether a place is the one that an answer has
unfoldable pub same_place : Option ℕ → Option ℕ → Bool
same_place None None = true
same_place None (Some q) = false
same_place (Some p) None = false
same_place (Some p) (Some q) = eqb p q

same_place_so : (o q : Option ℕ) → same_place o q ≡ true → o ≡ q
unfolding same_place
same_place_so None None t = refl
same_place_so None (Some q) t = absurd (true≢false (sym t))
same_place_so (Some p) None t = absurd (true≢false (sym t))
same_place_so (Some p) (Some q) t = ap Some (eqb-true p q t)

-- whether there is a place
unfoldable pub has_place : Option ℕ → Bool
has_place None = false
has_place (Some p) = true

-- and then there is one
pub has_place_so : (o : Option ℕ) → has_place o ≡ true → (p : ℕ) × (o ≡ Some p)
unfolding has_place
has_place_so None t = absurd (true≢false (sym t))
has_place_so (Some p) t = (p, refl)

-- whether the rule, asked about these gaps, gives x its place
unfoldable pub is_answered : Bank → Rule → Places → ℕ → (ℕ → Bool) → List Stretch → Bool
unfolding are_gaps same_place
is_answered bank rule places x taken gs =
    are_gaps bank.capacity taken gs && same_place (places x) (option_map (λ a. a.0) (rule gs (bank.size x) bank.grain))

-- whether x goes where the rule says
unfoldable pub is_placed : Bank → (ℕ → ℕ → Bool) → Rule → Places → ℕ → Bool
unfolding is_answered is_taken gaps_from
is_placed bank excluding rule places x =
    is_answered bank rule places x (is_taken bank excluding places x) (gaps_from 0 bank.capacity (is_taken bank excluding places x))

-- whether every object of the bank goes where the rule says, and has its place
unfoldable pub is_filled : Bank → (ℕ → ℕ → Bool) → Rule → Places → Bool
unfolding all_of is_placed has_place
is_filled bank excluding rule places = all_of (λ x. is_placed bank excluding rule places x && has_place (places x)) bank.objects

-- whether x is the first by turn that no gap holds
unfoldable pub is_lacking : Bank → (ℕ → ℕ → Bool) → Rule → Places → ℕ → Bool
unfolding unless all_of is_among is_earlier is_placed same_place has_place
is_lacking bank excluding rule places x =
    is_among x bank.objects && (is_placed bank excluding rule places x && (same_place (places x) None
    && all_of (λ y. unless (is_earlier bank y x) (is_placed bank excluding rule places y && has_place (places y))) bank.objects))

module _ (bank : Bank) (excluding : ℕ → ℕ → Bool) (to : (x y : ℕ) → excluding x y ≡ true → bank.Excludes x y)
    (back : (x y : ℕ) → bank.Excludes x y → excluding x y ≡ true) (rule : Rule) (places : Places) where
  taken_so : (x b : ℕ) → is_taken bank excluding places x b ≡ true → Taken bank places x b
  unfolding is_taken takes
  taken_so x b t =
      let r = any_of_so (takes bank excluding places x b) bank.objects t in
      let y = r.0 in
      let p = and_parts (is_earlier bank y x) (excluding y x && lies_on (places y) (bank.size y) b) r.2 in
      let q = and_parts (excluding y x) (lies_on (places y) (bank.size y) b) p.1 in
      (y, r.1, earlier_so bank y x p.0, to y x q.0, lies_on_so (places y) (bank.size y) b q.1)

  so_taken : (x b : ℕ) → Taken bank places x b → is_taken bank excluding places x b ≡ true
  unfolding is_taken takes
  so_taken x b t =
      let y = t.0 in
      let l = t.4 in
      so_any_of (takes bank excluding places x b) bank.objects y t.1
      (and_from (is_earlier bank y x) (excluding y x && lies_on (places y) (bank.size y) b) (so_earlier bank y x t.2)
      (and_from (excluding y x) (lies_on (places y) (bank.size y) b) (back y x t.3) (so_lies_on (places y) (bank.size y) b l.0 l.1 l.2 l.3)))

  -- x goes where the rule says, where the test passes
  pub placed_so : (x : ℕ) → is_placed bank excluding rule places x ≡ true → ByTheRule bank rule places x
  unfolding is_placed is_answered
  placed_so x t =
      let taken : ℕ → Bool = is_taken bank excluding places x in
      let gs : List Stretch = gaps_from 0 bank.capacity taken in
      let p = and_parts (are_gaps bank.capacity taken gs) (same_place (places x) (option_map (λ a. a.0) (rule gs (bank.size x) bank.grain))) t in (
        gs,
        gaps_so bank.capacity (Taken bank places x) taken (taken_so x) (so_taken x) gs p.0,
        same_place_so (places x) (option_map (λ a. a.0) (rule gs (bank.size x) bank.grain)) p.1,
      )

  each_filled : is_filled bank excluding rule places ≡ true → (x : ℕ) → x ∈ bank.objects →
      (is_placed bank excluding rule places x ≡ true) × (has_place (places x) ≡ true)
  unfolding is_filled
  each_filled t x m =
      and_parts (is_placed bank excluding rule places x) (has_place (places x))
      (all_of_so (λ x. is_placed bank excluding rule places x && has_place (places x)) bank.objects t x m)

  -- the bank is placed by the rule
  pub placing_so : is_filled bank excluding rule places ≡ true → Placing bank rule places
  placing_so t x m = placed_so x (each_filled t x m).0

  -- and full
  pub full_so : is_filled bank excluding rule places ≡ true → Full bank places
  full_so t x m = has_place_so (places x) (each_filled t x m).1

  -- x is the first by turn that no gap holds
  pub lacking_so : (x : ℕ) → is_lacking bank excluding rule places x ≡ true → LacksSpace bank rule places x
  unfolding is_lacking
  lacking_so x t =
      let before : ℕ → Bool = λ y. unless (is_earlier bank y x) (is_placed bank excluding rule places y && has_place (places y)) in
      let p = and_parts (is_among x bank.objects) (is_placed bank excluding rule places x && (same_place (places x) None && all_of before bank.objects)) t in
      let q = and_parts (is_placed bank excluding rule places x) (same_place (places x) None && all_of before bank.objects) p.1 in
      let r = and_parts (same_place (places x) None) (all_of before bank.objects) q.1 in
      record {
        of_the_bank = is_among_so x bank.objects p.0;
        by_the_rule = placed_so x q.0;
        absent = same_place_so (places x) None r.0;
        earlier_by_the_rule = λ y m e. placed_so y (each y (all_of_so before bank.objects r.1 y m) e).0;
        earlier_placed = λ y m e. has_place_so (places y) (each y (all_of_so before bank.objects r.1 y m) e).1;
      }
    where
      each : (y : ℕ) → unless (is_earlier bank y x) (is_placed bank excluding rule places y && has_place (places y)) ≡ true → Earlier bank y x →
          (is_placed bank excluding rule places y ≡ true) × (has_place (places y) ≡ true)
      each y u e =
          and_parts (is_placed bank excluding rule places y) (has_place (places y))
          (unless_so (is_earlier bank y x) (is_placed bank excluding rule places y && has_place (places y)) u (so_earlier bank y x e))

-- ---- the footprint

-- the end of what is so placed, 0 where it is not
unfoldable pub end_of : Option ℕ → ℕ → ℕ
end_of None size = 0
end_of (Some p) size = p + size

-- whether f is the highest end of the bank
unfoldable pub is_footprint : Bank → Places → ℕ → Bool
unfolding all_of any_of end_of has_place same_place
is_footprint bank places f =
    all_of (λ x. leb (end_of (places x) (bank.size x)) f) bank.objects
    && (any_of (λ x. has_place (places x) && eqb f (end_of (places x) (bank.size x))) bank.objects
    || (eqb f 0 && all_of (λ x. same_place (places x) None) bank.objects))

-- where the test passes, f is the footprint
pub footprint_so : (bank : Bank) (places : Places) (f : ℕ) → is_footprint bank places f ≡ true → Footprint bank places f
unfolding is_footprint end_of
footprint_so bank places f t =
    let low : ℕ → Bool = λ x. leb (end_of (places x) (bank.size x)) f in
    let at : ℕ → Bool = λ x. has_place (places x) && eqb f (end_of (places x) (bank.size x)) in
    let bare : ℕ → Bool = λ x. same_place (places x) None in
    let p = and_parts (all_of low bank.objects) (any_of at bank.objects || (eqb f 0 && all_of bare bank.objects)) t in
    record {
      no_end_above = λ x p₁ m e.
          subst (λ o. end_of o (bank.size x) ≤ f) e (leb-true (end_of (places x) (bank.size x)) f (all_of_so low bank.objects p.0 x m));
      an_end_or_nothing =
          ⊎_elim
          (λ a.
          let r = any_of_so at bank.objects a in
          let x = r.0 in
          let q = and_parts (has_place (places x)) (eqb f (end_of (places x) (bank.size x))) r.2 in
          let h = has_place_so (places x) q.0 in
          inl (x, h.0, r.1, h.1, eqb-true f (end_of (places x) (bank.size x)) q.1 ∙ ap (λ o. end_of o (bank.size x)) h.1))
          (λ b.
          let q = and_parts (eqb f 0) (all_of bare bank.objects) b in
          inr (eqb-true f 0 q.0, λ x m. same_place_so (places x) None (all_of_so bare bank.objects q.1 x m)))
          (or_cases (any_of at bank.objects) (eqb f 0 && all_of bare bank.objects) p.1);
    }
