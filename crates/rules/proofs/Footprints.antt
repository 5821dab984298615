-- Footprints: each bank has one, and it is at most the rounded sizes of all objects.
use Rattle.std.proofs.Common.{◌≡◌, ℕ, ◌+◌, ◌<◌, ◌≤◌, ◌⊎◌, List, [], ◌∷◌, Some, None, Option, sym, refl, ap, ◌∙◌, inl, inr, ⊎_elim, arith}
use Rattle.std.proofs.lemmas.Bool.{cases_lt}
use Rattle.rules.specs.Lists.{◌∈◌, total}
use Rattle.rules.specs.Stretches.{rounded_up}
use Rattle.rules.specs.Fitting.{Rule, IsFitRule}
use Rattle.rules.specs.Placing.{Bank, SoundBank, Places, Earlier, Placing, Footprint}
use Rattle.rules.specs.Layouts.{bank_of}
use Rattle.rules.specs.PlacingLaws.{FootprintsExistOnce, FootprintsAreBounded}
use Rattle.rules.proofs.Rounding.{up_above, up_zero, up_from}
use Rattle.rules.proofs.Turns.{by_turns, up_to, up_to_own, up_to_step, up_to_all}
use Rattle.rules.proofs.Banks.{bank_is_sound}
use Rattle.rules.proofs.Asking.{EndsAt, starts_at_an_end}
use Rattle.rules.proofs.Placed.{grain_above_zero, some_or_none, its_gap, on_the_grain}

module _ (bank : Bank) (places : Places) where
  -- f is the highest end of the objects of a list, 0 if none has a place
  record Highest (xs : List ℕ) (f : ℕ) : Type 0 where
    none_above : (x p : ℕ) → x ∈ xs → places x ≡ Some p → p + bank.size x ≤ f
    an_end :
        ((x : ℕ) × (p : ℕ) × (x ∈ xs) × (places x ≡ Some p) × (f ≡ p + bank.size x))
        ⊎ ((f ≡ 0) × ((x : ℕ) → x ∈ xs → places x ≡ None))

  highest : (xs : List ℕ) → (f : ℕ) × Highest xs f
  highest [] = (0, record { none_above = λ x p i e. absurd i; an_end = inr (refl, λ x i. absurd i) })
  highest (x ∷ xs) = next (highest xs) (places x) refl
    where
      next : ((f : ℕ) × Highest xs f) → (o : Option ℕ) → places x ≡ o → (f : ℕ) × Highest (x ∷ xs) f
      next (f, h) None e = (
        f,
        record {
          none_above = λ y p. ⊎_elim (λ q a. absurd (some_or_none (places x) p (ap places (sym q) ∙ a) e)) (λ i a. h.none_above y p i a);
          an_end =
              ⊎_elim (λ t. inl (t.0, t.1, inr t.2, t.3, t.4)) (λ z. inr (z.0, λ y. ⊎_elim (λ q. ap places q ∙ e) (z.1 y))) h.an_end;
        },
      )
      next (f, h) (Some p) e = ⊎_elim lower higher (cases_lt f (p + bank.size x))
        where
          own : (y q : ℕ) → y ≡ x → places y ≡ Some q → q + bank.size y ≡ p + bank.size x
          own y q same a =
              let at : Some q ≡ Some p = sym a ∙ ap places same ∙ e in
              let eq : q ≡ p = cc in
              let sizes : bank.size y ≡ bank.size x = ap bank.size same in
              omega arith

          lower : f < p + bank.size x → (g : ℕ) × Highest (x ∷ xs) g
          lower l = (
            p + bank.size x,
            record {
              none_above = λ y q. ⊎_elim (λ same a. omega (arith, own y q same a)) (λ i a. omega (arith, h.none_above y q i a));
              an_end = inl (x, p, inl refl, e, refl);
            },
          )

          higher : p + bank.size x ≤ f → (g : ℕ) × Highest (x ∷ xs) g
          higher l = (
            f,
            record {
              none_above = λ y q. ⊎_elim (λ same a. omega (arith, own y q same a)) (λ i a. h.none_above y q i a);
              an_end = ⊎_elim (λ t. inl (t.0, t.1, inr t.2, t.3, t.4)) (λ z. inl (x, p, inl refl, e, omega (arith, z.0))) h.an_end;
            },
          )

  -- a bank has a footprint
  pub footprint_exists : (f : ℕ) × Footprint bank places f
  footprint_exists =
      let r = highest bank.objects in (r.0, record { no_end_above = r.1.none_above; an_end_or_nothing = r.1.an_end })

  -- one footprint is at most the other
  at_most : (f g : ℕ) → Footprint bank places f → Footprint bank places g → f ≤ g
  at_most f g F G =
      ⊎_elim (λ t. let e = t.4 in let l = G.no_end_above t.0 t.1 t.2 t.3 in omega arith) (λ z. omega (arith, z.0)) F.an_end_or_nothing

  -- and one only
  pub footprint_unique : (f g : ℕ) → Footprint bank places f → Footprint bank places g → f ≡ g
  footprint_unique f g F G = omega (arith, at_most f g F G, at_most g f G F)

pub footprints_exist_once : FootprintsExistOnce
footprints_exist_once s m places b =
    let found = footprint_exists (bank_of s m b) (places b) in
    record {
      footprint = found.0;
      is_footprint = found.1;
      only = λ f F. footprint_unique (bank_of s m b) (places b) f found.0 F found.1;
    }

module _ (bank : Bank) (sound : SoundBank bank) (rule : Rule) (lawful : IsFitRule rule) (places : Places) (placing : Placing bank rule places) where
  abbrev weight : ℕ → ℕ
  weight x = rounded_up bank.grain (bank.size x)

  some_grain : 0 < bank.grain
  some_grain = grain_above_zero bank.grain sound.grain_on_the_table

  -- x ends at most as high as the rounded sizes up to its turn
  abbrev EndsByTurn : ℕ → Type 0
  EndsByTurn x = (p : ℕ) → places x ≡ Some p → p + weight x ≤ up_to bank weight x

  at_zero : (x p start : ℕ) → x ∈ bank.objects → p ≡ rounded_up bank.grain start → start ≤ 0 → p + weight x ≤ up_to bank weight x
  at_zero x p start m place none =
      let zeroed : start ≡ 0 = omega arith in
      let up = ap (rounded_up bank.grain) zeroed ∙ up_zero bank.grain some_grain in
      let own = up_to_own bank weight x m in
      omega arith

  behind : (x p start y q : ℕ) → x ∈ bank.objects → p ≡ rounded_up bank.grain start → EndsAt bank places x start y q → EndsByTurn y →
      p + weight x ≤ up_to bank weight x
  behind x p start y q m place at before =
      let on = on_the_grain bank sound places y q (its_gap bank sound places rule lawful y q at.of_the_bank (placing y at.of_the_bank) at.placed) in
      let from : rounded_up bank.grain (q + bank.size y) ≤ q + weight y = up_from bank.grain q (bank.size y) some_grain on in
      let up = ap (rounded_up bank.grain) at.ends in
      let earlier = before q at.placed in
      let step = up_to_step bank weight y x m at.earlier in
      omega arith

  ends_next : (x : ℕ) → x ∈ bank.objects → ((y : ℕ) → y ∈ bank.objects → Earlier bank y x → EndsByTurn y) → EndsByTurn x
  ends_next x m before p e =
      let i = its_gap bank sound places rule lawful x p m (placing x m) e in
      let start = i.gap.start in
      let not_short : up_to bank weight x < p + weight x → ⊥ = λ short.
      ⊎_elim
      (λ some. starts_at_an_end bank places x i.gaps i.are_gaps i.gap i.one_of some
      (λ y q at. omega (arith, behind x p start y q m i.place at (before y at.of_the_bank at.earlier))))
      (λ none. omega (arith, at_zero x p start m i.place none))
      (cases_lt 0 start)
      in
      ⊎_elim (λ short. absurd (not_short short)) (λ enough. enough) (cases_lt (up_to bank weight x) (p + weight x))

  ends_by_turn : (x : ℕ) → x ∈ bank.objects → EndsByTurn x
  ends_by_turn = by_turns bank EndsByTurn ends_next

  -- the footprint is at most the rounded sizes of all
  pub footprint_at_most : (f : ℕ) → Footprint bank places f → f ≤ total (λ x. rounded_up bank.grain (bank.size x)) bank.objects
  footprint_at_most f F =
      ⊎_elim
      (λ t. let e = t.4 in
      let x = t.0 in
      let end = ends_by_turn x t.2 t.1 t.3 in
      let rounded = up_above bank.grain (bank.size x) some_grain in
      let all = up_to_all bank weight x in
      omega arith)
      (λ z. omega (arith, z.0))
      F.an_end_or_nothing

pub footprints_are_bounded : FootprintsAreBounded
footprints_are_bounded s m rule places P lawful L b f l F =
    footprint_at_most (bank_of s m b) (bank_is_sound s m b P l) rule lawful (places b) (L.by_the_rule b l) f F
