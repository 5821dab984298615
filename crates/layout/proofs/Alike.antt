-- Banks that are alike hold the same.

use Rattle.std.proofs.Common.{◌≡◌, ℕ, ◌↔◌, sym, ap, ◌∙◌, subst, inl, inr, ⊎_elim, arith}
use Rattle.std.specs.Option.{option_map}
use Rattle.rules.specs.Lists.{◌∈◌}
use Rattle.rules.specs.Stretches.{Gaps}
use Rattle.rules.specs.Fitting.{Rule}
use Rattle.rules.specs.Placing.{Bank, Places, Earlier, Taken, ByTheRule, Placing, Full, LacksSpace, Footprint}
use Rattle.rules.proofs.GapLists.{gaps_to}

-- the same objects, with the same sizes and exclusions
pub record Alike (one other : Bank) : Type 0 where
  pub capacity : one.capacity ≡ other.capacity
  pub grain : one.grain ≡ other.grain
  pub objects : one.objects ≡ other.objects
  pub size : (x : ℕ) → x ∈ one.objects → one.size x ≡ other.size x
  pub excludes : (x y : ℕ) → x ∈ one.objects → y ∈ one.objects → one.Excludes x y ↔ other.Excludes x y

module _ (one other : Bank) (alike : Alike one other) where
  to_objects : (x : ℕ) → x ∈ one.objects → x ∈ other.objects
  to_objects x m = subst (λ xs. x ∈ xs) alike.objects m

  from_objects : (x : ℕ) → x ∈ other.objects → x ∈ one.objects
  from_objects x m = subst (λ xs. x ∈ xs) (sym alike.objects) m

  -- the turns are the same
  earlier_to : (y x : ℕ) → y ∈ one.objects → x ∈ one.objects → Earlier one y x → Earlier other y x
  earlier_to y x i m e =
      let s = alike.size y i in
      let t = alike.size x m in
      ⊎_elim (λ l. inl (omega arith)) (λ l. inr (omega (arith, l.0), l.1)) e

  earlier_from : (y x : ℕ) → y ∈ one.objects → x ∈ one.objects → Earlier other y x → Earlier one y x
  earlier_from y x i m e =
      let s = alike.size y i in
      let t = alike.size x m in
      ⊎_elim (λ l. inl (omega arith)) (λ l. inr (omega (arith, l.0), l.1)) e

  taken_to : (places : Places) (x : ℕ) → x ∈ one.objects → (b : ℕ) → Taken one places x b → Taken other places x b
  taken_to places x m b (y, i, e, k, (p, q, l, h)) =
      let s = alike.size y i in
      (y, to_objects y i, earlier_to y x i m e, (alike.excludes y x i m).0 k, (p, q, l, omega arith))

  taken_from : (places : Places) (x : ℕ) → x ∈ one.objects → (b : ℕ) → Taken other places x b → Taken one places x b
  taken_from places x m b (y, j, e, k, (p, q, l, h)) =
      let i = from_objects y j in
      let s = alike.size y i in
      (y, i, earlier_from y x i m e, (alike.excludes y x i m).1 k, (p, q, l, omega arith))

  module _ (rule : Rule) where
    by_the_rule_to : (places : Places) (x : ℕ) → x ∈ one.objects → ByTheRule one rule places x → ByTheRule other rule places x
    by_the_rule_to places x m (gs, G, e) = (
      gs,
      subst (λ n. Gaps n (Taken other places x) gs) alike.capacity
          (gaps_to one.capacity (Taken one places x) (Taken other places x) (taken_to places x m) (taken_from places x m) gs G),
      e ∙ ap (λ n. option_map (λ (a : ℕ × ℕ). a.0) (rule gs n one.grain)) (alike.size x m)
          ∙ ap (λ n. option_map (λ (a : ℕ × ℕ). a.0) (rule gs (other.size x) n)) alike.grain,
    )

    pub placing_to : (places : Places) → Placing one rule places → Placing other rule places
    placing_to places P x m = let i = from_objects x m in by_the_rule_to places x i (P x i)

    pub full_to : (places : Places) → Full one places → Full other places
    full_to places F x m = F x (from_objects x m)

    pub lacks_to : (places : Places) (x : ℕ) → LacksSpace one rule places x → LacksSpace other rule places x
    lacks_to places x l =
        let m = l.of_the_bank in
        record {
          of_the_bank = to_objects x m;
          by_the_rule = by_the_rule_to places x m l.by_the_rule;
          absent = l.absent;
          earlier_by_the_rule = λ y j e.
              let i = from_objects y j in by_the_rule_to places y i (l.earlier_by_the_rule y i (earlier_from y x i m e));
          earlier_placed = λ y j e. let i = from_objects y j in l.earlier_placed y i (earlier_from y x i m e);
        }

  pub footprint_to : (places : Places) (f : ℕ) → Footprint one places f → Footprint other places f
  footprint_to places f F =
      record {
        no_end_above = λ x p j e. let i = from_objects x j in let s = alike.size x i in let l = F.no_end_above x p i e in omega arith;
        an_end_or_nothing =
            ⊎_elim
            (λ t. let s = alike.size t.0 t.2 in let e = t.4 in inl (t.0, t.1, to_objects t.0 t.2, t.3, omega arith))
            (λ z. inr (z.0, λ x j. z.1 x (from_objects x j)))
            F.an_end_or_nothing;
      }
