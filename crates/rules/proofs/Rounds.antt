-- Where exclusion is decided the placing equation has a solution, found round by round; and one that places all objects,
-- or a first object that lacks space.
use Rattle.std.proofs.Common.{◌≡◌, ℕ, zero, suc, ◌+◌, ◌≤◌, ◌⊎◌, List, Some, None, Option, refl, ap, inl, inr, ⊎_elim, arith}
use Rattle.std.specs.Option.{option_map}
use Rattle.rules.specs.declared.memory.Stretch.{Stretch}
use Rattle.rules.specs.Lists.{◌∈◌, total}
use Rattle.rules.specs.Stretches.{Gaps}
use Rattle.rules.specs.Fitting.{Rule}
use Rattle.rules.specs.Placing.{Bank, Places, Earlier, LiesOn, Taken, Placing, Full, LacksSpace}
use Rattle.rules.proofs.Deciding.{Decided, turned, both, any_decided}
use Rattle.rules.proofs.Members.{any_at}
use Rattle.rules.proofs.Joined.{some_one}
use Rattle.rules.proofs.Scan.{covers?, gaps_exist}
use Rattle.rules.proofs.Turns.{earlier?, by_turns, turn, up_to_own, up_to_step, up_to_all}
use Rattle.rules.proofs.Placed.{some_or_none}
use Rattle.rules.proofs.Agreeing.{AgreeBefore, same_gaps}

-- whether a value is absent
pub absent? : {A : Type 0} (o : Option A) → (o ≡ None) ⊎ ((a : A) × (o ≡ Some a))
absent? None = inl refl
absent? (Some a) = inr (a, refl)

module _ (bank : Bank) (excludes? : (x y : ℕ) → Decided (bank.Excludes x y)) where
  -- whether an object lies on a byte
  lies? : (places : Places) (x b : ℕ) → Decided (LiesOn bank places x b)
  lies? places x b =
      ⊎_elim
      (λ none. inr (λ on. some_or_none (places x) on.0 on.1 none))
      (λ some. turned
      (λ c. (some.0, some.1, c.0, c.1))
      (λ on. let e : some.0 ≡ on.0 = same_place (places x) some.0 on.0 some.1 on.1 in (omega (arith, on.2), omega (arith, on.3)))
      (covers? (record { start = some.0; end = some.0 + bank.size x }) b))
      (absent? (places x))
    where
      same_place : (o : Option ℕ) (p q : ℕ) → o ≡ Some p → o ≡ Some q → p ≡ q
      same_place o p q e f = cc

  -- whether a byte is taken when x has its turn
  taken? : (places : Places) (x b : ℕ) → Decided (Taken bank places x b)
  taken? places x b =
      let Takes : ℕ → Type 0 = λ y. Earlier bank y x × (bank.Excludes y x × LiesOn bank places y b) in
      turned
      (λ a. let r = some_one Takes bank.objects a in (r.0, r.1, r.2.0, r.2.1.0, r.2.1.1))
      (λ t. any_at Takes t.0 bank.objects t.1 (t.2, (t.3, t.4)))
      (any_decided Takes (λ y. both (earlier? bank y x) (λ e. both (excludes? y x) (λ k. lies? places y b))) bank.objects)

  -- the gaps that x sees
  seen : (places : Places) (x : ℕ) → (gs : List Stretch) × Gaps bank.capacity (Taken bank places x) gs
  seen places x = gaps_exist bank.capacity (Taken bank places x) (taken? places x)

  module _ (rule : Rule) where
    -- where the rule puts each object, asked about the gaps that some places leave
    replaced : Places → Places
    replaced places x = option_map (λ a. a.0) (rule (seen places x).0 (bank.size x) bank.grain)

    replaced_alike : (one other : Places) (x : ℕ) → AgreeBefore bank one other x → replaced one x ≡ replaced other x
    unfolding replaced
    replaced_alike one other x same =
        ap (λ gs. option_map (λ a. a.0) (rule gs (bank.size x) bank.grain))
        (same_gaps bank one other x same (seen one x).0 (seen other x).0 (seen one x).1 (seen other x).1)

    after_rounds : ℕ → Places
    after_rounds zero x = None
    after_rounds (suc n) x = replaced (after_rounds n) x

    -- from its turn on the rounds leave an object where it is
    settled : (x : ℕ) → x ∈ bank.objects → (n : ℕ) → turn bank x ≤ n → after_rounds n x ≡ after_rounds (suc n) x
    unfolding after_rounds
    settled = by_turns bank (λ x. (n : ℕ) → turn bank x ≤ n → after_rounds n x ≡ after_rounds (suc n) x) next
      where
        next : (x : ℕ) → x ∈ bank.objects →
            ((y : ℕ) → y ∈ bank.objects → Earlier bank y x → (n : ℕ) → turn bank y ≤ n → after_rounds n y ≡ after_rounds (suc n) y) →
            (n : ℕ) → turn bank x ≤ n → after_rounds n x ≡ after_rounds (suc n) x
        next x m before zero l = let own = up_to_own bank (λ y. 1) x m in absurd (omega arith)
        next x m before (suc n) l =
            replaced_alike (after_rounds n) (after_rounds (suc n)) x
            (λ y i e. let step = up_to_step bank (λ y. 1) y x m e in before y i e n (omega arith))

    -- the placing equation has a solution
    pub placing_exists : (places : Places) × Placing bank rule places
    unfolding after_rounds replaced
    placing_exists =
        let n = total (λ y. 1) bank.objects in
        let places = after_rounds n in
        (places, λ x m. ((seen places x).0, (seen places x).1, settled x m n (up_to_all bank (λ y. 1) x)))

    module _ (places : Places) (placing : Placing bank rule places) where
      none? : (y : ℕ) → Decided (places y ≡ None)
      none? y = ⊎_elim inl (λ p. inr (λ e. some_or_none (places y) p.0 p.1 e)) (absent? (places y))

      -- an object that has no place is the first by turn, or another is
      first_absent : (x : ℕ) → x ∈ bank.objects → places x ≡ None → (z : ℕ) × LacksSpace bank rule places z
      first_absent = by_turns bank (λ x. places x ≡ None → (z : ℕ) × LacksSpace bank rule places z) next
        where
          next : (x : ℕ) → x ∈ bank.objects →
              ((y : ℕ) → y ∈ bank.objects → Earlier bank y x → places y ≡ None → (z : ℕ) × LacksSpace bank rule places z) →
              places x ≡ None → (z : ℕ) × LacksSpace bank rule places z
          next x m before none =
              let Sooner : ℕ → Type 0 = λ y. Earlier bank y x × (places y ≡ None) in
              ⊎_elim
              (λ a. let r = some_one Sooner bank.objects a in before r.0 r.1 r.2.0 r.2.1)
              (λ no_other. (
                x,
                record {
                  of_the_bank = m;
                  by_the_rule = placing x m;
                  absent = none;
                  earlier_by_the_rule = λ y i e. placing y i;
                  earlier_placed = λ y i e.
                      ⊎_elim (λ a. absurd (no_other (any_at Sooner y bank.objects i (e, a)))) (λ p. p) (absent? (places y));
                },
              ))
              (any_decided Sooner (λ y. both (earlier? bank y x) (λ e. none? y)) bank.objects)

      -- all objects have a place, or one is the first that lacks space
      pub full_or_lacks : Full bank places ⊎ ((z : ℕ) × LacksSpace bank rule places z)
      full_or_lacks =
          ⊎_elim
          (λ a. let r = some_one (λ y. places y ≡ None) bank.objects a in inr (first_absent r.0 r.1 r.2))
          (λ no_one. inl (λ x m. ⊎_elim (λ a. absurd (no_one (any_at (λ y. places y ≡ None) x bank.objects m a))) (λ p. p) (absent? (places x))))
          (any_decided (λ y. places y ≡ None) none? bank.objects)
