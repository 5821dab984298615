-- The homes that the fabrics of the sheet give: they keep the laws of a fabric.
use Rattle.std.proofs.Common.{◌≡◌, ℕ, zero, suc, ◌+◌, ◌*◌, ◌/◌, ◌^◌, ◌<◌, ◌≤◌, Bool, true, false, cond, ◌&&◌, eqb, ltb, sym, refl, ap, ◌∙◌, subst, ⊎_elim, arith}
use Rattle.rules.specs.declared.sheet.Kind.{Kind}
use Rattle.rules.specs.declared.sheet.Kind.TheVariants.{Unified, Private, Hybrid}
use lib.Count.{ones}
use Rattle.std.proofs.lemmas.Nat.{or_lt, pow_below}
use Rattle.std.proofs.lemmas.Bool.{both_ways, cond_both, cases_lt, eq-eqb, eqb-true, or_left, or_right}
use Rattle.words.proofs.Bits.{bit_high, bit_of_or, bit_pow, bit_suc, first_false}
use Rattle.rules.specs.Fabrics.{Homely, Meaning, OfOneOrTwo, hybrid, member, separate, unified, by_kind}
use Rattle.rules.specs.Layouts.{Lawful}
use Rattle.rules.specs.PlacingLaws.{FabricsAreLawful}

module _ (cores touching : ℕ) (set : OfOneOrTwo cores touching) where
  -- the set has cores of the fabric alone, and one at least
  within : touching < 2 ^ cores
  within =
      let a = set.0 in
      let b = set.1 in
      subst (λ w. w < 2 ^ cores) (sym set.4) (or_lt cores (2 ^ a) (2 ^ b) (pow_below a cores set.2) (pow_below b cores set.3))

  a_core : (c : ℕ) → member touching c ≡ true → c < cores
  a_core c m =
      let below = within in
      ⊎_elim (λ l. l) (λ past. absurd (both_ways (member touching c) (bit_high touching cores c below past) m)) (cases_lt c cores)

  some_core : (c : ℕ) × (member touching c ≡ true)
  some_core =
      let a = set.0 in
      let b = set.1 in
      (a, ap (λ w. member w a) set.4 ∙ bit_of_or (2 ^ a) (2 ^ b) a ∙ or_left (member (2 ^ a) a) (member (2 ^ b) a) (bit_pow a a ∙ eq-eqb a a refl))

  -- bank 0 alone
  only_bank : (b : ℕ) → member 1 b ≡ true → 0 ≡ b
  only_bank b m = eqb-true 0 b (sym (bit_pow 0 b) ∙ m)

  -- one shared bank gives homes as it should
  pub unified_homely : (shared : ℕ) → Homely (unified cores shared) touching
  unified_homely shared =
      let some = some_core in
      record {
        each_reaches = λ c m. (0, refl, refl);
        homes_are_banks = λ b m. let z = only_bank b m in omega arith;
        each_is_reached = λ b m. (some.0, some.1, eq-eqb b 0 (sym (only_bank b m)));
      }

  -- so do private banks
  pub separate_homely : (private : ℕ) → Homely (separate cores private) touching
  separate_homely private =
      record {
        each_reaches = λ c m. (c, m, eq-eqb c c refl);
        homes_are_banks = λ b m. a_core b m;
        each_is_reached = λ b m. (b, m, eq-eqb b b refl);
      }

  -- the private banks of the cores
  own_bank : (c : ℕ) → member touching c ≡ true → member (touching * 2) (c + 1) ≡ true
  own_bank c m =
      let half : touching * 2 / 2 ≡ touching = omega arith in
      ap (member (touching * 2)) (let s : c + 1 ≡ suc c = omega arith in s) ∙ bit_suc (touching * 2) c ∙ ap (λ w. member w c) half ∙ m

  owner : (b : ℕ) → member (touching * 2) b ≡ true → (c : ℕ) × (member touching c ≡ true) × (b ≡ c + 1)
  owner zero m = absurd (both_ways (member (touching * 2) 0) (first_false (touching * 2) (omega arith)) m)
  owner (suc c) m =
      let half : touching ≡ touching * 2 / 2 = omega arith in
      (c, ap (λ w. member w c) half ∙ sym (bit_suc (touching * 2) c) ∙ m, omega arith)

  -- the three facts of `Homely`, of a given set of homes
  Good : Meaning → ℕ → Type 0
  Good m homes =
      ((c : ℕ) → member touching c ≡ true → (b : ℕ) × (member homes b ≡ true) × (m.reaches c b ≡ true))
      × ((b : ℕ) → member homes b ≡ true → b < m.banks)
      × ((b : ℕ) → member homes b ≡ true → (c : ℕ) × (member touching c ≡ true) × (m.reaches c b ≡ true))

  hybrid_good : (shared private : ℕ) (alone : Bool) → Good (hybrid cores shared private) (cond alone (touching * 2) 1)
  unfolding Good
  hybrid_good shared private true = (
    (λ c m. (c + 1, own_bank c m, or_right (eqb (c + 1) 0) (eqb (c + 1) (c + 1)) (eq-eqb (c + 1) (c + 1) refl))),
    (λ b m. let o = owner b m in let l = a_core o.0 o.1 in omega (arith, o.2)),
    λ b m. let o = owner b m in (o.0, o.1, or_right (eqb b 0) (eqb b (o.0 + 1)) (eq-eqb b (o.0 + 1) o.2)),
  )
  hybrid_good shared private false =
      let some = some_core in (
        (λ c m. (0, refl, refl)),
        (λ b m. let z = only_bank b m in omega arith),
        λ b m. (some.0, some.1, or_left (eqb b 0) (eqb b (some.0 + 1)) (eq-eqb b 0 (sym (only_bank b m)))),
      )

  -- so do both together
  pub hybrid_homely : (shared private : ℕ) → Homely (hybrid cores shared private) touching
  unfolding Good
  hybrid_homely shared private =
      let good = hybrid_good shared private (eqb (ones touching) 1 && ltb touching (2 ^ cores)) in
      record { each_reaches = good.0; homes_are_banks = good.1; each_is_reached = good.2 }

lawful_kind : (kind : Kind) (cores shared private : ℕ) → cores ≤ 8 → shared < 2 ^ 32 → private < 2 ^ 32 → Lawful (by_kind kind cores shared private)
lawful_kind Unified cores shared private few s p =
    record {
      few_banks = omega arith;
      capacities_in_range = λ b l. s;
      homely = λ touching set. unified_homely cores touching set shared;
    }
lawful_kind Private cores shared private few s p =
    record {
      few_banks = omega arith;
      capacities_in_range = λ b l. p;
      homely = λ touching set. separate_homely cores touching set private;
    }
lawful_kind Hybrid cores shared private few s p =
    record {
      few_banks = omega arith;
      capacities_in_range = λ b l. cond_both (eqb b 0) shared private (λ n. n < 2 ^ 32) (λ t. s) (λ t. p);
      homely = λ touching set. hybrid_homely cores touching set shared private;
    }

pub fabrics_are_lawful : FabricsAreLawful
fabrics_are_lawful m few s p = lawful_kind m.kind m.cores m.shared m.private few s p
