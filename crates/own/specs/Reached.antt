-- Two shared banks give homes as they should.
use Rattle.std.specs.Prelude.{◌≡◌, ℕ, ◌<◌, Bool, true, false, cond, ◌==◌, count_ones, refl}
use Rattle.std.proofs.Common.{sym, ◌∙◌, arith}
use Rattle.std.proofs.lemmas.Bool.{eqb-true, lt-ltb}
use Rattle.rules.specs.Fabrics.{Homely, OfOneOrTwo, member}
use Rattle.words.proofs.Bits.{bit_pow}
use Rattle.rules.proofs.Homes.{unified_homely}
use Rattle.own.specs.Twins.{twin}

-- one of the two banks alone, and every core reaches it
pub record Sole (homes : ℕ) : Type 0 where
  pub home : ℕ
  pub set : member homes home ≡ true
  pub known : home < 2
  pub alone : (b : ℕ) → member homes b ≡ true → home ≡ b

sole : (lone : Bool) → Sole (cond lone 1 2)
sole true = record { home = 0; set = refl; known = omega arith; alone = λ b m. eqb-true 0 b (sym (bit_pow 0 b) ∙ m) }
sole false = record { home = 1; set = refl; known = omega arith; alone = λ b m. eqb-true 1 b (sym (bit_pow 1 b) ∙ m) }

pub twin_homely : (cores lone joint touching : ℕ) → OfOneOrTwo cores touching → Homely (twin cores lone joint) touching
twin_homely cores lone joint touching set =
    let s = sole (count_ones touching == 1) in
    let some = (unified_homely cores touching set lone).each_is_reached 0 refl in
    record {
      each_reaches = λ c m. (s.home, s.set, lt-ltb s.home 2 s.known);
      homes_are_banks = λ b m. let e = s.alone b m in omega arith;
      each_is_reached = λ b m. let e = s.alone b m in (some.0, some.1, lt-ltb b 2 (omega arith));
    }
