-- Placing is determined: one layout, or one object of one bank that lacks space, and never both.
use Rattle.std.proofs.Common.{◌≡◌, ℕ, zero, suc, ◌<◌, cond, ◌⊎◌, None, sym, ◌∙◌, subst, inl, inr, ⊎_elim, arith}
use Rattle.std.proofs.lemmas.Bool.{cases_eq, cases_order, cond-true, cond-false}
use Rattle.rules.specs.Lists.{◌∈◌}
use Rattle.rules.specs.Fitting.{Rule}
use Rattle.rules.specs.Fabrics.{Meaning}
use Rattle.rules.specs.Sheets.{Sheet}
use Rattle.rules.specs.Placing.{Places, Placing, Full, LacksSpace}
use Rattle.rules.specs.Layouts.{home, bank_of, Layout, LaidOut, NoRoom}
use Rattle.rules.specs.PlacingLaws.{PlacingIsDetermined}
use Rattle.rules.proofs.Excluding.{excludes}
use Rattle.rules.proofs.Banks.{has_home}
use Rattle.rules.proofs.Agreeing.{one_placing, placing_alike, none_lacks, one_lacks}
use Rattle.rules.proofs.Rounds.{placing_exists, full_or_lacks}

module _ (s : Sheet) (m : Meaning) (rule : Rule) where
  -- the placing equation of each bank has a solution
  solution : (b : ℕ) → (places : Places) × Placing (bank_of s m b) rule places
  solution b = placing_exists (bank_of s m b) (excludes s) rule

  abbrev FullAt : ℕ → Type 0
  FullAt b = Full (bank_of s m b) (solution b).0

  abbrev LacksAt : ℕ → ℕ → Type 0
  LacksAt b x = LacksSpace (bank_of s m b) rule (solution b).0 x

  -- the first n banks are full, or one of them is the first that is not
  first_short : (n : ℕ) → ((b : ℕ) → b < n → FullAt b) ⊎ ((b : ℕ) × (x : ℕ) × (b < n) × LacksAt b x × ((c : ℕ) → c < b → FullAt c))
  first_short zero = inl (λ b l. absurd (omega arith))
  first_short (suc n) =
      ⊎_elim
      (λ lower. ⊎_elim
      (λ full. inl (λ b l. ⊎_elim (λ e. subst FullAt (sym e) full) (λ d. lower b (omega arith)) (cases_eq b n)))
      (λ lacks. inr (n, lacks.0, omega arith, lacks.1, lower))
      (full_or_lacks (bank_of s m n) (excludes s) rule (solution n).0 (solution n).1))
      (λ short. inr (short.0, short.1, omega (arith, short.2), short.3, short.4))
      (first_short n)

  -- the solutions, at the homes alone
  layout : Layout
  layout b x = cond (home s m b x) ((solution b).0 x) None

  at_home : (b x : ℕ) → x ∈ (bank_of s m b).objects → (solution b).0 x ≡ layout b x
  unfolding layout
  at_home b x i = sym (cond-true (home s m b x) ((solution b).0 x) None (has_home s m b x i))

  laid_out : ((b : ℕ) → b < m.banks → FullAt b) → LaidOut s m rule layout
  unfolding layout
  laid_out full =
      record {
        by_the_rule = λ b l. placing_alike (bank_of s m b) rule (solution b).0 (layout b) (at_home b) (solution b).1;
        full = λ b l x i. let p = full b l x i in (p.0, sym (at_home b x i) ∙ p.1);
        nowhere_else = λ b x f. cond-false (home s m b x) ((solution b).0 x) None f;
      }

  some_outcome : ((places : Layout) × LaidOut s m rule places) ⊎ ((b : ℕ) × (x : ℕ) × NoRoom s m rule b x)
  some_outcome =
      ⊎_elim
      (λ full. inl (layout, laid_out full))
      (λ short. inr (
        short.0,
        short.1,
        record {
          bank = short.2;
          places = λ b. (solution b).0;
          lacks = short.3;
          lower_by_the_rule = λ c l. (solution c).1;
          lower_full = short.4;
        },
      ))
      (first_short m.banks)

  -- where a higher bank lacks space, no object of a lower one does
  not_lower : (b c x y : ℕ) → NoRoom s m rule b x → NoRoom s m rule c y → b < c → ⊥
  not_lower b c x y N M l =
      none_lacks (bank_of s m b) rule (M.places b) (N.places b) x (M.lower_by_the_rule b l) (M.lower_full b l) N.lacks

  one_no_room : (b c x y : ℕ) → NoRoom s m rule b x → NoRoom s m rule c y → (b ≡ c) × (x ≡ y)
  one_no_room b c x y N M =
      ⊎_elim
      (λ e. (
        e,
        one_lacks (bank_of s m b) rule (N.places b) (M.places b) x y N.lacks
            (subst (λ k. LacksSpace (bank_of s m k) rule (M.places k) y) (sym e) M.lacks),
      ))
      (⊎_elim (λ l. absurd (not_lower b c x y N M l)) (λ l. absurd (not_lower c b y x M N l)))
      (cases_order b c)

pub placing_is_determined : PlacingIsDetermined
placing_is_determined s m rule =
    record {
      some = some_outcome s m rule;
      one_layout = λ places others L K b x l i.
          one_placing (bank_of s m b) rule (places b) (others b) (L.by_the_rule b l) (K.by_the_rule b l) x i;
      one_no_room = one_no_room s m rule;
      never_both = λ places b x L N.
          none_lacks (bank_of s m b) rule (places b) (N.places b) x (L.by_the_rule b N.bank) (L.full b N.bank) N.lacks;
    }
