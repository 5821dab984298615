-- What a question from outside meets.
use Rattle.std.proofs.Common.{◌≡◌, ℕ, ◌<◌, ◌≤◌, Bool, true, false, cond, ◌&&◌, leb, List, length, Ok, Err, refl, arith}
use Rattle.std.proofs.ByRecursion.{All-weaker}
use Rattle.std.proofs.lemmas.Bool.{and_from, and_parts, both_ways, le-leb, leb-true, leb-false}
use Rattle.rules.specs.declared.memory.Stretch.{Stretch}
use Rattle.rules.specs.Fitting.{IsFitRule, Proper, Rule, ascend_from, is_grain}
use Rattle.rules.proofs.Questions.{ascending_from_test, range_from_test, table_from_test, test_from_ascending, test_from_table}
use Rattle.fit.specs.declared.faults.AskFault.TheVariants.{OffRange, TooMany}
use Rattle.fit.specs.Asking.{InRange, Outcome, asked, in_range, off_range, too_many, answered}

module _ (gs : List Stretch) (size grain : ℕ) where
  range_from_tests : in_range gs size grain ≡ true → InRange gs size grain
  range_from_tests t =
      let a = and_parts (leb 1 size) (leb size 16777216 && (is_grain grain && ascend_from 0 gs)) t in
      let b = and_parts (leb size 16777216) (is_grain grain && ascend_from 0 gs) a.1 in
      let c = and_parts (is_grain grain) (ascend_from 0 gs) b.1 in
      let positive = leb-true 1 size a.0 in
      record {
        size_in_range = (omega arith, leb-true size 16777216 b.0);
        grain_on_the_table = table_from_test grain c.0;
        gaps_in_range = range_from_test 0 gs c.1;
        ascending = ascending_from_test 0 gs c.1;
      }

  tests_from_range : InRange gs size grain → in_range gs size grain ≡ true
  tests_from_range r =
      let from = All-weaker (λ g. (g.start < g.end) × (g.end ≤ 4294967295)) (λ g. 0 ≤ g.start) (λ g l. omega arith) gs r.gaps_in_range in
      and_from (leb 1 size) (leb size 16777216 && (is_grain grain && ascend_from 0 gs)) (le-leb 1 size (omega (arith, r.size_in_range.0)))
      (and_from (leb size 16777216) (is_grain grain && ascend_from 0 gs) (le-leb size 16777216 r.size_in_range.1)
      (and_from (is_grain grain) (ascend_from 0 gs) (test_from_table grain r.grain_on_the_table) (test_from_ascending 0 gs from r.ascending r.gaps_in_range)))

  -- a question in range with few gaps is proper
  in_range_proper : in_range gs size grain ≡ true → length gs ≤ 256 → Proper gs size grain
  in_range_proper t few =
      let r = range_from_tests t in
      record {
        size_in_range = r.size_in_range;
        grain_on_the_table = r.grain_on_the_table;
        gaps_in_range = r.gaps_in_range;
        ascending = r.ascending;
        few = few;
      }

  within : (rule : Rule) → IsFitRule rule → in_range gs size grain ≡ true → (b : Bool) → leb (length gs) 256 ≡ b → Outcome rule gs size grain (cond b (Ok (rule gs size grain)) (Err TooMany))
  within rule lawful t true e =
      let proper = in_range_proper t (leb-true (length gs) 256 e) in
      answered proper (lawful gs size grain proper)
  within rule lawful t false e = too_many (range_from_tests t) (leb-false (length gs) 256 e)

  by_range : (rule : Rule) → IsFitRule rule → (b : Bool) → in_range gs size grain ≡ b →
      Outcome rule gs size grain (cond b (cond (leb (length gs) 256) (Ok (rule gs size grain)) (Err TooMany)) (Err OffRange))
  by_range rule lawful true t = within rule lawful t (leb (length gs) 256) refl
  by_range rule lawful false t = off_range (λ r. both_ways (in_range gs size grain) t (tests_from_range r))

  -- what is asked is the outcome
  pub asked_outcome : (rule : Rule) → IsFitRule rule → Outcome rule gs size grain (asked rule gs size grain)
  asked_outcome rule lawful = by_range rule lawful (in_range gs size grain) refl
