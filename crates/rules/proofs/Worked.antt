-- The worked examples.
use Rattle.rules.specs.Examples.{WorkedExamples}
use Rattle.rules.proofs.SampleExclusions.{exclusions_of_A, a_delayed_fifo_excludes_all}
use Rattle.rules.proofs.SamplePrints.{A_is_accepted, A_prints, A_in_21_bytes, A_in_20_bytes, A_at_grain_8, A_in_three_banks, A_with_a_delayed_fifo, B_prints, B_ordered, equal_sizes}
use Rattle.rules.proofs.SampleAnswers.{first_of_5, best_of_5, first_of_60, best_of_60, first_of_61, best_of_61, best_at_grain_8, best_of_equal_gaps, low_outside_snug, snug_outside_low}
use Rattle.rules.proofs.SampleOrders.{lean_order_of_A, peak_of_A}

-- all of them hold
pub worked_examples : WorkedExamples
worked_examples =
    record {
      A_is_accepted = A_is_accepted;
      exclusions_of_A = exclusions_of_A;
      a_delayed_fifo_excludes_all = a_delayed_fifo_excludes_all;
      A_prints = A_prints;
      A_in_21_bytes = A_in_21_bytes;
      A_in_20_bytes = A_in_20_bytes;
      A_at_grain_8 = A_at_grain_8;
      A_in_three_banks = A_in_three_banks;
      A_with_a_delayed_fifo = A_with_a_delayed_fifo;
      B_prints = B_prints;
      B_ordered = B_ordered;
      equal_sizes = equal_sizes;
      first_of_5 = first_of_5;
      best_of_5 = best_of_5;
      first_of_60 = first_of_60;
      best_of_60 = best_of_60;
      first_of_61 = first_of_61;
      best_of_61 = best_of_61;
      best_at_grain_8 = best_at_grain_8;
      best_of_equal_gaps = best_of_equal_gaps;
      low_outside_snug = low_outside_snug;
      snug_outside_low = snug_outside_low;
      lean_order_of_A = lean_order_of_A;
      peak_of_A = peak_of_A;
    }
