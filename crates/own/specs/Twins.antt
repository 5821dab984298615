-- What two shared banks mean.
use Rattle.std.specs.Prelude.{ℕ, cond, ◌==◌, count_ones, nat_lt}
use Rattle.rules.specs.Fabrics.{Meaning}

-- every core reaches both banks: bank 0 is the home of what one core touches, bank 1 of everything else
abbrev pub twin : ℕ → ℕ → ℕ → Meaning
twin cores lone joint =
    record {
      cores = cores;
      banks = 2;
      capacity = λ b. cond (b == 0) lone joint;
      reaches = λ c b. nat_lt b 2;
      homes = λ touching. cond (count_ones touching == 1) 1 2;
    }
