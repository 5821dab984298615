-- The exclusions of the sample sheets, found by computing.
use Rattle.std.proofs.Common.{◌≡◌, ℕ, ◌<◌, true, ◌↔◌, List, [], ◌∷◌, refl}
use Rattle.rules.specs.Exclusion.{Excludes}
use Rattle.rules.specs.Samples.{A, A_on, A_pairs, Listed, one_bank, delayed_fifo}
use Rattle.rules.proofs.Checking.{all_under, all_under_so}
use Rattle.rules.proofs.ExclusionChecks.{is_listed, is_listed_so, exclusions_are, exclusions_so}

-- A excludes exactly the listed pairs
pub exclusions_of_A : (x y : ℕ) → Excludes A x y ↔ Listed x y A_pairs
unfolding exclusions_are
exclusions_of_A = exclusions_so A A_pairs refl

-- the exclusions of A with a FIFO that has initial tokens
abbrev pub D_pairs : List (ℕ × ℕ)
D_pairs = (5, 0) ∷ (5, 1) ∷ (5, 2) ∷ (5, 3) ∷ (5, 4) ∷ A_pairs

exclusions_with_D : exclusions_are (A_on (one_bank 64 1) (delayed_fifo 3 0 2 ∷ [])) D_pairs ≡ true
unfolding exclusions_are
exclusions_with_D = refl

all_listed : all_under 5 (is_listed D_pairs 5) ≡ true
unfolding all_under is_listed
all_listed = refl

-- and the FIFO excludes every other object
pub a_delayed_fifo_excludes_all : (x : ℕ) → x < 5 → Excludes (A_on (one_bank 64 1) (delayed_fifo 3 0 2 ∷ [])) 5 x
a_delayed_fifo_excludes_all x l =
    (exclusions_so (A_on (one_bank 64 1) (delayed_fifo 3 0 2 ∷ [])) D_pairs exclusions_with_D 5 x).1
    (is_listed_so D_pairs 5 x (all_under_so 5 (is_listed D_pairs 5) all_listed x l))
