-- What the sample texts print, found by computing.
use Rattle.std.proofs.Common.{ℕ, List, [], ◌∷◌, Some, None, Option, refl}
use lib.Count.{ones}
use Rattle.std.specs.Fmt.{digits}
use Rattle.rules.specs.Stretches.{rounded_up}
use Rattle.rules.specs.Reading.{Gives, accepted}
use Rattle.rules.specs.Refusals.{Prints}
use Rattle.rules.specs.Samples.{lines, A, A_on, A_text, A_pairs, one_bank, three_banks, delayed_fifo, ordering, two_areas, on_core_0, B_with}
use Rattle.rules.proofs.Readers.{outcome}
use Rattle.rules.proofs.PrintChecks.{read_so, is_drawn, prints_map, is_stuck, prints_no_room}
use Rattle.rules.proofs.SampleExclusions.{D_pairs}

-- opens the tests of what is printed
unfoldable opened : ℕ
unfolding ones digits rounded_up outcome is_drawn is_stuck
opened = 0

-- the text of A is accepted as A
pub A_is_accepted : Gives (A_text "M U 2 64 0 1" []) (accepted A)
unfolding outcome
A_is_accepted = read_so (A_text "M U 2 64 0 1" []) (accepted A) refl

-- ---- sheet A: places by bank and object, and footprints

abbrev A_places : List (List (Option ℕ))
A_places = (Some 8 ∷ Some 0 ∷ Some 10 ∷ Some 0 ∷ Some 16 ∷ []) ∷ []

abbrev A_places_in_20_bytes : List (List (Option ℕ))
A_places_in_20_bytes = (None ∷ Some 0 ∷ Some 10 ∷ Some 0 ∷ None ∷ []) ∷ []

abbrev A_places_at_grain_8 : List (List (Option ℕ))
A_places_at_grain_8 = (Some 8 ∷ Some 0 ∷ Some 16 ∷ Some 0 ∷ Some 24 ∷ []) ∷ []

abbrev A_places_in_three_banks : List (List (Option ℕ))
A_places_in_three_banks =
    (None ∷ None ∷ Some 0 ∷ None ∷ Some 6 ∷ []) ∷ (None ∷ Some 0 ∷ []) ∷ (Some 8 ∷ None ∷ None ∷ Some 0 ∷ []) ∷ []

abbrev A_places_with_a_delayed_fifo : List (List (Option ℕ))
A_places_with_a_delayed_fifo = (Some 8 ∷ Some 0 ∷ Some 10 ∷ Some 0 ∷ Some 16 ∷ Some 21 ∷ []) ∷ []

-- one bank of 64 bytes
pub A_prints : Prints (A_text "M U 2 64 0 1" [])
    (lines ("LGM 1" ∷ "B 0 21 64" ∷ "O 0 0 8" ∷ "O 1 0 0" ∷ "O 2 0 10" ∷ "O 3 0 0" ∷ "O 4 0 16" ∷ []))
unfolding opened
A_prints =
    prints_map (A_text "M U 2 64 0 1" []) (A_on (one_bank 64 1) []) A_pairs A_places (21 ∷ [])
    (lines ("LGM 1" ∷ "B 0 21 64" ∷ "O 0 0 8" ∷ "O 1 0 0" ∷ "O 2 0 10" ∷ "O 3 0 0" ∷ "O 4 0 16" ∷ []))
    refl refl refl refl refl

-- the same places in just as many bytes as they take
pub A_in_21_bytes : Prints (A_text "M U 2 21 0 1" [])
    (lines ("LGM 1" ∷ "B 0 21 21" ∷ "O 0 0 8" ∷ "O 1 0 0" ∷ "O 2 0 10" ∷ "O 3 0 0" ∷ "O 4 0 16" ∷ []))
unfolding opened
A_in_21_bytes =
    prints_map (A_text "M U 2 21 0 1" []) (A_on (one_bank 21 1) []) A_pairs A_places (21 ∷ [])
    (lines ("LGM 1" ∷ "B 0 21 21" ∷ "O 0 0 8" ∷ "O 1 0 0" ∷ "O 2 0 10" ∷ "O 3 0 0" ∷ "O 4 0 16" ∷ []))
    refl refl refl refl refl

-- places on multiples of 8
pub A_at_grain_8 : Prints (A_text "M U 2 64 0 8" [])
    (lines ("LGM 1" ∷ "B 0 29 64" ∷ "O 0 0 8" ∷ "O 1 0 0" ∷ "O 2 0 16" ∷ "O 3 0 0" ∷ "O 4 0 24" ∷ []))
unfolding opened
A_at_grain_8 =
    prints_map (A_text "M U 2 64 0 8" []) (A_on (one_bank 64 8) []) A_pairs A_places_at_grain_8 (29 ∷ [])
    (lines ("LGM 1" ∷ "B 0 29 64" ∷ "O 0 0 8" ∷ "O 1 0 0" ∷ "O 2 0 16" ∷ "O 3 0 0" ∷ "O 4 0 24" ∷ []))
    refl refl refl refl refl

-- one shared bank and two private ones
pub A_in_three_banks : Prints (A_text "M H 2 64 64 1" [])
    (lines ("LGM 1" ∷ "B 0 11 64" ∷ "B 1 10 64" ∷ "B 2 12 64" ∷ "O 0 2 8" ∷ "O 1 1 0" ∷ "O 2 0 0" ∷ "O 3 2 0" ∷ "O 4 0 6" ∷ []))
unfolding opened
A_in_three_banks =
    prints_map (A_text "M H 2 64 64 1" []) (A_on three_banks []) A_pairs A_places_in_three_banks (11 ∷ 10 ∷ 12 ∷ [])
    (lines ("LGM 1" ∷ "B 0 11 64" ∷ "B 1 10 64" ∷ "B 2 12 64" ∷ "O 0 2 8" ∷ "O 1 1 0" ∷ "O 2 0 0" ∷ "O 3 2 0" ∷ "O 4 0 6" ∷ []))
    refl refl refl refl refl

-- a FIFO with initial tokens lies apart from all
pub A_with_a_delayed_fifo : Prints (A_text "M U 2 64 0 1" ("D 3 0 2" ∷ []))
    (lines ("LGM 1" ∷ "B 0 23 64" ∷ "O 0 0 8" ∷ "O 1 0 0" ∷ "O 2 0 10" ∷ "O 3 0 0" ∷ "O 4 0 16" ∷ "O 5 0 21" ∷ []))
unfolding opened
A_with_a_delayed_fifo =
    prints_map (A_text "M U 2 64 0 1" ("D 3 0 2" ∷ [])) (A_on (one_bank 64 1) (delayed_fifo 3 0 2 ∷ [])) D_pairs A_places_with_a_delayed_fifo (23 ∷ [])
    (lines ("LGM 1" ∷ "B 0 23 64" ∷ "O 0 0 8" ∷ "O 1 0 0" ∷ "O 2 0 10" ∷ "O 3 0 0" ∷ "O 4 0 16" ∷ "O 5 0 21" ∷ []))
    refl refl refl refl refl

-- with one byte less no gap holds object 4
pub A_in_20_bytes : Prints (A_text "M U 2 20 0 1" []) (lines ("E 11 3 - 4 0" ∷ []))
unfolding opened
A_in_20_bytes =
    prints_no_room (A_text "M U 2 20 0 1" []) (A_on (one_bank 20 1) []) A_pairs A_places_in_20_bytes 0 4 (lines ("E 11 3 - 4 0" ∷ [])) refl refl refl refl refl

-- ---- sheets of two working areas

abbrev two_places : ℕ → ℕ → List (List (Option ℕ))
two_places p q = (Some p ∷ Some q ∷ []) ∷ []

-- the larger area first
pub B_prints : Prints (on_core_0 ("A 0 4" ∷ "A 0 6" ∷ []))
    (lines ("LGM 1" ∷ "B 0 10 64" ∷ "O 0 0 6" ∷ "O 1 0 0" ∷ []))
unfolding opened
B_prints =
    prints_map (on_core_0 ("A 0 4" ∷ "A 0 6" ∷ [])) (B_with []) ((0, 1) ∷ []) (two_places 6 0) (10 ∷ [])
    (lines ("LGM 1" ∷ "B 0 10 64" ∷ "O 0 0 6" ∷ "O 1 0 0" ∷ []))
    refl refl refl refl refl

-- areas of ordered actors share their bytes
pub B_ordered : Prints (on_core_0 ("A 0 4" ∷ "A 0 6" ∷ "S 0 1" ∷ []))
    (lines ("LGM 1" ∷ "B 0 6 64" ∷ "O 0 0 0" ∷ "O 1 0 0" ∷ []))
unfolding opened
B_ordered =
    prints_map (on_core_0 ("A 0 4" ∷ "A 0 6" ∷ "S 0 1" ∷ [])) (B_with (ordering 0 1 ∷ [])) [] (two_places 0 0) (6 ∷ [])
    (lines ("LGM 1" ∷ "B 0 6 64" ∷ "O 0 0 0" ∷ "O 1 0 0" ∷ []))
    refl refl refl refl refl

-- of equal sizes the lower number first
pub equal_sizes : Prints (on_core_0 ("A 0 4" ∷ "A 0 4" ∷ []))
    (lines ("LGM 1" ∷ "B 0 8 64" ∷ "O 0 0 0" ∷ "O 1 0 4" ∷ []))
unfolding opened
equal_sizes =
    prints_map (on_core_0 ("A 0 4" ∷ "A 0 4" ∷ [])) (two_areas 4 4 []) ((0, 1) ∷ []) (two_places 0 4) (8 ∷ [])
    (lines ("LGM 1" ∷ "B 0 8 64" ∷ "O 0 0 0" ∷ "O 1 0 4" ∷ []))
    refl refl refl refl refl
