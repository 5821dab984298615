-- The printed map.
use Rattle.std.specs.Prelude.{◌≡◌, ℕ, ◌<◌, List, [], ◌∷◌, ◌++◌, Some, None, codes, Option}
use Rattle.rules.specs.Lists.{numbers_from}
use Rattle.rules.specs.Fitting.{Rule}
use Rattle.rules.specs.Fabrics.{Meaning}
use Rattle.rules.specs.Sheets.{Sheet}
use Rattle.rules.specs.Objects.{object_count}
use Rattle.rules.specs.Placing.{Footprint}
use Rattle.rules.specs.Layouts.{Layout, LaidOut, bank_of}
use Rattle.rules.specs.Spelling.{number, header}

-- what each number of a list gives, one after the other
abbrev pub for_each : (ℕ → List ℕ) → List ℕ → List ℕ
for_each f [] = []
for_each f (n ∷ ns) = f n ++ for_each f ns

-- `B bank footprint capacity`
abbrev pub bank_line : ℕ → ℕ → ℕ → List ℕ
bank_line b footprint capacity = codes "B" ++ (number b ++ (number footprint ++ (number capacity ++ 10 ∷ [])))

-- `O object bank place`, for a home
abbrev pub place_line : ℕ → ℕ → Option ℕ → List ℕ
place_line x b None = []
place_line x b (Some p) = codes "O" ++ (number x ++ (number b ++ (number p ++ 10 ∷ [])))

-- the header, a line for each bank, and a line for each home by object and bank
abbrev pub map_text : Sheet → Meaning → Layout → (ℕ → ℕ) → List ℕ
map_text s m places footprint =
    header ++ (10 ∷ (for_each (λ b. bank_line b (footprint b) (m.capacity b)) (numbers_from 0 m.banks)
    ++ for_each (λ x. for_each (λ b. place_line x b (places b x)) (numbers_from 0 m.banks)) (numbers_from 0 (object_count s))))

-- the text is the map of the places that the rules give
pub record MapOf (s : Sheet) (m : Meaning) (rule : Rule) (text : List ℕ) : Type 0 where
  pub places : Layout
  pub laid_out : LaidOut s m rule places
  pub footprint : ℕ → ℕ
  pub footprints : (b : ℕ) → b < m.banks → Footprint (bank_of s m b) (places b) (footprint b)
  pub is_map : text ≡ map_text s m places footprint
