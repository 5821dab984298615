-- The map of a layout.
use Rattle.std.specs.Prelude.{ℕ, List, [], ◌∷◌, ◌++◌, length, vec_items}
use Rattle.rules.specs.Lists.{numbers_from}
use Rattle.rules.specs.Spelling.{number, header}
use Rattle.rules.specs.Maps.{for_each, bank_line, place_line}
use Rattle.layout.specs.declared.plan_layout.BankUse.{BankUse}
use Rattle.layout.specs.declared.plan_layout.Layout.{Layout}
use Rattle.layout.specs.Spots.{place_in}
use Rattle.layout.specs.Worlds.{use_at}

-- what follows the letter of a line: three numbers and the line end
abbrev pub fields : ℕ → ℕ → ℕ → List ℕ
fields a b c = number a ++ (number b ++ (number c ++ 10 ∷ []))

-- the lines of the banks below n
abbrev pub bank_lines : List BankUse → ℕ → List ℕ
bank_lines banks n = for_each (λ b. bank_line b (use_at banks b).footprint (use_at banks b).capacity) (numbers_from 0 n)

-- the line of object x in bank b; none where the bank is not its home
abbrev pub home_line : Layout → ℕ → ℕ → List ℕ
home_line l x b = place_line x b (place_in (vec_items l.spots) b x)

-- the lines of object x in the banks below n
abbrev pub home_lines : Layout → ℕ → ℕ → List ℕ
home_lines l x n = for_each (λ b. home_line l x b) (numbers_from 0 n)

-- the lines of the objects below n
abbrev pub object_lines : Layout → ℕ → List ℕ
object_lines l n = for_each (λ x. home_lines l x (length (vec_items l.banks))) (numbers_from 0 n)

-- the header, a line for each bank, and a line for each home by object and bank
abbrev pub map_of : Layout → List ℕ
map_of l =
    header ++ (10 ∷ (bank_lines (vec_items l.banks) (length (vec_items l.banks)) ++ object_lines l (length (vec_items l.spots))))
