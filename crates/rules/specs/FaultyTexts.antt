-- Small texts that are refused, each with the number and the line of its fault.
use Rattle.std.specs.Prelude.{ℕ, List, [], ◌∷◌, ◌++◌, Some, codes, Option}
use Prim.Native.String.{String}
use Rattle.rules.specs.Lists.{Every}
use Rattle.rules.specs.Reading.{Gives, fault}

pub record Faulty : Type 0 where
  pub text : List ℕ
  pub number : ℕ
  pub line : Option ℕ

-- lines, each with its end
abbrev pub ended : List String → List ℕ
ended [] = []
ended (l ∷ ls) = codes l ++ (10 ∷ ended ls)

abbrev pub refused : List ℕ → ℕ → ℕ → Faulty
refused text number line = record { text = text; number = number; line = Some line }

-- the lines of `above`, and one more
abbrev pub after : List String → String → List ℕ
after above last = ended above ++ (codes last ++ (10 ∷ []))

-- the same, where the last line lacks its end
abbrev pub unended : List String → String → List ℕ
unended above last = ended above ++ codes last

-- three lines, after which an actor may come
abbrev pub board : List String
board = "LGM 1" ∷ "M U 2 64 0 1" ∷ "P F" ∷ []

-- actors 0 and 1 on core 0, actor 2 on core 1
abbrev pub crew : List String
crew = board ++ ("A 0 4" ∷ "A 0 0" ∷ "A 1 0" ∷ [])

-- the first line
abbrev pub first_lines : List Faulty
first_lines =
    refused [] 2 1
    ∷ refused (10 ∷ []) 2 1
    ∷ refused (codes "LGM 1") 3 1
    ∷ refused (codes "LGM") 2 1
    ∷ refused (codes "LGM 1 ") 2 1
    ∷ refused (codes "LGM 1" ++ (13 ∷ 10 ∷ [])) 2 1
    ∷ refused (ended ("LGM 2" ∷ "M U 2 64 0 1" ∷ [])) 2 1
    ∷ refused (ended ("lgm 1" ∷ [])) 2 1
    ∷ refused (ended ("LGM 01" ∷ [])) 2 1
    ∷ []

-- lines that are badly written
abbrev pub bad_lines : List Faulty
bad_lines =
    refused (after ("LGM 1" ∷ []) "") 3 2
    ∷ refused (after ("LGM 1" ∷ []) "LGM 1") 3 2
    ∷ refused (after ("LGM 1" ∷ []) "M UU 2 64 0 1") 3 2
    ∷ refused (after ("LGM 1" ∷ []) "M u 2 64 0 1") 3 2
    ∷ refused (after ("LGM 1" ∷ []) "M U 2 64 0") 3 2
    ∷ refused (unended ("LGM 1" ∷ []) "M U 2 64 0 1") 3 2
    ∷ refused (after ("LGM 1" ∷ "M U 2 64 0 1" ∷ []) "P f") 3 3
    ∷ refused (after ("LGM 1" ∷ "M U 2 64 0 1" ∷ []) "P FB") 3 3
    ∷ refused (after ("LGM 1" ∷ "M U 2 64 0 1" ∷ []) "P F ") 3 3
    ∷ refused (ended ("LGM 1" ∷ "M U 2 64 0 1" ∷ []) ++ (codes "P F" ++ (13 ∷ 10 ∷ []))) 3 3
    ∷ refused (after board "X 1") 3 4
    ∷ refused (after board "a 0 0") 3 4
    ∷ refused (after board " A 0 0") 3 4
    ∷ refused (after board "A0 4") 3 4
    ∷ refused (after board "A  0 4") 3 4
    ∷ refused (after board "A 0 4 ") 3 4
    ∷ refused (after board "A 0") 3 4
    ∷ refused (after board "A 0 ") 3 4
    ∷ refused (after board "A 0 4 1") 3 4
    ∷ refused (ended board ++ (codes "A" ++ (9 ∷ (codes "0 4" ++ (10 ∷ []))))) 3 4
    ∷ refused (after board "A 00 4") 3 4
    ∷ refused (after board "A 0 04") 3 4
    ∷ refused (after board "A +0 4") 3 4
    ∷ refused (after board "A 0 -4") 3 4
    ∷ refused (after board "A 0 4294967296") 3 4
    ∷ refused (after board "A 0 100000000000000000000000000000") 3 4
    ∷ refused (unended board "A 7 99999999") 3 4
    ∷ refused (after (board ++ ("A 0 4" ∷ [])) "") 3 5
    ∷ refused (after ("LGM 1" ∷ []) "F 0 1 4294967296") 3 2
    ∷ []

-- lines out of turn, and lines that are missing
abbrev pub bad_turns : List Faulty
bad_turns =
    refused (ended ("LGM 1" ∷ [])) 4 2
    ∷ refused (ended ("LGM 1" ∷ "M U 2 64 0 1" ∷ [])) 4 3
    ∷ refused (ended board) 4 4
    ∷ refused (after board "L 8") 4 5
    ∷ refused (after ("LGM 1" ∷ []) "P F") 4 2
    ∷ refused (after ("LGM 1" ∷ "M U 2 64 0 1" ∷ []) "M U 2 64 0 1") 4 3
    ∷ refused (after ("LGM 1" ∷ "M U 2 64 0 1" ∷ []) "A 0 4") 4 3
    ∷ refused (after ("LGM 1" ∷ "M U 2 64 0 1" ∷ []) "L 0") 4 3
    ∷ refused (after board "P B") 4 4
    ∷ refused (after board "F 0 1 4") 4 4
    ∷ refused (after (board ++ ("L 8" ∷ [])) "L 9") 4 5
    ∷ refused (after (board ++ ("K 0" ∷ [])) "K 1") 4 5
    ∷ refused (after (board ++ ("K 0" ∷ "L 8" ∷ [])) "K 1") 4 6
    ∷ refused (after (board ++ ("A 0 4" ∷ [])) "K 1") 4 5
    ∷ refused (after (crew ++ ("F 0 1 4" ∷ [])) "A 0 4") 4 8
    ∷ refused (after (crew ++ ("D 0 0 4" ∷ [])) "A 7 4") 4 8
    ∷ refused (after (crew ++ ("S 0 1" ∷ [])) "L 8") 4 8
    ∷ []

-- numbers out of range
abbrev pub bad_ranges : List Faulty
bad_ranges =
    refused (after ("LGM 1" ∷ []) "M U 0 64 0 1") 5 2
    ∷ refused (after ("LGM 1" ∷ []) "M U 9 64 0 1") 5 2
    ∷ refused (after ("LGM 1" ∷ []) "M U 2 64 0 0") 5 2
    ∷ refused (after ("LGM 1" ∷ []) "M U 2 64 0 3") 5 2
    ∷ refused (after ("LGM 1" ∷ []) "M U 2 64 0 8192") 5 2
    ∷ refused (after ("LGM 1" ∷ []) "M U 2 64 1 1") 5 2
    ∷ refused (after ("LGM 1" ∷ []) "M V 2 1 64 1") 5 2
    ∷ refused (after board "L 0") 5 4
    ∷ refused (after board "A 0 4294967295") 5 4
    ∷ refused (after board "A 2 16777217") 5 4
    ∷ refused (after crew "F 0 9 0") 5 7
    ∷ refused (after crew "D 0 1 16777217") 5 7
    ∷ []

-- numbers that name nothing, and links that go against the order
abbrev pub bad_links : List Faulty
bad_links =
    refused (after board "A 2 16777216") 6 4
    ∷ refused (after crew "F 3 0 4") 6 7
    ∷ refused (after crew "F 3 3 4") 6 7
    ∷ refused (after crew "D 0 3 4") 6 7
    ∷ refused (after crew "S 0 4294967295") 6 7
    ∷ refused (after crew "F 1 1 4") 8 7
    ∷ refused (after (crew ++ ("D 1 1 4" ∷ [])) "S 2 2") 8 8
    ∷ refused (ended (crew ++ ("F 1 1 4" ∷ "bad" ∷ []))) 8 7
    ∷ refused (after crew "S 1 2") 9 7
    ∷ refused (after (crew ++ ("F 1 2 4" ∷ [])) "S 2 1") 9 8
    ∷ refused (after (crew ++ ("F 0 1 4" ∷ [])) "F 1 0 4") 10 8
    ∷ refused (after (crew ++ ("S 0 1" ∷ "D 1 0 4" ∷ [])) "S 1 0") 10 9
    ∷ refused (after (crew ++ ("F 2 1 4" ∷ "F 1 0 4" ∷ "F 2 1 8" ∷ [])) "F 0 2 4") 10 10
    ∷ []

abbrev pub faulty_texts : List Faulty
faulty_texts = first_lines ++ (bad_lines ++ (bad_turns ++ (bad_ranges ++ bad_links)))

-- each of them gives its fault
abbrev pub FaultyTextsAreRefused : Type 0
FaultyTextsAreRefused = Every (λ f. Gives f.text (fault f.number f.line)) faulty_texts
