-- How a text is made of lines.
use Rattle.std.specs.Prelude.{◌≡◌, ℕ, ◌<◌, ◌≤◌, List, ◌∷◌, ◌++◌, length, Some, None, Ok, Err, Option, Result, ◌≢◌, slice_index}
use Rattle.std.specs.Borrow.{Bor}
use Rattle.rules.specs.declared.sheet.Entry.{Entry}
use Rattle.text.specs.declared.faults.TextFault.{TextFault}
use Rattle.text.specs.declared.faults.TextFault.TheVariants.{TooLong, NoHeader, Malformed}
use Rattle.rules.specs.Reading.{Goes}
use Rattle.rules.specs.Spelling.{header}

-- no byte is a line end
abbrev pub Endless : List ℕ → Type 0
Endless bs = (k : ℕ) → k < length bs → slice_index bs k ≢ 10

-- a text is a first line, which holds no line end, then a line end and the rest
abbrev pub Cut : List ℕ → List ℕ → List ℕ → Type 0
Cut text line rest = (text ≡ line ++ (10 ∷ rest)) × Endless line

-- the place of the first line end at or after a place, or none where no line end follows
abbrev pub FirstEnd : List ℕ → ℕ → Option ℕ → Type 0
FirstEnd text from None = (k : ℕ) → from ≤ k → k < length text → slice_index text k ≢ 10
FirstEnd text from (Some i) = (from ≤ i) × (i < length text) × (slice_index text i ≡ 10) × ((k : ℕ) → from ≤ k → k < i → slice_index text k ≢ 10)

-- the text goes on with the line of this entry, or with no entry's line, which is reported with its number
abbrev pub NextEntry : List ℕ → ℕ → Result (Entry × Bor (List ℕ)) TextFault → Type 0
NextEntry text at (Ok p) = Goes text p.0 p.1.now
NextEntry text at (Err f) = (f ≡ Malformed at) × ((e : Entry) (rest : List ℕ) → Goes text e rest → ⊥)

-- why a text does not begin with the header and its line end: it is the header alone, or it begins otherwise
abbrev pub Headless : List ℕ → TextFault → Type 0
Headless text TooLong = ⊥
Headless text NoHeader = (text ≢ header) × ((rest : List ℕ) → text ≢ header ++ (10 ∷ rest))
Headless text (Malformed at) = (at ≡ 1) × (text ≡ header)

-- what follows the header and its line end, or why they do not stand there
abbrev pub AfterHeader : List ℕ → Result (Bor (List ℕ)) TextFault → Type 0
AfterHeader text (Ok rest) = text ≡ header ++ (10 ∷ rest.now)
AfterHeader text (Err f) = Headless text f
