-- From lines to the whole text.
use Rattle.std.proofs.Common.{◌≡◌, ℕ, ◌≤◌, true, false, List, ◌∷◌, ◌++◌, length, is_err, Ok, Err, Result, sym, subst}
use Rattle.text.specs.declared.faults.TextFault.{TextFault}
use Rattle.text.specs.declared.faults.TextFault.TheVariants.{TooLong, NoHeader, Malformed}
use Rattle.text.specs.Lines.{Headless}
use Rattle.rules.specs.Spelling.{header}
use Rattle.rules.specs.Reading.{Gives, unmarked, unended, marked}
use Rattle.graph.specs.declared.faults.GraphFault.{GraphFault}
use Rattle.graph.specs.declared.read_sheet.ReadSheet.{ReadSheet}
use Rattle.graph.specs.Readings.{reported_text, LinesAs, TextAs, ReadAs, Empty}

-- what stands behind the header gives what the text gives
pub behind_header : (text lines : List ℕ) (after : ReadSheet) (r : Result Unit GraphFault) → length text ≤ 65536 → text ≡ header ++ (10 ∷ lines) → LinesAs lines after r → TextAs text after r
behind_header text lines after (Ok u) short is l = (l.0, l.1, marked lines short is l.2)
behind_header text lines after (Err f) short is l = marked lines short is l

-- a text that does not begin with the header
pub without_header : (text : List ℕ) (f : TextFault) → length text ≤ 65536 → Headless text f → Gives text (reported_text f)
without_header text TooLong short h = absurd h
without_header text NoHeader short h = unmarked short h.0 h.1
without_header text (Malformed at) short h = subst (λ n. Gives text (reported_text (Malformed n))) (sym h.0) (unended h.1)

-- what a refused text left is forgotten
pub forgotten : (text : List ℕ) (before after : ReadSheet) (r : Result Unit GraphFault) → is_err r ≡ true → TextAs text before r → Empty after → ReadAs text after r
forgotten text before after (Ok u) e t empty = absurd (cc)
forgotten text before after (Err f) e t empty = (t, empty)

-- and what an accepted one left stays
pub kept : (text : List ℕ) (after : ReadSheet) (r : Result Unit GraphFault) → is_err r ≡ false → TextAs text after r → ReadAs text after r
kept text after (Ok u) e t = t
kept text after (Err f) e t = absurd (cc)
