-- What reading a text gives: a sheet, or the number and line of its fault.
use Rattle.std.specs.Prelude.{◌≡◌, ℕ, ◌+◌, ◌<◌, ◌≤◌, List, [], ◌∷◌, ◌++◌, length, Some, None, Option, ◌≢◌}
use Rattle.rules.specs.declared.sheet.Entry.{Entry}
use Rattle.rules.specs.Lists.{Lowest}
use Rattle.rules.specs.Drafts.{Draft, nothing, sheet, Free, Refuses, next}
use Rattle.rules.specs.Sheets.{Sheet, entries}
use Rattle.rules.specs.Spelling.{Writable, line, header, spelling}

pub data Outcome : Type 0 where
  accepted : Sheet → Outcome
  -- its number, and its line where one stands
  fault : ℕ → Option ℕ → Outcome

-- nothing is missing: machine, fit and an actor are there
abbrev pub Complete : Draft → Sheet → Type 0
Complete d s = (d ≡ sheet s) × (s.actors ≢ [])

-- the text goes on with the line of a well-written entry
abbrev pub Goes : List ℕ → Entry → List ℕ → Type 0
Goes text e rest = Writable e × (text ≡ line e ++ rest)

-- what the text from line `at` on gives after the draft d
pub data Reads : Draft → ℕ → List ℕ → Outcome → Type 0 where
  whole : {d : Draft} {at : ℕ} {text : List ℕ} (s : Sheet) → text ≡ [] → Complete d s → Reads d at text (accepted s)
  missing : {d : Draft} {at : ℕ} {text : List ℕ} → text ≡ [] → ((s : Sheet) → Complete d s → ⊥) → Reads d at text (fault 4 (Some at))
  badly : {d : Draft} {at : ℕ} {text : List ℕ} → (text ≢ []) → ((e : Entry) (rest : List ℕ) → Goes text e rest → ⊥) → Reads d at text (fault 3 (Some at))
  refused : {d : Draft} {at : ℕ} {text : List ℕ} (e : Entry) (rest : List ℕ) (n : ℕ) → Goes text e rest → Lowest (Refuses d e) n → Reads d at text (fault n (Some at))
  taken : {d : Draft} {at : ℕ} {text : List ℕ} (e : Entry) (rest : List ℕ) {o : Outcome} → Goes text e rest → Free d e → Reads (next d e) (at + 1) rest o → Reads d at text o

-- what a text gives
pub data Gives (text : List ℕ) : Outcome → Type 0 where
  too_long : 65536 < length text → Gives text (fault 1 None)
  unmarked : length text ≤ 65536 → (text ≢ header) → ((rest : List ℕ) → text ≢ header ++ (10 ∷ rest)) → Gives text (fault 2 (Some 1))
  unended : text ≡ header → Gives text (fault 3 (Some 1))
  marked : (rest : List ℕ) {o : Outcome} → length text ≤ 65536 → text ≡ header ++ (10 ∷ rest) → Reads nothing 2 rest o → Gives text o

-- entries that can be added one after the other, none refused
abbrev pub Stand : Draft → List Entry → Type 0
Stand d [] = Unit {0}
Stand d (e ∷ es) = Writable e × Free d e × Stand (next d e) es

-- every entry of the sheet can be written, none is refused after those above it, there is an actor, and the text is not too long
pub record Valid (s : Sheet) : Type 0 where
  pub stand : Stand nothing (entries s)
  pub peopled : s.actors ≡ [] → ⊥
  pub short : length (spelling s) ≤ 65536
