-- Every text has an outcome, which can be computed.
use Rattle.std.proofs.Common.{◌≡◌, ℕ, zero, suc, ◌+◌, ◌<◌, ◌≤◌, ◌⊎◌, List, [], ◌∷◌, ◌++◌, length, Some, None, Option, refl, ap, inl, inr, arith}
use Rattle.rules.specs.declared.sheet.Entry.{Entry}
use Rattle.rules.specs.Numerals.{field_on}
use Rattle.rules.specs.Fields.{kind_on, entry_of}
use Rattle.rules.specs.Spelling.{header}
use Rattle.rules.specs.Drafts.{Draft, nothing, next}
use Rattle.rules.specs.Reading.{Outcome, accepted, fault, Goes, Reads, whole, missing, badly, refused, taken, Gives, too_long, unmarked, unended, marked}
use Rattle.rules.specs.ReadingLaws.{EveryTextHasOneOutcome}
use Rattle.rules.proofs.Deciding.{Decided, same_number}
use Rattle.rules.proofs.Cuts.{Endless, Cut, endless_nil, endless_cons, good_line, bad_line, no_line, goes_shorter}
use Rattle.rules.proofs.Judging.{at_most, Judged, judged, complete_decided}
use Rattle.rules.proofs.Outcomes.{gives_same}

-- the first line of a text, or no line end
unfoldable pub first_line : (text : List ℕ) → ((line : List ℕ) × (rest : List ℕ) × Cut text line rest) ⊎ Endless text
unfolding same_number
first_line [] = inr endless_nil
first_line (c ∷ cs) =
    elim (same_number c 10) [
      | inl e ↦ inl ([], cs, (ap (λ (x : ℕ). x ∷ cs) e, endless_nil))
      | inr n ↦ elim (first_line cs) [
        | inl p ↦ inl (c ∷ p.0, p.1, (ap (λ xs. c ∷ xs) p.2.0, endless_cons c p.0 n p.2.1))
        | inr none ↦ inr (endless_cons c cs n none)
      ]
    ]

-- the entry that a text goes on with, or none
abbrev pub Going : List ℕ → Type 0
Going text = ((e : Entry) × (rest : List ℕ) × Goes text e rest) ⊎ ((e : Entry) (rest : List ℕ) → Goes text e rest → ⊥)

-- whether a text goes on with an entry
unfoldable pub going : (text : List ℕ) → Going text
unfolding first_line entry_of kind_on field_on
going text = by_line (first_line text)
  where
    by_entry : (line rest : List ℕ) → Cut text line rest → (o : Option Entry) → entry_of line ≡ o → Going text
    by_entry line rest c None t = inr (bad_line text line rest c t)
    by_entry line rest c (Some e) t = inl (e, rest, good_line text line rest e c.0 t)

    by_line : ((line : List ℕ) × (rest : List ℕ) × Cut text line rest) ⊎ Endless text → Going text
    by_line (inl p) = by_entry p.0 p.1 p.2 (entry_of p.0) refl
    by_line (inr none) = inr (no_line text none)

-- an outcome of what is left
abbrev pub SomeOutcome : Draft → ℕ → List ℕ → Type 0
SomeOutcome d at text = (o : Outcome) × Reads d at text o

-- the outcome at the end of a text
unfoldable pub reads_end : (d : Draft) (at : ℕ) → SomeOutcome d at []
unfolding complete_decided
reads_end d at =
    elim (complete_decided d) [
      | inl p ↦ (accepted p.0, whole p.0 refl p.1)
      | inr none ↦ (fault 4 (Some at), missing refl none)
    ]

-- the outcome at a line, where every shorter text has one
unfoldable pub reads_line : (d : Draft) (at c : ℕ) (cs : List ℕ) →
    ((f : Draft) (text : List ℕ) → length text < length (c ∷ cs) → SomeOutcome f (at + 1) text) → SomeOutcome d at (c ∷ cs)
unfolding going judged
reads_line d at c cs shorter = by_entry (going (c ∷ cs))
  where
    by_judge : (e : Entry) (rest : List ℕ) → Goes (c ∷ cs) e rest → Judged d e → SomeOutcome d at (c ∷ cs)
    by_judge e rest g (inl p) = (fault p.0 (Some at), refused e rest p.0 g p.1)
    by_judge e rest g (inr free) = let r = shorter (next d e) rest (goes_shorter (c ∷ cs) e rest g) in (r.0, taken e rest g free r.1)

    some : c ∷ cs ≡ [] → ⊥
    some e = let z : ◌≡◌ {A = ℕ} 0 1 = cc in omega arith

    by_entry : Going (c ∷ cs) → SomeOutcome d at (c ∷ cs)
    by_entry (inl p) = by_judge p.0 p.1 p.2 (judged d p.0)
    by_entry (inr none) = (fault 3 (Some at), badly some none)

-- what is left of a text gives an outcome
unfoldable pub reads_some : (n : ℕ) (d : Draft) (at : ℕ) (text : List ℕ) → length text ≤ n → SomeOutcome d at text
unfolding reads_end reads_line
reads_some zero d at [] l = reads_end d at
reads_some zero d at (c ∷ cs) l = absurd (omega arith)
reads_some (suc n) d at [] l = reads_end d at
reads_some (suc n) d at (c ∷ cs) l = reads_line d at c cs (λ f text m. reads_some n f (at + 1) text (omega arith))

-- what follows a beginning, or the text does not begin so
abbrev pub Beginning : List ℕ → List ℕ → Type 0
Beginning front text = ((rest : List ℕ) × (text ≡ front ++ rest)) ⊎ ((rest : List ℕ) → text ≡ front ++ rest → ⊥)

-- whether a text begins so
unfoldable pub beginning : (front text : List ℕ) → Beginning front text
unfolding same_number
beginning [] text = inl (text, refl)
beginning (c ∷ cs) [] = inr (λ rest e. let z : ◌≡◌ {A = ℕ} 0 1 = cc in omega arith)
beginning (c ∷ cs) (d ∷ ds) =
    elim (same_number d c) [
      | inl e ↦ elim (beginning cs ds) [
        | inl p ↦ inl (p.0, let q = p.1 in cc)
        | inr none ↦ inr (λ rest f. none rest (cc))
      ]
      | inr n ↦ inr (λ rest f. n (cc))
    ]

-- a text gives an outcome
unfoldable pub gives_some : (text : List ℕ) → (o : Outcome) × Gives text o
unfolding at_most beginning reads_some
gives_some text = by_length (at_most (length text) 65536)
  where
    marked_so : length text ≤ 65536 → (rest : List ℕ) → text ≡ header ++ (10 ∷ rest) → (o : Outcome) × Gives text o
    marked_so l rest e = let r = reads_some (length rest) nothing 2 rest (omega arith) in (r.0, marked rest l e r.1)

    alone : length text ≤ 65536 → ((rest : List ℕ) → text ≡ header ++ (10 ∷ rest) → ⊥) → (rest : List ℕ) → text ≡ header ++ rest → (o : Outcome) × Gives text o
    alone l none [] e = (fault 3 (Some 1), unended e)
    alone l none (c ∷ cs) e =
        (fault 2 (Some 1), unmarked l (λ f. omega (arith, ap length e, ap length f)) none)

    by_header : length text ≤ 65536 → ((rest : List ℕ) → text ≡ header ++ (10 ∷ rest) → ⊥) → Beginning header text → (o : Outcome) × Gives text o
    by_header l none (inl p) = alone l none p.0 p.1
    by_header l none (inr otherwise) = (fault 2 (Some 1), unmarked l (λ f. otherwise [] f) none)

    by_mark : length text ≤ 65536 → Beginning (header ++ (10 ∷ [])) text → (o : Outcome) × Gives text o
    by_mark l (inl p) = marked_so l p.0 p.1
    by_mark l (inr none) = by_header l none (beginning header text)

    by_length : Decided (length text ≤ 65536) → (o : Outcome) × Gives text o
    by_length (inl l) = by_mark l (beginning (header ++ (10 ∷ [])) text)
    by_length (inr n) = (fault 1 None, too_long (omega arith))

-- the outcome of a text
unfoldable pub outcome : List ℕ → Outcome
unfolding gives_some
outcome text = (gives_some text).0

-- the law of outcomes
pub every_text_has_one_outcome : EveryTextHasOneOutcome
every_text_has_one_outcome text =
    record {
      outcome = (gives_some text).0;
      gives = (gives_some text).1;
      only = λ other g. gives_same text g (gives_some text).1;
    }
