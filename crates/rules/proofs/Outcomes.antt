-- A text has at most one outcome.
use Rattle.std.proofs.Common.{◌≡◌, ℕ, ◌+◌, ◌≤◌, ◌⊎◌, List, [], ◌∷◌, ◌++◌, length, Some, sym, refl, ap, ◌∙◌, subst, inl, inr, arith}
use Rattle.rules.specs.declared.sheet.Entry.{Entry}
use Rattle.rules.specs.Lists.{Lowest}
use Rattle.rules.specs.Sheets.{Sheet}
use Rattle.rules.specs.Spelling.{header}
use Rattle.rules.specs.Drafts.{Draft, nothing, Refuses, Free, next}
use Rattle.rules.specs.Reading.{Outcome, accepted, fault, Complete, Goes, Reads, whole, missing, badly, refused, taken, Gives, too_long, unmarked, unended, marked}
use Rattle.rules.proofs.Deciding.{same_lowest}
use Rattle.rules.proofs.Cuts.{goes_same, goes_shorter}

-- nothing goes on with an entry at its end
pub goes_on : (text : List ℕ) (e : Entry) (rest : List ℕ) → text ≡ [] → Goes text e rest → ⊥
goes_on text e rest z g = omega (arith, goes_shorter text e rest g, ap length z)

-- what is given at the end of the text
abbrev AtEnd : Draft → ℕ → Outcome → Type 0
AtEnd d at o = ((s : Sheet) × Complete d s × (o ≡ accepted s)) ⊎ (((s : Sheet) → Complete d s → ⊥) × (o ≡ fault 4 (Some at)))

at_end : {d : Draft} {at : ℕ} {text : List ℕ} {o : Outcome} → Reads d at text o → text ≡ [] → AtEnd d at o
at_end (whole s z c) q = inl (s, c, refl)
at_end (missing z n) q = inr (n, refl)
at_end (badly some none) q = absurd (some q)
at_end {text = text} (refused e rest n g l) q = absurd (goes_on text e rest q g)
at_end {text = text} (taken e rest g f r) q = absurd (goes_on text e rest q g)

-- what is given after an entry
abbrev After : Draft → ℕ → Entry → List ℕ → Outcome → Type 0
After d at e rest o = ((n : ℕ) × Lowest (Refuses d e) n × (o ≡ fault n (Some at))) ⊎ (Free d e × Reads (next d e) (at + 1) rest o)

at_line : {d : Draft} {at : ℕ} {text : List ℕ} {o : Outcome} → Reads d at text o → (e : Entry) (rest : List ℕ) → Goes text e rest → After d at e rest o
at_line {text = text} (whole s z c) e rest g = absurd (goes_on text e rest z g)
at_line {text = text} (missing z n) e rest g = absurd (goes_on text e rest z g)
at_line (badly some none) e rest g = absurd (none e rest g)
at_line {d} {at} {text} (refused f other n h l) e rest g =
    let p = goes_same text f e other rest h g in
    inl (n, subst (λ (x : Entry). Lowest (Refuses d x) n) p.0 l, refl)
at_line {d} {at} {text} {o} (taken f other h free r) e rest g =
    let p = goes_same text f e other rest h g in
    inr (
      subst (λ (x : Entry). Free d x) p.0 free,
      subst (λ (x : Entry). Reads (next d x) (at + 1) rest o) p.0 (subst (λ (t : List ℕ). Reads (next d f) (at + 1) t o) p.1 r),
    )

at_bad : {d : Draft} {at : ℕ} {text : List ℕ} {o : Outcome} → Reads d at text o → (text ≡ [] → ⊥) → ((e : Entry) (rest : List ℕ) → Goes text e rest → ⊥) →
    o ≡ fault 3 (Some at)
at_bad (whole s z c) some none = absurd (some z)
at_bad (missing z n) some none = absurd (some z)
at_bad (badly p q) some none = refl
at_bad (refused e rest n g l) some none = absurd (none e rest g)
at_bad (taken e rest g f r) some none = absurd (none e rest g)

-- what is left of a text gives one outcome
pub reads_same : {d : Draft} {at : ℕ} {text : List ℕ} {o p : Outcome} → Reads d at text o → Reads d at text p → o ≡ p
reads_same {d} {at} {text} {o} {p} (whole s z c) r = go (at_end r z)
  where
    go : AtEnd d at p → accepted s ≡ p
    go (inl q) = let a = c.0 in let b = q.1.0 in let e = q.2 in let same : s ≡ q.0 = cc in cc
    go (inr q) = absurd (q.0 s c)
reads_same {d} {at} {text} {o} {p} (missing z n) r = go (at_end r z)
  where
    go : AtEnd d at p → fault 4 (Some at) ≡ p
    go (inl q) = absurd (n q.0 q.1)
    go (inr q) = sym q.1
reads_same (badly some none) r = sym (at_bad r some none)
reads_same {d} {at} {text} {o} {p} (refused e rest n g l) r = go (at_line r e rest g)
  where
    go : After d at e rest p → fault n (Some at) ≡ p
    go (inl q) = ap (λ (m : ℕ). fault m (Some at)) (same_lowest l q.1) ∙ sym q.2
    go (inr q) = absurd (q.0 n l.holds)
reads_same {d} {at} {text} {o} {p} (taken e rest g f r) t = go (reads_same r) (at_line t e rest g)
  where
    go : (Reads (next d e) (at + 1) rest p → o ≡ p) → After d at e rest p → o ≡ p
    go same (inl q) = absurd (f q.0 q.1.holds)
    go same (inr q) = same q.1

header_once : (text rest : List ℕ) → text ≡ header → text ≡ header ++ (10 ∷ rest) → ⊥
header_once text rest p q = omega (arith, ap length p, ap length q)

header_short : (text : List ℕ) → text ≡ header → length text ≤ 65536
header_short text p = omega (arith, ap length p)

-- a text gives one outcome
pub gives_same : (text : List ℕ) {o p : Outcome} → Gives text o → Gives text p → o ≡ p
gives_same text (too_long l) (too_long m) = refl
gives_same text (too_long l) (unmarked m n r) = absurd (omega arith)
gives_same text (too_long l) (unended e) = absurd (omega (arith, header_short text e))
gives_same text (too_long l) (marked rest m e r) = absurd (omega arith)
gives_same text (unmarked m n r) (too_long l) = absurd (omega arith)
gives_same text (unmarked m n r) (unmarked k o p) = refl
gives_same text (unmarked m n r) (unended e) = absurd (n e)
gives_same text (unmarked m n r) (marked rest l e t) = absurd (r rest e)
gives_same text (unended e) (too_long l) = absurd (omega (arith, header_short text e))
gives_same text (unended e) (unmarked m n r) = absurd (n e)
gives_same text (unended e) (unended f) = refl
gives_same text (unended e) (marked rest l f r) = absurd (header_once text rest e f)
gives_same text (marked rest m e r) (too_long l) = absurd (omega arith)
gives_same text (marked rest m e r) (unmarked l n t) = absurd (t rest e)
gives_same text (marked rest m e r) (unended f) = absurd (header_once text rest f e)
gives_same text (marked rest {o} m e r) (marked other {o = p} n f t) =
    let q : rest ≡ other = cc in reads_same r (subst (λ (x : List ℕ). Reads nothing 2 x p) (sym q) t)
