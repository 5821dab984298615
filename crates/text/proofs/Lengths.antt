-- How many bytes a line takes at least.
use Rattle.std.proofs.Common.{◌≡◌, ℕ, ◌+◌, ◌-◌, ◌*◌, ◌<◌, ◌≤◌, Bool, true, false, cond, ◌&&◌, eqb, leb, List, [], ◌∷◌, length, get_or, Some, None, Option, refl, ap, ◌∙◌, subst, arith, length-append, rules}
use Rattle.std.specs.Option.{option_map}
use Rattle.rules.specs.declared.sheet.Kind.{Kind}
use Rattle.rules.specs.declared.sheet.Entry.{Entry}
use Rattle.rules.specs.declared.sheet.Entry.TheVariants.{OnMachine, ByFit, WithLayer, NextActor, NextLink}
use Rattle.text.specs.Bounds.{link_count}
use Rattle.rules.specs.Numerals.{digits_on, number_on, field_on}
use Rattle.rules.specs.Fields.{kind_on, with_kind, with_field, ending, fit_of, lone_of, fifo_of, fields_of, entry_of}
use Rattle.rules.specs.Reading.{Goes}
use Rattle.rules.specs.Spelling.{spell}
use Rattle.rules.proofs.Cuts.{goes_cut}
use Rattle.rules.proofs.Lines.{entry_back}

-- what was found, if anything was, measures at most k
abbrev AtMost : {X : Type 0} → (X → ℕ) → ℕ → Option X → Type 0
AtMost m k None = Unit {0}
AtMost m k (Some x) = m x ≤ k

-- ---- numbers take at least one byte, fields two

digits_shorter : (n : ℕ) (s : List ℕ) → AtMost (λ p. length p.1) (length s) (digits_on n s)
digits_shorter n [] = by_cond (leb n 4294967295)
  where
    by_cond : (b : Bool) → AtMost {X = ℕ × List ℕ} (λ p. length p.1) 0 (cond b (Some (n, [])) None)
    by_cond true = omega arith
    by_cond false = tt
digits_shorter n (c ∷ cs) = by_cond (leb 48 c && leb c 57) (leb n 4294967295) (digits_on (n * 10 + (c - 48)) cs) (digits_shorter (n * 10 + (c - 48)) cs)
  where
    longer : (o : Option (ℕ × List ℕ)) → AtMost (λ p. length p.1) (length cs) o → AtMost (λ p. length p.1) (length (c ∷ cs)) o
    longer None h = tt
    longer (Some p) h = omega (arith, h)

    by_cond : (a b : Bool) (o : Option (ℕ × List ℕ)) → AtMost (λ p. length p.1) (length cs) o → AtMost {X = ℕ × List ℕ} (λ p. length p.1) (length (c ∷ cs)) (cond a o (cond b (Some (n, c ∷ cs)) None))
    by_cond true b o h = longer o h
    by_cond false true o h = omega arith
    by_cond false false o h = tt

-- one digit that is no zero
digit_shorter : (c : ℕ) (cs : List ℕ) → (leb 49 c && leb c 57) ≡ true → AtMost (λ p. length p.1) (length cs) (digits_on 0 (c ∷ cs))
digit_shorter c cs e =
    let t : (leb 48 c && leb c 57) ≡ true = search rules in
    rw t (digits_shorter (0 * 10 + (c - 48)) cs)

number_shorter : (s : List ℕ) → AtMost (λ p. length p.1 + 1) (length s) (number_on s)
number_shorter [] = tt
number_shorter (c ∷ cs) = by_cond (eqb c 48) (leb 49 c && leb c 57) refl
  where
    longer : (o : Option (ℕ × List ℕ)) → AtMost (λ p. length p.1) (length cs) o → AtMost (λ p. length p.1 + 1) (length (c ∷ cs)) o
    longer None h = tt
    longer (Some p) h = omega (arith, h)

    by_cond : (a b : Bool) → (leb 49 c && leb c 57) ≡ b → AtMost {X = ℕ × List ℕ} (λ p. length p.1 + 1) (length (c ∷ cs)) (cond a (Some (0, cs)) (cond b (digits_on 0 (c ∷ cs)) None))
    by_cond true b e = omega arith
    by_cond false true e = longer (digits_on 0 (c ∷ cs)) (digit_shorter c cs e)
    by_cond false false e = tt

field_shorter : (s : List ℕ) → AtMost (λ p. length p.1 + 2) (length s) (field_on s)
unfolding field_on
field_shorter [] = tt
field_shorter (c ∷ cs) = by_cond (eqb c 32) (number_on cs) (number_shorter cs)
  where
    by_cond : (a : Bool) (o : Option (ℕ × List ℕ)) → AtMost (λ p. length p.1 + 1) (length cs) o → AtMost {X = ℕ × List ℕ} (λ p. length p.1 + 2) (length (c ∷ cs)) (cond a o None)
    by_cond true None h = tt
    by_cond true (Some p) h = omega (arith, h)
    by_cond false o h = tt

-- ---- what is found behind fields

field_within : {X : Type 0} (m : X → ℕ) (k : ℕ) (s : List ℕ) (f : ℕ → List ℕ → Option X) → ((n : ℕ) (r : List ℕ) → length r + 2 ≤ length s → AtMost m k (f n r)) → AtMost m k (with_field s f)
field_within {X} m k s f each = go (field_on s) (field_shorter s)
  where
    go : (o : Option (ℕ × List ℕ)) → AtMost (λ p. length p.1 + 2) (length s) o → AtMost m k (elim o as (λ _. Option X) [ None ↦ None | Some p ↦ f p.0 p.1 ])
    go None h = tt
    go (Some p) h = each p.0 p.1 h

kind_within : {X : Type 0} (m : X → ℕ) (k : ℕ) (s : List ℕ) (f : Kind → List ℕ → Option X) → ((n : Kind) (r : List ℕ) → AtMost m k (f n r)) → AtMost m k (with_kind s f)
kind_within {X} m k s f each = go (kind_on s)
  where
    go : (o : Option (Kind × List ℕ)) → AtMost m k (elim o as (λ _. Option X) [ None ↦ None | Some p ↦ f p.0 p.1 ])
    go None = tt
    go (Some p) = each p.0 p.1

at_end : {X : Type 0} (m : X → ℕ) (k : ℕ) (s : List ℕ) (x : X) → m x ≤ k → AtMost m k (ending s x)
at_end m k [] x h = h
at_end m k (b ∷ bs) x h = tt

by_map : {X Y : Type 0} (m : Y → ℕ) (k : ℕ) (f : X → Y) (o : Option X) → AtMost (λ x. m (f x)) k o → AtMost m k (option_map f o)
by_map m k f None h = tt
by_map m k f (Some x) h = h

either : {X : Type 0} (m : X → ℕ) (k : ℕ) (b : Bool) (o p : Option X) → AtMost m k o → AtMost m k p → AtMost m k (cond b o p)
either m k true o p g h = g
either m k false o p g h = h

-- ---- a link takes at least five bytes and its line end

abbrev bytes : Entry → ℕ
bytes e = 5 * link_count e

-- what is found of a FIFO's fields measures nothing where they take fewer than four bytes
fifo_takes : (k : ℕ) (s : List ℕ) → (4 ≤ length s → 5 ≤ k) → AtMost (λ f. 5) k (fifo_of s)
fifo_takes k s enough =
    field_within (λ f. 5) k s _ (λ a s₁ h₁. field_within (λ f. 5) k s₁ _ (λ b s₂ h₂. field_within (λ f. 5) k s₂ _ (λ n s₃ h₃. at_end (λ f. 5) k s₃ _ (enough (omega arith)))))

-- the fields behind a letter, with the letter
fields_take : (letter : ℕ) (s : List ℕ) → AtMost bytes (length s + 1) (fields_of letter s)
fields_take letter s =
    let k = length s + 1 in
    either bytes k (eqb letter 77) _ _
    (kind_within bytes k s _ (λ kind s₁. field_within bytes k s₁ _ (λ cores s₂ h₂. field_within bytes k s₂ _ (λ shared s₃ h₃. field_within bytes k s₃ _ (λ own s₄ h₄. field_within bytes k s₄ _ (λ grain s₅ h₅. at_end bytes k s₅ _ (omega arith)))))))
    (either bytes k (eqb letter 80) _ _
    (either bytes k (eqb (get_or s 0 0) 32 && eqb (length s) 2) _ _ (by_map bytes k _ (fit_of (get_or s 1 0)) (all_none k (fit_of (get_or s 1 0)))) tt)
    (either bytes k (eqb letter 76) _ _ (by_map bytes k _ (lone_of s) (all_none k (lone_of s)))
    (either bytes k (eqb letter 75) _ _ (by_map bytes k _ (lone_of s) (all_none k (lone_of s)))
    (either bytes k (eqb letter 65) _ _
    (field_within bytes k s _ (λ core s₁ h₁. field_within bytes k s₁ _ (λ work s₂ h₂. at_end bytes k s₂ _ (omega arith))))
    (either bytes k (eqb letter 70) _ _ (by_map bytes k _ (fifo_of s) (fifo_takes k s (λ h. omega arith)))
    (either bytes k (eqb letter 68) _ _ (by_map bytes k _ (fifo_of s) (fifo_takes k s (λ h. omega arith)))
    (either bytes k (eqb letter 83) _ _
    (field_within bytes k s _ (λ a s₁ h₁. field_within bytes k s₁ _ (λ b s₂ h₂. at_end bytes k s₂ _ (omega arith)))) tt)))))))
  where
    all_none : {X : Type 0} (k : ℕ) (o : Option X) → AtMost (λ x. 0) k o
    all_none k None = tt
    all_none k (Some x) = omega arith

line_takes : (line : List ℕ) → AtMost bytes (length line) (entry_of line)
unfolding entry_of
line_takes [] = tt
line_takes (b ∷ bs) = at_least (fields_of b bs) (fields_take b bs)
  where
    at_least : (o : Option Entry) → AtMost bytes (length bs + 1) o → AtMost bytes (length (b ∷ bs)) o
    at_least None h = tt
    at_least (Some e) h = omega (arith, h)

-- what follows a line is shorter, by six bytes or more behind a link
pub goes_spends : (text : List ℕ) (e : Entry) (rest : List ℕ) → Goes text e rest → (6 * link_count e + length rest ≤ length text) × (length rest < length text)
goes_spends text e rest goes =
    let cut = goes_cut text e rest goes in
    let l : AtMost bytes (length (spell e)) (Some e) = subst (AtMost bytes (length (spell e))) (entry_back e goes.0) (line_takes (spell e)) in
    let t : length text ≡ length (spell e) + length (10 ∷ rest) = ap length cut.0 ∙ length-append (spell e) (10 ∷ rest) in
    let u = link_or_not e in
    (omega (arith, l), omega arith)
  where
    link_or_not : (f : Entry) → link_count f ≤ 1
    link_or_not (OnMachine m) = omega arith
    link_or_not (ByFit f) = omega arith
    link_or_not (WithLayer f) = omega arith
    link_or_not (NextActor a) = omega arith
    link_or_not (NextLink k) = omega arith
