-- A text is cut into its first line and the rest in one way; which entry it goes on with.
use Rattle.std.proofs.Common.{◌≡◌, ℕ, zero, suc, ◌<◌, List, [], ◌∷◌, ◌++◌, length, get_or, Some, None, decimal, sym, refl, ap, ◌∙◌, append_assoc, arith, length-append}
use Rattle.std.proofs.lemmas.List.{get_or_at}
use Rattle.std.proofs.lemmas.Str.Parse.{not_in_digits}
use Rattle.std.proofs.lemmas.Fmt.{digits_decimal}
use Rattle.rules.specs.declared.sheet.Kind.{Kind}
use Rattle.rules.specs.declared.sheet.Kind.TheVariants.{Unified, Private, Hybrid}
use Rattle.rules.specs.declared.sheet.Fit.{Fit}
use Rattle.rules.specs.declared.sheet.Fit.TheVariants.{First, Best}
use Rattle.rules.specs.declared.sheet.Layer.TheVariants.{LowLine, SnugLimit}
use Rattle.rules.specs.declared.sheet.Link.TheVariants.{Plain, Delayed, Ordered}
use Rattle.rules.specs.declared.sheet.Entry.{Entry}
use Rattle.rules.specs.declared.sheet.Entry.TheVariants.{OnMachine, ByFit, WithLayer, NextActor, NextLink}
use Rattle.rules.specs.Fields.{entry_of}
use Rattle.rules.specs.Spelling.{number, Short, fifo_fields, kind_field, fit_field, spell, line, Writable}
use Rattle.rules.specs.Reading.{Goes}
use Rattle.rules.proofs.NumberFields.{own}
use Rattle.rules.proofs.LineFields.{none_some}
use Rattle.rules.proofs.Lines.{entry_so, entry_back, spelling_is_injective}

-- no byte is a line end
abbrev pub Endless : List ℕ → Type 0
Endless bs = (k : ℕ) → k < length bs → get_or bs k 0 ≡ 10 → ⊥

-- a text is a first line, which holds no line end, then a line end and the rest
abbrev pub Cut : List ℕ → List ℕ → List ℕ → Type 0
Cut text line rest = (text ≡ line ++ (10 ∷ rest)) × Endless line

-- ---- texts without a line end

-- the empty one
pub endless_nil : Endless []
endless_nil k l e = omega arith

-- one byte more, which is no line end
pub endless_cons : (c : ℕ) (cs : List ℕ) → (c ≡ 10 → ⊥) → Endless cs → Endless (c ∷ cs)
endless_cons c cs p q zero l e = p e
endless_cons c cs p q (suc k) l e = q k (omega arith) e

-- one byte less
pub endless_tail : (c : ℕ) (cs : List ℕ) → Endless (c ∷ cs) → Endless cs
endless_tail c cs h k l e = h (suc k) (omega arith) e

-- two of them, joined
pub endless_append : (xs ys : List ℕ) → Endless xs → Endless ys → Endless (xs ++ ys)
endless_append [] ys p q = q
endless_append (c ∷ cs) ys p q = endless_cons c (cs ++ ys) (p 0 (omega arith)) (endless_append cs ys (endless_tail c cs p) q)

endless_number : (n : ℕ) → Short n → Endless (number n)
endless_number n small =
    endless_cons 32 (decimal n) (λ h. omega arith)
    (not_in_digits own (decimal n) 10 (digits_decimal own n (omega arith)) (λ h. omega arith))

endless_two : (a b : ℕ) → Short a → Short b → Endless (number a ++ number b)
endless_two a b s t = endless_append (number a) (number b) (endless_number a s) (endless_number b t)

endless_three : (a b c : ℕ) → Short a → Short b → Short c → Endless (number a ++ (number b ++ number c))
endless_three a b c s t u = endless_append (number a) (number b ++ number c) (endless_number a s) (endless_two b c t u)

endless_kind : (k : Kind) → Endless (kind_field k)
endless_kind Unified = endless_cons 32 (85 ∷ []) (λ h. omega arith) (endless_cons 85 [] (λ h. omega arith) endless_nil)
endless_kind Private = endless_cons 32 (86 ∷ []) (λ h. omega arith) (endless_cons 86 [] (λ h. omega arith) endless_nil)
endless_kind Hybrid = endless_cons 32 (72 ∷ []) (λ h. omega arith) (endless_cons 72 [] (λ h. omega arith) endless_nil)

endless_fit : (f : Fit) → Endless (fit_field f)
endless_fit First = endless_cons 32 (70 ∷ []) (λ h. omega arith) (endless_cons 70 [] (λ h. omega arith) endless_nil)
endless_fit Best = endless_cons 32 (66 ∷ []) (λ h. omega arith) (endless_cons 66 [] (λ h. omega arith) endless_nil)

-- no spelling holds a line end
pub endless_spell : (e : Entry) → Writable e → Endless (spell e)
endless_spell (OnMachine m) w =
    endless_cons 77 (kind_field m.kind ++ (number m.cores ++ (number m.shared ++ (number m.private ++ number m.grain)))) (λ h. omega arith)
    (endless_append (kind_field m.kind) (number m.cores ++ (number m.shared ++ (number m.private ++ number m.grain))) (endless_kind m.kind)
    (endless_append (number m.cores) (number m.shared ++ (number m.private ++ number m.grain)) (endless_number m.cores w.0)
    (endless_three m.shared m.private m.grain w.1 w.2 w.3)))
endless_spell (ByFit f) w = endless_cons 80 (fit_field f) (λ h. omega arith) (endless_fit f)
endless_spell (WithLayer (LowLine n)) w = endless_cons 76 (number n) (λ h. omega arith) (endless_number n w)
endless_spell (WithLayer (SnugLimit n)) w = endless_cons 75 (number n) (λ h. omega arith) (endless_number n w)
endless_spell (NextActor a) w = endless_cons 65 (number a.core ++ number a.work) (λ h. omega arith) (endless_two a.core a.work w.0 w.1)
endless_spell (NextLink (Plain f)) w = endless_cons 70 (fifo_fields f) (λ h. omega arith) (endless_three f.from f.to f.size w.0 w.1 w.2)
endless_spell (NextLink (Delayed f)) w = endless_cons 68 (fifo_fields f) (λ h. omega arith) (endless_three f.from f.to f.size w.0 w.1 w.2)
endless_spell (NextLink (Ordered q)) w = endless_cons 83 (number q.first ++ number q.second) (λ h. omega arith) (endless_two q.first q.second w.0 w.1)

-- ---- cutting

same_parts : (a b x y : List ℕ) → Endless a → Endless b → a ++ (10 ∷ x) ≡ b ++ (10 ∷ y) → (a ≡ b) × (x ≡ y)
same_parts [] [] x y p q e = (refl, cc)
same_parts [] (d ∷ ds) x y p q e = absurd (q 0 (omega arith) (cc))
same_parts (c ∷ cs) [] x y p q e = absurd (p 0 (omega arith) (cc))
same_parts (c ∷ cs) (d ∷ ds) x y p q e =
    let r : cs ++ (10 ∷ x) ≡ ds ++ (10 ∷ y) = cc in
    let t = same_parts cs ds x y (endless_tail c cs p) (endless_tail d ds q) r in
    let u = t.0 in
    (cc, t.1)

-- a text has one first line, and one rest
pub cut_same : (text a b x y : List ℕ) → Cut text a x → Cut text b y → (a ≡ b) × (x ≡ y)
cut_same text a b x y g h = same_parts a b x y g.1 h.1 (sym g.0 ∙ h.0)

-- a text without a line end has no first line
pub endless_uncut : (text line rest : List ℕ) → Endless text → text ≡ line ++ (10 ∷ rest) → ⊥
endless_uncut text line rest h g =
    h (length line) (omega (arith, simp length-append at (ap length g))) (ap (λ bs. get_or bs (length line) 0) g ∙ get_or_at line 10 rest 0 (length line) refl)

-- what follows a line is shorter
pub cut_shorter : (text line rest : List ℕ) → text ≡ line ++ (10 ∷ rest) → length rest < length text
cut_shorter text line rest h = omega (arith, simp length-append at (ap length h))

-- ---- the entry that a text goes on with

-- a text goes on with an entry where its first line is the entry's spelling
pub goes_cut : (text : List ℕ) (e : Entry) (rest : List ℕ) → Goes text e rest → Cut text (spell e) rest
goes_cut text e rest g = (g.1 ∙ append_assoc (spell e) (10 ∷ []) rest, endless_spell e g.0)

-- a first line that is decided to say e
pub good_line : (text line rest : List ℕ) (e : Entry) → text ≡ line ++ (10 ∷ rest) → entry_of line ≡ Some e → Goes text e rest
good_line text line rest e c s =
    let p = entry_so line e s in
    (p.0, c ∙ ap (λ xs. xs ++ (10 ∷ rest)) p.1 ∙ sym (append_assoc (spell e) (10 ∷ []) rest))

-- where every first line is decided to say nothing, the text goes on with no entry
pub silent_line : (text : List ℕ) → ((line rest : List ℕ) → Cut text line rest → entry_of line ≡ None) →
    (e : Entry) (rest : List ℕ) → Goes text e rest → ⊥
silent_line text none e rest g = none_some e (sym (none (spell e) rest (goes_cut text e rest g)) ∙ entry_back e g.0)

-- a first line that is decided to say nothing
pub bad_line : (text line rest : List ℕ) → Cut text line rest → entry_of line ≡ None → (e : Entry) (other : List ℕ) → Goes text e other → ⊥
bad_line text line rest c none =
    silent_line text (λ l r d. ap entry_of (cut_same text l line r rest d c).0 ∙ none)

-- a text without a line end
pub no_line : (text : List ℕ) → Endless text → (e : Entry) (rest : List ℕ) → Goes text e rest → ⊥
no_line text none e rest g = endless_uncut text (spell e) rest none (goes_cut text e rest g).0

-- a text goes on with one entry, and one rest follows it
pub goes_same : (text : List ℕ) (d e : Entry) (x y : List ℕ) → Goes text d x → Goes text e y → (d ≡ e) × (x ≡ y)
goes_same text d e x y g h =
    let p = cut_same text (spell d) (spell e) x y (goes_cut text d x g) (goes_cut text e y h) in
    (spelling_is_injective d e g.0 h.0 p.0, p.1)

-- what follows an entry is shorter
pub goes_shorter : (text : List ℕ) (e : Entry) (rest : List ℕ) → Goes text e rest → length rest < length text
goes_shorter text e rest g = cut_shorter text (spell e) rest (goes_cut text e rest g).0
