-- A line is decided to say an entry exactly when it is its spelling.
use Rattle.std.proofs.Common.{◌≡◌, ℕ, cond, eqb, ◌⊎◌, List, [], ◌∷◌, ◌++◌, Some, None, Option, sym, ap, ◌∙◌, subst, inl, inr, arith}
use Rattle.std.specs.Option.{option_map}
use Rattle.rules.specs.declared.sheet.Kind.{Kind}
use Rattle.rules.specs.declared.sheet.Layer.TheVariants.{LowLine, SnugLimit}
use Rattle.rules.specs.declared.sheet.Fifo.{Fifo}
use Rattle.rules.specs.declared.sheet.Link.TheVariants.{Plain, Delayed, Ordered}
use Rattle.rules.specs.declared.sheet.Entry.{Entry}
use Rattle.rules.specs.declared.sheet.Entry.TheVariants.{OnMachine, ByFit, WithLayer, NextActor, NextLink}
use Rattle.rules.specs.Fields.{with_field, machine_of, fit_line_of, lone_of, low_of, snug_of, actor_of, fifo_of, plain_of, delayed_of, sequence_of, fields_of, entry_of}
use Rattle.rules.specs.Spelling.{number, Short, ShortFifo, fifo_fields, kind_field, spell, Writable}
use Rattle.rules.specs.ReadingLaws.{LinesAreDecided, SpellingIsInjective}
use Rattle.rules.proofs.LineFields.{none_some, branch, mapped_so, with_so, with_back, field_stops, last_so, last_back, two_so, two_back, three, three_so, three_back, with_kind_so, with_kind_back, fit_line_so, fit_line_back}

-- ---- what is found was written

-- a letter and its fields are the spelling of an entry that can be written
abbrev Spells : ℕ → List ℕ → Entry → Type 0
Spells c s e = Writable e × (c ∷ s ≡ spell e)

-- the entry that was made is the one that was found
made : (c : ℕ) (s : List ℕ) (d e : Entry) → d ≡ e → Spells c s d → Spells c s e
made c s d e p h = subst (Spells c s) p h

machine_entry : Kind → ℕ → ℕ → ℕ → ℕ → Entry
machine_entry k c h p g = OnMachine (record { kind = k; cores = c; shared = h; private = p; grain = g })

machine_so : (s : List ℕ) (e : Entry) → machine_of s ≡ Some e → Spells 77 s e
unfolding machine_entry
machine_so s e h =
    let q = with_kind_so s (λ k r. with_field r (λ c r₁. three (machine_entry k c) r₁)) e h in
    let t = numbers q.0 q.1 q.3 in
    made 77 s (machine_entry q.0 t.0 t.1 t.2 t.3) e t.6 (t.4, ap (λ xs. 77 ∷ xs) (q.2 ∙ ap (λ xs. kind_field q.0 ++ xs) t.5))
  where
    numbers : (k : Kind) (r : List ℕ) → with_field r (λ c r₁. three (machine_entry k c) r₁) ≡ Some e →
        (c : ℕ) × (h : ℕ) × (p : ℕ) × (g : ℕ) × (Short c × Short h × Short p × Short g)
        × (r ≡ number c ++ (number h ++ (number p ++ number g))) × (machine_entry k c h p g ≡ e)
    numbers k r h =
        let f = with_so r (λ c r₁. three (machine_entry k c) r₁) e h in
        let t = three_so f.rest (machine_entry k f.value) e f.found in
        (f.value, t.0, t.1, t.2, (f.short, t.3.0, t.3.1, t.3.2), f.is ∙ ap (λ xs. number f.value ++ xs) t.4, t.5)

fit_so : (s : List ℕ) (e : Entry) → fit_line_of s ≡ Some e → Spells 80 s e
fit_so s e h = let q = fit_line_so s e h in made 80 s (ByFit q.0) e q.2 (tt, ap (λ xs. 80 ∷ xs) q.1)

lone_so : (s : List ℕ) (n : ℕ) → lone_of s ≡ Some n → Short n × (s ≡ number n)
lone_so s n h = let q = last_so s (λ a. a) n h in (omega (arith, q.1, q.3), q.2 ∙ ap number q.3)

low_so : (s : List ℕ) (e : Entry) → low_of s ≡ Some e → Spells 76 s e
low_so s e h =
    let q = mapped_so (λ n. WithLayer (LowLine n)) (lone_of s) e h in
    let t = lone_so s q.0 q.1 in
    made 76 s (WithLayer (LowLine q.0)) e q.2 (t.0, ap (λ xs. 76 ∷ xs) t.1)

snug_so : (s : List ℕ) (e : Entry) → snug_of s ≡ Some e → Spells 75 s e
snug_so s e h =
    let q = mapped_so (λ n. WithLayer (SnugLimit n)) (lone_of s) e h in
    let t = lone_so s q.0 q.1 in
    made 75 s (WithLayer (SnugLimit q.0)) e q.2 (t.0, ap (λ xs. 75 ∷ xs) t.1)

actor_so : (s : List ℕ) (e : Entry) → actor_of s ≡ Some e → Spells 65 s e
actor_so s e h =
    let t = two_so s (λ c w. NextActor (record { core = c; work = w })) e h in
    made 65 s (NextActor (record { core = t.0; work = t.1 })) e t.4 (t.2, ap (λ xs. 65 ∷ xs) t.3)

fifo_so : (s : List ℕ) (f : Fifo) → fifo_of s ≡ Some f → ShortFifo f × (s ≡ fifo_fields f)
fifo_so s f h =
    let t = three_so s (λ a b n. record { from = a; to = b; size = n }) f h in
    (subst ShortFifo t.5 t.3, t.4 ∙ ap fifo_fields t.5)

plain_so : (s : List ℕ) (e : Entry) → plain_of s ≡ Some e → Spells 70 s e
plain_so s e h =
    let q = mapped_so (λ f. NextLink (Plain f)) (fifo_of s) e h in
    let t = fifo_so s q.0 q.1 in
    made 70 s (NextLink (Plain q.0)) e q.2 (t.0, ap (λ xs. 70 ∷ xs) t.1)

delayed_so : (s : List ℕ) (e : Entry) → delayed_of s ≡ Some e → Spells 68 s e
delayed_so s e h =
    let q = mapped_so (λ f. NextLink (Delayed f)) (fifo_of s) e h in
    let t = fifo_so s q.0 q.1 in
    made 68 s (NextLink (Delayed q.0)) e q.2 (t.0, ap (λ xs. 68 ∷ xs) t.1)

sequence_so : (s : List ℕ) (e : Entry) → sequence_of s ≡ Some e → Spells 83 s e
sequence_so s e h =
    let t = two_so s (λ a b. NextLink (Ordered (record { first = a; second = b }))) e h in
    made 83 s (NextLink (Ordered (record { first = t.0; second = t.1 }))) e t.4 (t.2, ap (λ xs. 83 ∷ xs) t.3)

fields_so : (c : ℕ) (s : List ℕ) (e : Entry) → fields_of c s ≡ Some e → Spells c s e
fields_so c s e h = m (branch c 77 (machine_of s) after_m e h)
  where
    after_d : Option Entry
    after_d = cond (eqb c 83) (sequence_of s) None

    after_f : Option Entry
    after_f = cond (eqb c 68) (delayed_of s) after_d

    after_a : Option Entry
    after_a = cond (eqb c 70) (plain_of s) after_f

    after_k : Option Entry
    after_k = cond (eqb c 65) (actor_of s) after_a

    after_l : Option Entry
    after_l = cond (eqb c 75) (snug_of s) after_k

    after_p : Option Entry
    after_p = cond (eqb c 76) (low_of s) after_l

    after_m : Option Entry
    after_m = cond (eqb c 80) (fit_line_of s) after_p

    is : (k : ℕ) → c ≡ k → Spells k s e → Spells c s e
    is k p h = subst (λ (b : ℕ). Spells b s e) (sym p) h

    o : ((c ≡ 83) × (sequence_of s ≡ Some e)) ⊎ (None ≡ Some e) → Spells c s e
    o (inl p) = is 83 p.0 (sequence_so s e p.1)
    o (inr n) = absurd (none_some e n)

    d : ((c ≡ 68) × (delayed_of s ≡ Some e)) ⊎ (after_d ≡ Some e) → Spells c s e
    d (inl p) = is 68 p.0 (delayed_so s e p.1)
    d (inr n) = o (branch c 83 (sequence_of s) None e n)

    f : ((c ≡ 70) × (plain_of s ≡ Some e)) ⊎ (after_f ≡ Some e) → Spells c s e
    f (inl p) = is 70 p.0 (plain_so s e p.1)
    f (inr n) = d (branch c 68 (delayed_of s) after_d e n)

    a : ((c ≡ 65) × (actor_of s ≡ Some e)) ⊎ (after_a ≡ Some e) → Spells c s e
    a (inl p) = is 65 p.0 (actor_so s e p.1)
    a (inr n) = f (branch c 70 (plain_of s) after_f e n)

    k : ((c ≡ 75) × (snug_of s ≡ Some e)) ⊎ (after_k ≡ Some e) → Spells c s e
    k (inl p) = is 75 p.0 (snug_so s e p.1)
    k (inr n) = a (branch c 65 (actor_of s) after_a e n)

    l : ((c ≡ 76) × (low_of s ≡ Some e)) ⊎ (after_l ≡ Some e) → Spells c s e
    l (inl p) = is 76 p.0 (low_so s e p.1)
    l (inr n) = k (branch c 75 (snug_of s) after_k e n)

    p : ((c ≡ 80) × (fit_line_of s ≡ Some e)) ⊎ (after_p ≡ Some e) → Spells c s e
    p (inl q) = is 80 q.0 (fit_so s e q.1)
    p (inr n) = l (branch c 76 (low_of s) after_l e n)

    m : ((c ≡ 77) × (machine_of s ≡ Some e)) ⊎ (after_m ≡ Some e) → Spells c s e
    m (inl q) = is 77 q.0 (machine_so s e q.1)
    m (inr n) = p (branch c 80 (fit_line_of s) after_p e n)

-- what a line is decided to say is what it spells
pub entry_so : (s : List ℕ) (e : Entry) → entry_of s ≡ Some e → Writable e × (s ≡ spell e)
unfolding entry_of
entry_so [] e h = absurd (none_some e h)
entry_so (c ∷ cs) e h = fields_so c cs e h

-- ---- what is written is found

fifo_back : (f : Fifo) → ShortFifo f → fifo_of (fifo_fields f) ≡ Some f
fifo_back f w = three_back f.from f.to f.size (λ a b n. record { from = a; to = b; size = n }) w.0 w.1 w.2

-- the spelling of an entry that can be written is decided to say it
pub entry_back : (e : Entry) → Writable e → entry_of (spell e) ≡ Some e
unfolding entry_of machine_entry
entry_back (OnMachine m) w =
    with_kind_back m.kind (number m.cores ++ (number m.shared ++ (number m.private ++ number m.grain)))
    (λ k r. with_field r (λ c r₁. three (machine_entry k c) r₁))
    ∙ with_back m.cores (number m.shared ++ (number m.private ++ number m.grain)) (λ c r. three (machine_entry m.kind c) r) w.0
    (field_stops m.shared (number m.private ++ number m.grain))
    ∙ three_back m.shared m.private m.grain (machine_entry m.kind m.cores) w.1 w.2 w.3
entry_back (ByFit f) w = fit_line_back f
entry_back (WithLayer (LowLine n)) w = ap (option_map (λ n. WithLayer (LowLine n))) (last_back n (λ a. a) w)
entry_back (WithLayer (SnugLimit n)) w = ap (option_map (λ n. WithLayer (SnugLimit n))) (last_back n (λ a. a) w)
entry_back (NextActor a) w = two_back a.core a.work (λ c w. NextActor (record { core = c; work = w })) w.0 w.1
entry_back (NextLink (Plain f)) w = ap (option_map (λ f. NextLink (Plain f))) (fifo_back f w)
entry_back (NextLink (Delayed f)) w = ap (option_map (λ f. NextLink (Delayed f))) (fifo_back f w)
entry_back (NextLink (Ordered q)) w = two_back q.first q.second (λ a b. NextLink (Ordered (record { first = a; second = b }))) w.0 w.1

-- ---- the laws

-- the decision of a line is its spelling
pub lines_are_decided : LinesAreDecided
lines_are_decided s e = (entry_so s e, λ p. ap entry_of p.1 ∙ entry_back e p.0)

-- so no two entries are written alike
pub spelling_is_injective : SpellingIsInjective
spelling_is_injective d e v w same =
    let p : ◌≡◌ {A = Option Entry} (Some d) (Some e) = sym (entry_back d v) ∙ ap entry_of same ∙ entry_back e w in cc
