-- A text is accepted as a sheet exactly when the sheet is valid and the text is its spelling.
use Rattle.std.proofs.Common.{◌≡◌, ℕ, ◌+◌, ◌≤◌, List, [], ◌∷◌, ◌++◌, map, length, sym, refl, ap, ◌∙◌, subst, append_assoc, append-nil, arith}
use Rattle.std.proofs.lemmas.List.{map_push}
use Rattle.rules.specs.declared.sheet.Machine.{Machine}
use Rattle.rules.specs.declared.sheet.Fit.{Fit}
use Rattle.rules.specs.declared.sheet.Layer.{Layer}
use Rattle.rules.specs.declared.sheet.Actor.{Actor}
use Rattle.rules.specs.declared.sheet.Link.{Link}
use Rattle.rules.specs.declared.sheet.Entry.{Entry}
use Rattle.rules.specs.declared.sheet.Entry.TheVariants.{OnMachine, ByFit, WithLayer, NextActor, NextLink}
use Rattle.rules.specs.Sheets.{Sheet, entries}
use Rattle.rules.specs.Spelling.{Writable, line, written, header, spelling}
use Rattle.rules.specs.Drafts.{Draft, nothing, machined, sheet, InTurn, machine_first, fit_next, low_once, snug_once, actor_then, link_last, Free, next}
use Rattle.rules.specs.Reading.{Outcome, accepted, Complete, Reads, whole, missing, badly, refused, taken, Gives, too_long, unmarked, unended, marked, Stand, Valid}
use Rattle.rules.specs.ReadingLaws.{AcceptedTextsAreSpellings}
use Rattle.rules.proofs.Judging.{free_in_turn}

-- the draft with entries added one after the other
abbrev pub grown : Draft → List Entry → Draft
grown d [] = d
grown d (e ∷ es) = grown (next d e) es

-- a draft, entry by entry
abbrev pub entries_of : Draft → List Entry
entries_of nothing = []
entries_of (machined m) = OnMachine m ∷ []
entries_of (sheet s) = entries s

-- ---- what is added stands last

-- a layer more, where no actor and no link stands
push_layer : (ls : List Layer) (l : Layer) (actors : List Actor) (links : List Link) → actors ≡ [] → links ≡ [] →
    map (λ x. WithLayer x) (ls ++ (l ∷ [])) ++ (map (λ a. NextActor a) actors ++ map (λ k. NextLink k) links)
    ≡ (map (λ x. WithLayer x) ls ++ (map (λ a. NextActor a) actors ++ map (λ k. NextLink k) links)) ++ (WithLayer l ∷ [])
push_layer ls l actors links p q =
    rw (p, q)
    (append-nil (map (λ x. WithLayer x) (ls ++ (l ∷ []))) ∙ map_push (λ x. WithLayer x) ls l
    ∙ ap (λ xs. xs ++ (WithLayer l ∷ [])) (sym (append-nil (map (λ x. WithLayer x) ls))))

-- an actor more, where no link stands
push_actor : (ls : List Layer) (actors : List Actor) (a : Actor) (links : List Link) → links ≡ [] →
    map (λ x. WithLayer x) ls ++ (map (λ x. NextActor x) (actors ++ (a ∷ [])) ++ map (λ k. NextLink k) links)
    ≡ (map (λ x. WithLayer x) ls ++ (map (λ x. NextActor x) actors ++ map (λ k. NextLink k) links)) ++ (NextActor a ∷ [])
push_actor ls actors a links q =
    rw q
    (ap (λ xs. map (λ x. WithLayer x) ls ++ xs)
    (append-nil (map (λ x. NextActor x) (actors ++ (a ∷ []))) ∙ map_push (λ x. NextActor x) actors a
    ∙ ap (λ xs. xs ++ (NextActor a ∷ [])) (sym (append-nil (map (λ x. NextActor x) actors))))
    ∙ sym (append_assoc (map (λ x. WithLayer x) ls) (map (λ x. NextActor x) actors ++ []) (NextActor a ∷ [])))

-- a link more
push_link : (ls : List Layer) (actors : List Actor) (links : List Link) (k : Link) →
    map (λ x. WithLayer x) ls ++ (map (λ x. NextActor x) actors ++ map (λ x. NextLink x) (links ++ (k ∷ [])))
    ≡ (map (λ x. WithLayer x) ls ++ (map (λ x. NextActor x) actors ++ map (λ x. NextLink x) links)) ++ (NextLink k ∷ [])
push_link ls actors links k =
    ap (λ xs. map (λ x. WithLayer x) ls ++ (map (λ x. NextActor x) actors ++ xs)) (map_push (λ x. NextLink x) links k)
    ∙ ap (λ xs. map (λ x. WithLayer x) ls ++ xs) (sym (append_assoc (map (λ x. NextActor x) actors) (map (λ x. NextLink x) links) (NextLink k ∷ [])))
    ∙ sym (append_assoc (map (λ x. WithLayer x) ls) (map (λ x. NextActor x) actors ++ map (λ x. NextLink x) links) (NextLink k ∷ []))

-- an entry in turn is the last of the grown draft
pub added : {d : Draft} {e : Entry} → InTurn d e → entries_of (next d e) ≡ entries_of d ++ (e ∷ [])
added (machine_first m) = refl
added (fit_next m f) = refl
added (low_once s n a k none) = ap (λ xs. OnMachine s.machine ∷ ByFit s.fit ∷ xs) (push_layer s.layers _ s.actors s.links a k)
added (snug_once s n a k none) = ap (λ xs. OnMachine s.machine ∷ ByFit s.fit ∷ xs) (push_layer s.layers _ s.actors s.links a k)
added (actor_then s a k) = ap (λ xs. OnMachine s.machine ∷ ByFit s.fit ∷ xs) (push_actor s.layers s.actors a s.links k)
added (link_last s k some) = ap (λ xs. OnMachine s.machine ∷ ByFit s.fit ∷ xs) (push_link s.layers s.actors s.links k)

-- entries that stand are those that the draft has grown by
pub stand_added : (d : Draft) (es : List Entry) → Stand d es → entries_of (grown d es) ≡ entries_of d ++ es
stand_added d [] t = sym (append-nil (entries_of d))
stand_added d (e ∷ es) t =
    stand_added (next d e) es t.2
    ∙ ap (λ xs. xs ++ es) (added (free_in_turn d e t.1))
    ∙ append_assoc (entries_of d) (e ∷ []) es

-- ---- a sheet grows from its entries

grow_links : (m : Machine) (f : Fit) (ls : List Layer) (actors : List Actor) (links more : List Link) →
    grown (sheet (record { machine = m; fit = f; layers = ls; actors = actors; links = links })) (map (λ k. NextLink k) more)
    ≡ sheet (record { machine = m; fit = f; layers = ls; actors = actors; links = links ++ more })
grow_links m f ls actors links [] =
    ap (λ (xs : List Link). sheet (record { machine = m; fit = f; layers = ls; actors = actors; links = xs })) (sym (append-nil links))
grow_links m f ls actors links (k ∷ more) =
    grow_links m f ls actors (links ++ (k ∷ [])) more
    ∙ ap (λ (xs : List Link). sheet (record { machine = m; fit = f; layers = ls; actors = actors; links = xs })) (append_assoc links (k ∷ []) more)

grow_actors : (m : Machine) (f : Fit) (ls : List Layer) (actors more : List Actor) (links : List Link) →
    grown (sheet (record { machine = m; fit = f; layers = ls; actors = actors; links = [] })) (map (λ a. NextActor a) more ++ map (λ k. NextLink k) links)
    ≡ sheet (record { machine = m; fit = f; layers = ls; actors = actors ++ more; links = links })
grow_actors m f ls actors [] links =
    grow_links m f ls actors [] links
    ∙ ap (λ (xs : List Actor). sheet (record { machine = m; fit = f; layers = ls; actors = xs; links = links })) (sym (append-nil actors))
grow_actors m f ls actors (a ∷ more) links =
    grow_actors m f ls (actors ++ (a ∷ [])) more links
    ∙ ap (λ (xs : List Actor). sheet (record { machine = m; fit = f; layers = ls; actors = xs; links = links })) (append_assoc actors (a ∷ []) more)

grow_layers : (m : Machine) (f : Fit) (ls more : List Layer) (actors : List Actor) (links : List Link) →
    grown (sheet (record { machine = m; fit = f; layers = ls; actors = []; links = [] }))
    (map (λ l. WithLayer l) more ++ (map (λ a. NextActor a) actors ++ map (λ k. NextLink k) links))
    ≡ sheet (record { machine = m; fit = f; layers = ls ++ more; actors = actors; links = links })
grow_layers m f ls [] actors links =
    grow_actors m f ls [] actors links
    ∙ ap (λ (xs : List Layer). sheet (record { machine = m; fit = f; layers = xs; actors = actors; links = links })) (sym (append-nil ls))
grow_layers m f ls (l ∷ more) actors links =
    grow_layers m f (ls ++ (l ∷ [])) more actors links
    ∙ ap (λ (xs : List Layer). sheet (record { machine = m; fit = f; layers = xs; actors = actors; links = links })) (append_assoc ls (l ∷ []) more)

-- a sheet grows from its entries, one after the other
pub sheet_grows : (s : Sheet) → grown nothing (entries s) ≡ sheet s
sheet_grows s = grow_layers s.machine s.fit [] s.layers s.actors s.links

-- ---- accepted, so spelled

-- the entries that an accepted text goes through
pub record Spelt (d : Draft) (text : List ℕ) (s : Sheet) : Type 0 where
  pub listed : List Entry
  pub is : text ≡ written listed
  pub stand : Stand d listed
  pub complete : Complete (grown d listed) s

-- an accepted text spells the entries that it was accepted with
pub spelt : {d : Draft} {at : ℕ} {text : List ℕ} {o : Outcome} → Reads d at text o → (s : Sheet) → o ≡ accepted s → Spelt d text s
spelt {d} (whole t z c) s e =
    let same : t ≡ s = cc in record { listed = []; is = z; stand = tt; complete = subst (λ (x : Sheet). Complete d x) same c }
spelt (missing z n) s e = let z : ◌≡◌ {A = ℕ} 0 1 = cc in absurd (omega arith)
spelt (badly some none) s e = let z : ◌≡◌ {A = ℕ} 0 1 = cc in absurd (omega arith)
spelt (refused f rest n g l) s e = let z : ◌≡◌ {A = ℕ} 0 1 = cc in absurd (omega arith)
spelt (taken f rest g free r) s e =
    let p = spelt r s e in
    record { listed = f ∷ p.listed; is = g.1 ∙ ap (λ xs. line f ++ xs) p.is; stand = (g.0, free, p.stand); complete = p.complete }

-- ---- spelled, so accepted

-- entries that stand are read one after the other
pub read_on : (es : List Entry) (d : Draft) (at : ℕ) (s : Sheet) → Stand d es → Complete (grown d es) s → Reads d at (written es) (accepted s)
read_on [] d at s t c = whole s refl c
read_on (e ∷ es) d at s t c = taken e (written es) (t.0, refl) t.1 (read_on es (next d e) (at + 1) s t.2 c)

accepted_so : (text : List ℕ) (s : Sheet) {o : Outcome} → Gives text o → o ≡ accepted s → Valid s × (text ≡ spelling s)
accepted_so text s (too_long l) e = let z : ◌≡◌ {A = ℕ} 0 1 = cc in absurd (omega arith)
accepted_so text s (unmarked l m n) e = let z : ◌≡◌ {A = ℕ} 0 1 = cc in absurd (omega arith)
accepted_so text s (unended h) e = let z : ◌≡◌ {A = ℕ} 0 1 = cc in absurd (omega arith)
accepted_so text s (marked rest l h r) e =
    let p = spelt r s e in
    let same : entries s ≡ p.listed = sym (ap entries_of p.complete.0) ∙ stand_added nothing p.listed p.stand in
    let t : text ≡ spelling s = h ∙ ap (λ xs. header ++ (10 ∷ xs)) (p.is ∙ ap written (sym same)) in (
      record {
        stand = subst (λ (es : List Entry). Stand nothing es) (sym same) p.stand;
        peopled = p.complete.1;
        short = subst (λ (xs : List ℕ). length xs ≤ 65536) t l;
      },
      t,
    )

-- the law of accepted texts
pub accepted_texts_are_spellings : AcceptedTextsAreSpellings
accepted_texts_are_spellings text s = (
  λ g. accepted_so text s g refl,
  λ p. marked (written (entries s)) (subst (λ (xs : List ℕ). length xs ≤ 65536) (sym p.1) p.0.short) p.1
      (read_on (entries s) nothing 2 s p.0.stand (sheet_grows s, p.0.peopled)),
)

-- ---- what every valid sheet has

stand_by : (P : Draft → Type 0) → ((d : Draft) (e : Entry) → Writable e → Free d e → P d → P (next d e)) →
    (d : Draft) (es : List Entry) → Stand d es → P d → P (grown d es)
stand_by P step d [] t p = p
stand_by P step d (e ∷ es) t p = stand_by P step (next d e) es t.2 (step d e t.0 t.1 p)

-- what holds of nothing and is kept by each entry that is taken holds of every valid sheet
pub valid_by : (P : Draft → Type 0) → P nothing → ((d : Draft) (e : Entry) → Writable e → Free d e → P d → P (next d e)) →
    (s : Sheet) → Valid s → P (sheet s)
valid_by P none step s v = subst P (sheet_grows s) (stand_by P step nothing (entries s) v.stand none)
