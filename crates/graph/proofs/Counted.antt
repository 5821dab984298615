-- What an entry that was taken adds to the links and objects.
use Rattle.std.proofs.Common.{◌≡◌, ℕ, ◌+◌, ◌<◌, ◌≤◌, Bool, true, false, List, [], ◌∷◌, length, vec_items, vec_len, sym, refl, ap, ◌∙◌, subst, ⊎_elim, arith, length-append}
use Rattle.std.proofs.lemmas.Bool.{cases_lt, true_from_ne_false}
use Rattle.std.proofs.lemmas.List.{nil_from_length}
use Rattle.rules.specs.declared.memory.Object.{Object}
use Rattle.rules.specs.declared.sheet.Layer.{Layer}
use Rattle.rules.specs.declared.sheet.Actor.{Actor}
use Rattle.rules.specs.declared.sheet.Link.{Link}
use Rattle.rules.specs.declared.sheet.Link.TheVariants.{Plain, Delayed, Ordered}
use Rattle.rules.specs.declared.sheet.Entry.{Entry}
use Rattle.rules.specs.declared.sheet.Entry.TheVariants.{OnMachine, ByFit, WithLayer, NextActor, NextLink}
use Rattle.rules.specs.Objects.{buffers}
use Rattle.rules.specs.Drafts.{Orders, from, to, actors_of, unknown_from, unknown_to, equal_ends, backward, Draft, nothing, machined, sheet, links_of, next, fifo_count, Free, Buffers, plain, delayed, Size, out_of_turn, off_range, too_many_fifos}
use Rattle.text.specs.Bounds.{link_count}
use Rattle.graph.specs.declared.stage.Stage.{Stage}
use Rattle.graph.specs.declared.stage.Stage.TheVariants.{Blank, Machined, Ruled}
use Rattle.graph.specs.declared.read_sheet.ReadSheet.{ReadSheet}
use Rattle.graph.specs.Stages.{is_ruled}
use Rattle.graph.specs.Ranges.{size_in_range}
use Rattle.graph.specs.Taking.{draft_from, draft_of}
use Rattle.graph.proofs.Ranged.{refuted, size_told, size_heard}
use Rattle.graph.specs.Rows.{may_join}
use Rattle.rules.specs.Order.{Linked, edges}
use Rattle.graph.proofs.JudgedLinks.{no_actor, forbids}

-- at most the links that the entry is
links_next : (d : Draft) (e : Entry) → length (links_of (next d e)) ≤ length (links_of d) + link_count e
links_next nothing (OnMachine m) = omega arith
links_next nothing (ByFit f) = omega arith
links_next nothing (WithLayer l) = omega arith
links_next nothing (NextActor a) = omega arith
links_next nothing (NextLink k) = omega arith
links_next (machined m) (OnMachine n) = omega arith
links_next (machined m) (ByFit f) = omega arith
links_next (machined m) (WithLayer l) = omega arith
links_next (machined m) (NextActor a) = omega arith
links_next (machined m) (NextLink k) = omega arith
links_next (sheet s) (OnMachine m) = omega arith
links_next (sheet s) (ByFit f) = omega arith
links_next (sheet s) (WithLayer l) = omega arith
links_next (sheet s) (NextActor a) = omega arith
links_next (sheet s) (NextLink k) = omega (arith, length-append {A = Link})

-- the links that are held are those of the draft
links_drafted : (stage : Stage) (layers : List Layer) (actors : List Actor) (links : List Link) → (is_ruled stage ≡ false → length links ≡ 0) → links ≡ links_of (draft_from stage layers actors links)
links_drafted Blank layers actors links none = nil_from_length links (none refl)
links_drafted (Machined m) layers actors links none = nil_from_length links (none refl)
links_drafted (Ruled m f) layers actors links none = refl

links_held : (s : ReadSheet) → vec_items s.links.list ≡ links_of (draft_of s)
links_held s = links_drafted s.stage (vec_items s.layers) (vec_items s.actors) (vec_items s.links.list) (λ e. sym s.links.list.ok.0 ∙ s.peopled (s.headed e).1)

-- and so are the actors
actors_drafted : (stage : Stage) (layers : List Layer) (actors : List Actor) (links : List Link) → (is_ruled stage ≡ false → length actors ≡ 0) → actors ≡ actors_of (draft_from stage layers actors links)
actors_drafted Blank layers actors links none = nil_from_length actors (none refl)
actors_drafted (Machined m) layers actors links none = nil_from_length actors (none refl)
actors_drafted (Ruled m f) layers actors links none = refl

actor_count_held : (s : ReadSheet) → vec_len s.actors ≡ length (actors_of (draft_of s))
actor_count_held s =
    s.actors.ok.0
    ∙ ap (λ (xs : List Actor). length xs) (actors_drafted s.stage (vec_items s.layers) (vec_items s.actors) (vec_items s.links.list) (λ e. sym s.actors.ok.0 ∙ (s.headed e).1))

link_count_held : (s : ReadSheet) → vec_len s.links.list ≡ length (links_of (draft_of s))
link_count_held s = s.links.list.ok.0 ∙ ap (λ (ks : List Link). length ks) (links_held s)

-- a sheet that took an entry has at most its links more
pub links_after : (s t : ReadSheet) (e : Entry) → draft_of t ≡ next (draft_of s) e → vec_len t.links.list ≤ vec_len s.links.list + link_count e
links_after s t e is =
    let a = link_count_held s in
    let b = link_count_held t in
    let c : length (links_of (draft_of t)) ≡ length (links_of (next (draft_of s) e)) = ap (λ d. length (links_of d)) is in
    omega (arith, links_next (draft_of s) e)

-- ---- a link that no refusal meets

-- is on a sheet that has an actor
pub peopled : (s : ReadSheet) (k : Link) → Free (draft_of s) (NextLink k) → vec_len s.actors ≡ 0 → ⊥
peopled s k free none =
    free 4 (out_of_turn (NextLink k) (no_actor s.stage (vec_items s.layers) (vec_items s.actors) (vec_items s.links.list) k (sym s.actors.ok.0 ∙ none)))

few_before : (s : ReadSheet) (k : Link) → Free (draft_of s) (NextLink k) → Buffers k → s.links.fifos < 192
few_before s k free is =
    let count : s.links.fifos ≡ fifo_count (links_of (draft_of s)) = s.links.counted ∙ ap fifo_count (links_held s) in
    ⊎_elim (λ l. l) (λ l. absurd (free 7 (too_many_fifos k is (omega arith)))) (cases_lt s.links.fifos 192)

-- joins actors that are there
pub ends_known : (s : ReadSheet) (k : Link) → Free (draft_of s) (NextLink k) → (from k < vec_len s.actors) × (to k < vec_len s.actors)
ends_known s k free =
    let count = actor_count_held s in (
      ⊎_elim (λ l. l) (λ l. absurd (free 6 (unknown_from k (omega arith)))) (cases_lt (from k) (vec_len s.actors)),
      ⊎_elim (λ l. l) (λ l. absurd (free 6 (unknown_to k (omega arith)))) (cases_lt (to k) (vec_len s.actors)),
    )

-- leaves at most 192 FIFOs
pub few_after : (s : ReadSheet) (k : Link) → Free (draft_of s) (NextLink k) → s.links.fifos + fifo_count (k ∷ []) ≤ 192
few_after s (Plain f) free = let few = few_before s (Plain f) free (plain f) in omega arith
few_after s (Delayed f) free = let few = few_before s (Delayed f) free (delayed f) in omega arith
few_after s (Ordered q) free = let few = s.links.few in omega arith

-- may come into the order
pub joinable : (s : ReadSheet) (k : Link) → Free (draft_of s) (NextLink k) → Orders k → may_join s.links.order.rows (from k) (to k) ≡ true
joinable s k free orders = true_from_ne_false (may_join s.links.order.rows (from k) (to k)) clash
  where
    one : from k < 64
    one = let known = ends_known s k free in omega (arith, s.few)

    other : to k < 64
    other = let known = ends_known s k free in omega (arith, s.few)

    clash : may_join s.links.order.rows (from k) (to k) ≡ false → ⊥
    clash never =
        free 10
        (backward k orders
        (subst (λ ks. Linked (edges ks) (to k) (from k)) (links_held s)
        (forbids s.links.order.rows (vec_items s.links.list) s.links.meant (from k) (to k) one other (λ e. free 8 (equal_ends k orders e)) never)))

sized : (n : ℕ) → ((Size n → ⊥) → ⊥) → Size n
sized n h = go (size_in_range n) refl
  where
    go : (b : Bool) → size_in_range n ≡ b → Size n
    go true e = size_told n e
    go false e = absurd (h (refuted (size_in_range n) (size_heard n) e))

-- and makes no object but one of a size in range
pub object_sized : (d : Draft) (k : Link) (o : Object) → Free d (NextLink k) → buffers (k ∷ []) ≡ o ∷ [] → Size o.size
object_sized d (Plain f) o free is = let e : f.size ≡ o.size = cc in subst Size e (sized f.size (λ no. free 5 (off_range (NextLink (Plain f)) no)))
object_sized d (Delayed f) o free is = let e : f.size ≡ o.size = cc in subst Size e (sized f.size (λ no. free 5 (off_range (NextLink (Delayed f)) no)))
object_sized d (Ordered q) o free is = absurd (cc)
