-- The actors of links and objects are known, and an object's first actor is its last or before it.
use Rattle.std.proofs.Common.{◌≡◌, ℕ, zero, suc, ◌+◌, ◌<◌, ◌≤◌, true, false, cond, eqb, ◌⊎◌, List, [], ◌∷◌, length, refl, ap, subst, inl, inr, arith}
use Rattle.std.proofs.ByRecursion.{All-append, All-get_or}
use Rattle.rules.specs.declared.memory.Object.{Object}
use Rattle.rules.specs.declared.sheet.Actor.{Actor}
use Rattle.rules.specs.declared.sheet.Link.{Link}
use Rattle.rules.specs.declared.sheet.Link.TheVariants.{Plain, Delayed, Ordered}
use Rattle.rules.specs.Lists.{Every}
use Rattle.rules.specs.Sheets.{Sheet, actor_count}
use Rattle.rules.specs.Order.{one, edges, Before, Ends, OrderedSheet}
use Rattle.rules.specs.Objects.{area_of, areas, buffers, objects, object_count, first, last, always_live}
use Rattle.rules.proofs.Chains.{Paired, chain_join}
use Rattle.rules.proofs.Orderings.{chain_begins}

-- both ends of a pair that links order are known, where the links' ends are
pub edge_known : (n : ℕ) (ks : List Link) → Every (Ends n) ks → (a b : ℕ) → Paired (edges ks) a b → (a < n) × (b < n)
edge_known n [] ends a b m = absurd m
edge_known n (Plain f ∷ ks) ends a b (inl e) =
    let p : a ≡ f.from = ap (λ (q : ℕ × ℕ). q.0) e in
    let q : b ≡ f.to = ap (λ (q : ℕ × ℕ). q.1) e in
    let k = ends.0 in (omega arith, omega arith)
edge_known n (Plain f ∷ ks) ends a b (inr m) = edge_known n ks ends.1 a b m
edge_known n (Delayed f ∷ ks) ends a b m = edge_known n ks ends.1 a b m
edge_known n (Ordered q ∷ ks) ends a b (inl e) =
    let p : a ≡ q.first = ap (λ (q : ℕ × ℕ). q.0) e in
    let r : b ≡ q.second = ap (λ (q : ℕ × ℕ). q.1) e in
    let k = ends.0 in (omega arith, omega arith)
edge_known n (Ordered q ∷ ks) ends a b (inr m) = edge_known n ks ends.1 a b m

-- an actor that is before another is known
pub before_known : (s : Sheet) → OrderedSheet s → {a b : ℕ} → Before s a b → a < actor_count s
before_known s sound {a} c =
    let r = chain_begins (edges s.links) c in (edge_known (actor_count s) s.links sound.ends a r.0 r.1).0

-- the object's first actor is known, and is its last or leads to it, unless the object is always live
abbrev pub Spans : ℕ → List (ℕ × ℕ) → Object → Type 0
Spans n pairs o =
    o.delayed ≡ false → (o.producer < n) × ((o.producer ≡ o.consumer) ⊎ Paired pairs o.producer o.consumer)

-- working areas span so
areas_span : (n : ℕ) (pairs : List (ℕ × ℕ)) (a : ℕ) (xs : List Actor) → a + length xs ≤ n → Every (Spans n pairs) (areas a xs)
areas_span n pairs a [] l = tt
areas_span n pairs a (x ∷ xs) l = All-append (Spans n pairs) (area_of a x.work) (areas (suc a) xs) here (areas_span n pairs (suc a) xs (omega arith))
  where
    here : Every (Spans n pairs) (area_of a x.work)
    here =
        elim (eqb x.work 0) as (λ t. Every (Spans n pairs) (cond t [] (record { producer = a; consumer = a; size = x.work; delayed = false } ∷ [])))
        [ true ↦ tt | false ↦ (λ p. (omega arith, inl refl), tt) ]

-- and FIFOs do, where the links' ends are known
buffers_span : (n : ℕ) (pairs : List (ℕ × ℕ)) (ks : List Link) → Every (Ends n) ks →
    ((a b : ℕ) → Paired (edges ks) a b → Paired pairs a b) → Every (Spans n pairs) (buffers ks)
buffers_span n pairs [] ends sub = tt
buffers_span n pairs (Plain f ∷ ks) ends sub =
    (λ p. (ends.0.0, inr (sub f.from f.to (inl refl))), buffers_span n pairs ks ends.1 (λ a b m. sub a b (inr m)))
buffers_span n pairs (Delayed f ∷ ks) ends sub =
    (λ p. let z : ◌≡◌ {A = ℕ} 0 1 = cc in absurd (omega arith), buffers_span n pairs ks ends.1 sub)
buffers_span n pairs (Ordered q ∷ ks) ends sub = buffers_span n pairs ks ends.1 (λ a b m. sub a b (inr m))

-- all objects of a sheet span so
pub objects_span : (s : Sheet) → OrderedSheet s → Every (Spans (actor_count s) (edges s.links)) (objects s)
objects_span s sound =
    All-append (Spans (actor_count s) (edges s.links)) (areas zero s.actors) (buffers s.links)
    (areas_span (actor_count s) (edges s.links) zero s.actors (omega arith))
    (buffers_span (actor_count s) (edges s.links) s.links sound.ends (λ a b m. m))

-- the first actor of an object that is not always live is known, and is its last or before it
pub object_spans : (s : Sheet) → OrderedSheet s → (x : ℕ) → x < object_count s → always_live s x ≡ false →
    (first s x < actor_count s) × ((first s x ≡ last s x) ⊎ Before s (first s x) (last s x))
object_spans s sound x known passes =
    let none : Object = record { producer = 0; consumer = 0; size = 0; delayed = false } in
    let h = All-get_or (Spans (actor_count s) (edges s.links)) (objects s) x none known (objects_span s sound) passes in
    (h.0, elim h.1 [ inl e ↦ inl e | inr m ↦ inr (one m) ])

-- an object that is not always live does not end before it begins
pub never_turned : (s : Sheet) → OrderedSheet s → (x : ℕ) → x < object_count s → always_live s x ≡ false → Before s (last s x) (first s x) → ⊥
never_turned s sound x known passes c =
    elim (object_spans s sound x known passes).1 [
      | inl e ↦ sound.no_circle (last s x) (subst (λ (b : ℕ). Before s (last s x) b) e c)
      | inr d ↦ sound.no_circle (last s x) (chain_join c d)
    ]
