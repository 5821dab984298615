-- The cores that touch an object reach the banks that hold it.
use Rattle.std.proofs.Common.{◌≡◌, ℕ, zero, suc, ◌+◌, ◌<◌, ◌≤◌, true, false, cond, eqb, ltb, List, [], ◌∷◌, map, length, Some, refl, arith}
use Rattle.std.proofs.ByRecursion.{All-append, All-get_or, All-map}
use Rattle.std.proofs.lemmas.List.{length-map}
use Rattle.std.proofs.lemmas.Bool.{and_from, lt-ltb}
use Rattle.rules.specs.declared.memory.Object.{Object}
use Rattle.rules.specs.declared.sheet.Actor.{Actor}
use Rattle.rules.specs.declared.sheet.Link.{Link}
use Rattle.rules.specs.declared.sheet.Link.TheVariants.{Plain, Delayed, Ordered}
use Rattle.rules.specs.Lists.{Every}
use Rattle.rules.specs.Fabrics.{Meaning, OfOneOrTwo, member}
use Rattle.rules.specs.Sheets.{Sheet, actor_count, core}
use Rattle.rules.specs.Order.{Ends, OrderedSheet}
use Rattle.rules.specs.Objects.{area_of, areas, buffers, objects, object_count, first, last, touching}
use Rattle.rules.specs.Layouts.{RunsOn, Placeable, Layout, SoundLayout}

-- the first and the last actor of an object are below n
abbrev ActorsBelow : ℕ → Object → Type 0
ActorsBelow n o = (o.producer < n) × (o.consumer < n)

areas_below : (n a : ℕ) (xs : List Actor) → a + length xs ≤ n → Every (ActorsBelow n) (areas a xs)
areas_below n a [] l = tt
areas_below n a (x ∷ xs) l =
    All-append (ActorsBelow n) (area_of a x.work) (areas (suc a) xs) here (areas_below n (suc a) xs (omega arith))
  where
    here : Every (ActorsBelow n) (area_of a x.work)
    here =
        elim (eqb x.work 0) as (λ t. Every (ActorsBelow n) (cond t [] (record { producer = a; consumer = a; size = x.work; delayed = false } ∷ [])))
        [ true ↦ tt | false ↦ ((omega arith, omega arith), tt) ]

buffers_below : (n : ℕ) (ks : List Link) → Every (Ends n) ks → Every (ActorsBelow n) (buffers ks)
buffers_below n [] ends = tt
buffers_below n (Plain f ∷ ks) ends = (ends.0, buffers_below n ks ends.1)
buffers_below n (Delayed f ∷ ks) ends = (ends.0, buffers_below n ks ends.1)
buffers_below n (Ordered q ∷ ks) ends = buffers_below n ks ends.1

-- the first and the last actor of an object are actors of the sheet
pub ends_are_actors : (s : Sheet) → OrderedSheet s → (x : ℕ) → x < object_count s → (first s x < actor_count s) × (last s x < actor_count s)
ends_are_actors s sound x known =
    All-get_or (ActorsBelow (actor_count s)) (objects s) x (record { producer = 0; consumer = 0; size = 0; delayed = false }) known
    (All-append (ActorsBelow (actor_count s)) (areas zero s.actors) (buffers s.links)
    (areas_below (actor_count s) zero s.actors (omega arith)) (buffers_below (actor_count s) s.links sound.ends))

-- the core of an actor is one of the fabric
pub core_is_known : (s : Sheet) (m : Meaning) → RunsOn s m → (a : ℕ) → a < actor_count s → core s a < m.cores
core_is_known s m runs a l =
    let cores : Actor → ℕ = λ x. x.core in
    let as_long = length-map s.actors cores in
    All-get_or (λ c. c < m.cores) (map cores s.actors) a 0 (omega arith) (All-map (λ c. c < m.cores) cores s.actors runs)

-- one or two cores touch an object
pub touched_by_one_or_two : (s : Sheet) (m : Meaning) → Placeable s m → (x : ℕ) → x < object_count s → OfOneOrTwo m.cores (touching s x)
touched_by_one_or_two s m P x known =
    let ends = ends_are_actors s P.ordered x known in
    (core s (first s x), core s (last s x), core_is_known s m P.runs_on (first s x) ends.0, core_is_known s m P.runs_on (last s x) ends.1, refl)

-- each core that touches an object reaches a bank that holds it
pub in_reach : (s : Sheet) (m : Meaning) (places : Layout) → Placeable s m → SoundLayout s m places →
    (x : ℕ) → x < object_count s → (c : ℕ) → member (touching s x) c ≡ true →
    (b : ℕ) × (b < m.banks) × (m.reaches c b ≡ true) × (p : ℕ) × (places b x ≡ Some p)
in_reach s m places P sound x known c touches =
    let homely = P.lawful.homely (touching s x) (touched_by_one_or_two s m P x known) in
    let r = homely.each_reaches c touches in
    let b = r.0 in
    let bank = homely.homes_are_banks b r.1 in
    let place =
    sound.each_home_has_a_place b x bank
    (and_from (ltb x (object_count s)) (member (m.homes (touching s x)) b) (lt-ltb x (object_count s) known) r.1)
    in
    (b, bank, r.2, place.0, place.1)
