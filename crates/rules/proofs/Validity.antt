-- What every valid sheet has: an order, numbers in range, and few objects. So it can be placed.
use Rattle.std.proofs.Common.{◌≡◌, ℕ, suc, ◌+◌, ◌^◌, ◌<◌, ◌≤◌, Bool, true, false, cond, eqb, List, [], ◌∷◌, ◌++◌, length, sym, refl, subst, arith, length-append}
use Rattle.std.proofs.lemmas.Bool.{eqb-false}
use Rattle.std.proofs.lemmas.List.{length_push}
use Rattle.std.proofs.ByRecursion.{All-push, All-append, All-get_or}
use Rattle.rules.specs.declared.memory.Object.{Object}
use Rattle.rules.specs.declared.sheet.Kind.{Kind}
use Rattle.rules.specs.declared.sheet.Kind.TheVariants.{Unified, Private, Hybrid}
use Rattle.rules.specs.declared.sheet.Machine.{Machine}
use Rattle.rules.specs.declared.sheet.Actor.{Actor}
use Rattle.rules.specs.declared.sheet.Link.{Link}
use Rattle.rules.specs.declared.sheet.Link.TheVariants.{Plain, Delayed, Ordered}
use Rattle.rules.specs.declared.sheet.Entry.{Entry}
use Rattle.rules.specs.declared.sheet.Entry.TheVariants.{OnMachine, NextActor, NextLink}
use Rattle.rules.specs.Lists.{Every}
use Rattle.rules.specs.Fitting.{OnTheTable}
use Rattle.rules.specs.Fabrics.{Meaning, by_kind, fabric_of}
use Rattle.rules.specs.Sheets.{Sheet, actor_count}
use Rattle.rules.specs.Order.{Ends, OrderedSheet}
use Rattle.rules.specs.Objects.{area_of, areas, buffers, objects, object_count, size}
use Rattle.rules.specs.Spelling.{Writable}
use Rattle.rules.specs.Drafts.{Draft, nothing, machined, sheet, InTurn, machine_first, fit_next, low_once, snug_once, actor_then, link_last, InRange, from, to, fifo_count, plain, delayed, unknown_core, unknown_from, unknown_to, too_many_actors, too_many_fifos, equal_ends, backward, Free, next}
use Rattle.rules.specs.Reading.{Valid}
use Rattle.rules.specs.Layouts.{Lawful, RunsOn, Placeable}
use Rattle.rules.specs.OrderLaws.{MayJoin}
use Rattle.rules.specs.ReadingLaws.{ValidSheetsCanBePlaced}
use Rattle.rules.proofs.Orderings.{no_chain}
use Rattle.rules.proofs.Joining.{link_tests_exact}
use Rattle.rules.proofs.Homes.{fabrics_are_lawful}
use Rattle.rules.proofs.Judging.{free_in_turn, free_in_range}
use Rattle.rules.proofs.Accepted.{valid_by}

-- ---- what each entry that is taken keeps

-- a machine that was taken
pub record SoundMachine (m : Machine) : Type 0 where
  pub some_cores : 1 ≤ m.cores
  pub few_cores : m.cores ≤ 8
  pub grain_on_the_table : OnTheTable m.grain
  pub shared_in_range : m.shared < 2 ^ 32
  pub private_in_range : m.private < 2 ^ 32

-- a sheet whose entries were taken one after the other
pub record SoundSheet (s : Sheet) : Type 0 where
  pub on_machine : SoundMachine s.machine
  pub ordered : OrderedSheet s
  pub cores_known : Every (λ a. a.core < s.machine.cores) s.actors
  pub works_in_range : Every (λ a. a.work ≤ 16777216) s.actors
  pub few_actors : length s.actors ≤ 64
  pub few_fifos : fifo_count s.links ≤ 192
  pub links_in_range : Every (λ k. InRange (NextLink k)) s.links

-- a draft whose entries were taken one after the other
abbrev pub SoundDraft : Draft → Type 0
SoundDraft nothing = Unit {0}
SoundDraft (machined m) = SoundMachine m
SoundDraft (sheet s) = SoundSheet s

fifo_count_push : (ks : List Link) (k : Link) → fifo_count (ks ++ (k ∷ [])) ≡ fifo_count ks + fifo_count (k ∷ [])
fifo_count_push [] k = omega arith
fifo_count_push (Plain f ∷ ks) k = omega (arith, fifo_count_push ks k)
fifo_count_push (Delayed f ∷ ks) k = omega (arith, fifo_count_push ks k)
fifo_count_push (Ordered q ∷ ks) k = fifo_count_push ks k

-- one link more is no FIFO too many
still_few : (s : Sheet) (k : Link) → Free (sheet s) (NextLink k) → fifo_count s.links ≤ 192 → fifo_count (s.links ++ (k ∷ [])) ≤ 192
still_few s (Plain f) free few =
    let more : 192 ≤ fifo_count s.links → ⊥ = λ h. free 7 (too_many_fifos (Plain f) (plain f) h) in
    omega (arith, fifo_count_push s.links (Plain f))
still_few s (Delayed f) free few =
    let more : 192 ≤ fifo_count s.links → ⊥ = λ h. free 7 (too_many_fifos (Delayed f) (delayed f) h) in
    omega (arith, fifo_count_push s.links (Delayed f))
still_few s (Ordered q) free few = omega (arith, fifo_count_push s.links (Ordered q))

known_ends : (count : ℕ) (k : Link) → from k < count → to k < count → Ends count k
known_ends count (Plain f) p q = (p, q)
known_ends count (Delayed f) p q = (p, q)
known_ends count (Ordered f) p q = (p, q)

may_join : (s : Sheet) (k : Link) → Free (sheet s) (NextLink k) → MayJoin s k
may_join s k free =
    let p : length s.actors ≤ from k → ⊥ = λ h. free 6 (unknown_from k h) in
    let q : length s.actors ≤ to k → ⊥ = λ h. free 6 (unknown_to k h) in
    record {
      ends = known_ends (actor_count s) k (omega arith) (omega arith);
      different = λ o e. free 8 (equal_ends k o e);
      not_against = λ o c. free 10 (backward k o c);
    }

kept : {d : Draft} {e : Entry} → InTurn d e → Writable e → Free d e → SoundDraft d → SoundDraft (next d e)
kept (machine_first m) w free p =
    let r = free_in_range nothing (OnMachine m) free in
    record { some_cores = r.0; few_cores = r.1; grain_on_the_table = r.2; shared_in_range = omega (arith, w.1); private_in_range = omega (arith, w.2) }
kept (fit_next m f) w free p =
    record {
      on_machine = p;
      ordered = record { ends = tt; no_circle = λ a c. no_chain c };
      cores_known = tt;
      works_in_range = tt;
      few_actors = omega arith;
      few_fifos = omega arith;
      links_in_range = tt;
    }
kept (low_once s n a k none) w free p =
    record {
      on_machine = p.on_machine;
      ordered = record { ends = p.ordered.ends; no_circle = p.ordered.no_circle };
      cores_known = p.cores_known;
      works_in_range = p.works_in_range;
      few_actors = p.few_actors;
      few_fifos = p.few_fifos;
      links_in_range = p.links_in_range;
    }
kept (snug_once s n a k none) w free p =
    record {
      on_machine = p.on_machine;
      ordered = record { ends = p.ordered.ends; no_circle = p.ordered.no_circle };
      cores_known = p.cores_known;
      works_in_range = p.works_in_range;
      few_actors = p.few_actors;
      few_fifos = p.few_fifos;
      links_in_range = p.links_in_range;
    }
kept (actor_then s a none) w free p =
    let core : s.machine.cores ≤ a.core → ⊥ = λ h. free 6 (unknown_core a h) in
    let more : 64 ≤ length s.actors → ⊥ = λ h. free 7 (too_many_actors a h) in
    record {
      on_machine = p.on_machine;
      ordered = record {
        ends = subst (λ (ks : List Link). Every (Ends (length (s.actors ++ (a ∷ [])))) ks) (sym none) tt;
        no_circle = p.ordered.no_circle;
      };
      cores_known = All-push (λ x. x.core < s.machine.cores) s.actors a p.cores_known (omega arith);
      works_in_range = All-push (λ x. x.work ≤ 16777216) s.actors a p.works_in_range (free_in_range (sheet s) (NextActor a) free);
      few_actors = omega (arith, length_push s.actors a);
      few_fifos = p.few_fifos;
      links_in_range = p.links_in_range;
    }
kept (link_last s k some) w free p =
    record {
      on_machine = p.on_machine;
      ordered = (link_tests_exact s p.ordered k).0 (may_join s k free);
      cores_known = p.cores_known;
      works_in_range = p.works_in_range;
      few_actors = p.few_actors;
      few_fifos = still_few s k free p.few_fifos;
      links_in_range = All-push (λ x. InRange (NextLink x)) s.links k p.links_in_range (free_in_range (sheet s) (NextLink k) free);
    }

-- an entry that is taken keeps a draft sound
pub sound_next : (d : Draft) (e : Entry) → Writable e → Free d e → SoundDraft d → SoundDraft (next d e)
sound_next d e w free p = kept (free_in_turn d e free) w free p

-- a valid sheet is sound
pub valid_sound : (s : Sheet) → Valid s → SoundSheet s
valid_sound s v = valid_by SoundDraft tt sound_next s v

-- ---- its objects

-- a size that an object has
abbrev Sized : Object → Type 0
Sized o = (0 < o.size) × (o.size ≤ 16777216)

few_areas : (a : ℕ) (xs : List Actor) → length (areas a xs) ≤ length xs
few_areas a [] = omega arith
few_areas a (x ∷ xs) = one (few_areas (suc a) xs) (eqb x.work 0)
  where
    one : length (areas (suc a) xs) ≤ length xs → (b : Bool) → length (cond b [] (record { producer = a; consumer = a; size = x.work; delayed = false } ∷ []) ++ areas (suc a) xs) ≤ suc (length xs)
    one few true = omega arith
    one few false = omega arith

sized_areas : (a : ℕ) (xs : List Actor) → Every (λ x. x.work ≤ 16777216) xs → Every Sized (areas a xs)
sized_areas a [] p = tt
sized_areas a (x ∷ xs) p = All-append Sized (area_of a x.work) (areas (suc a) xs) (one (eqb x.work 0) refl) (sized_areas (suc a) xs p.1)
  where
    one : (b : Bool) → eqb x.work 0 ≡ b → Every Sized (cond b [] (record { producer = a; consumer = a; size = x.work; delayed = false } ∷ []))
    one true t = tt
    one false t = let some = eqb-false x.work 0 t in ((omega arith, p.0), tt)

few_buffers : (ks : List Link) → length (buffers ks) ≡ fifo_count ks
few_buffers [] = refl
few_buffers (Plain f ∷ ks) = omega (arith, few_buffers ks)
few_buffers (Delayed f ∷ ks) = omega (arith, few_buffers ks)
few_buffers (Ordered q ∷ ks) = few_buffers ks

sized_buffers : (ks : List Link) → Every (λ k. InRange (NextLink k)) ks → Every Sized (buffers ks)
sized_buffers [] p = tt
sized_buffers (Plain f ∷ ks) p = (p.0, sized_buffers ks p.1)
sized_buffers (Delayed f ∷ ks) p = (p.0, sized_buffers ks p.1)
sized_buffers (Ordered q ∷ ks) p = sized_buffers ks p.1

few_objects : (s : Sheet) → SoundSheet s → object_count s ≤ 256
few_objects s p =
    omega (arith, length-append (areas 0 s.actors) (buffers s.links), few_areas 0 s.actors, few_buffers s.links, p.few_actors, p.few_fifos)

sizes_in_range : (s : Sheet) → SoundSheet s → (x : ℕ) → x < object_count s → (0 < size s x) × (size s x ≤ 16777216)
sizes_in_range s p x l =
    All-get_or Sized (objects s) x (record { producer = 0; consumer = 0; size = 0; delayed = false }) l
    (All-append Sized (areas 0 s.actors) (buffers s.links) (sized_areas 0 s.actors p.works_in_range) (sized_buffers s.links p.links_in_range))

-- ---- the law

kind_cores : (k : Kind) (cores shared private : ℕ) → cores ≡ (by_kind k cores shared private).cores
kind_cores Unified cores shared private = refl
kind_cores Private cores shared private = refl
kind_cores Hybrid cores shared private = refl

own_cores : (s : Sheet) → SoundSheet s → RunsOn s (fabric_of s.machine)
own_cores s p =
    let m = s.machine in
    subst (λ (n : ℕ). Every (λ a. a.core < n) s.actors) (kind_cores m.kind m.cores m.shared m.private) p.cores_known

-- a sound sheet can be placed on every lawful fabric that has its cores
pub sound_placeable : (s : Sheet) (m : Meaning) → SoundSheet s → Lawful m → RunsOn s m → Placeable s m
sound_placeable s m p lawful runs =
    record {
      ordered = p.ordered;
      few_objects = few_objects s p;
      sizes_in_range = sizes_in_range s p;
      grain_on_the_table = p.on_machine.grain_on_the_table;
      lawful = lawful;
      runs_on = runs;
    }

-- the law of valid sheets
pub valid_sheets_can_be_placed : ValidSheetsCanBePlaced
valid_sheets_can_be_placed s v =
    let p = valid_sound s v in
    record {
      ordered = p.ordered;
      own_cores = own_cores s p;
      own_fabric = fabrics_are_lawful s.machine p.on_machine.few_cores p.on_machine.shared_in_range p.on_machine.private_in_range;
      placeable = λ m lawful runs. sound_placeable s m p lawful runs;
    }
