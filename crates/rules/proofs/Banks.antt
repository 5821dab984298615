-- The banks of a sheet: their objects are those that have a home in them, and a placeable sheet makes sound banks.
use Rattle.std.proofs.Common.{◌≡◌, ℕ, zero, suc, ◌<◌, Bool, true, false, cond, ltb, List, [], ◌∷◌, length, filter, sym, refl, ap, ◌∙◌, subst, inl, inr, arith}
use Rattle.std.proofs.ByRecursion.{kept_by_passes}
use Rattle.std.proofs.lemmas.Bool.{and_parts, ltb-true, cond-true}
use Rattle.rules.specs.Lists.{◌∈◌, numbers_from}
use Rattle.rules.specs.Fabrics.{Meaning, member}
use Rattle.rules.specs.Sheets.{Sheet}
use Rattle.rules.specs.Objects.{object_count, touching}
use Rattle.rules.specs.Placing.{SoundBank}
use Rattle.rules.specs.Layouts.{Placeable, home, bank_of}
use Rattle.rules.proofs.Members.{all_at}
use Rattle.rules.proofs.Layers.{length_kept}
use Rattle.rules.proofs.Excluding.{exclusion_is_a_graph}
use Rattle.rules.proofs.Firings.{in_numbers}

-- a member that passes is one of those that pass
pub in_kept : {X : Type 0} (p : X → Bool) (x : X) (xs : List X) → x ∈ xs → p x ≡ true → x ∈ filter p xs
in_kept p x [] m t = m
in_kept p x (y ∷ ys) (inl e) t =
    subst (λ zs. x ∈ zs) (sym (cond-true (p y) (y ∷ filter p ys) (filter p ys) (ap p (sym e) ∙ t))) (inl e)
in_kept p x (y ∷ ys) (inr m) t =
    let rest = in_kept p x ys m t in
    elim (p y) as (λ b. x ∈ cond b (y ∷ filter p ys) (filter p ys)) [ true ↦ inr rest | false ↦ rest ]

-- those that pass do pass
pub kept_passes : {X : Type 0} (p : X → Bool) (x : X) (xs : List X) → x ∈ filter p xs → p x ≡ true
kept_passes p x xs m = all_at (λ y. p y ≡ true) x (filter p xs) m (kept_by_passes p xs)

-- as many numbers are listed as are asked for
pub length_numbers : (count from : ℕ) → length (numbers_from from count) ≡ count
length_numbers zero from = refl
length_numbers (suc count) from = ap suc (length_numbers count (suc from))

module _ (s : Sheet) (m : Meaning) (b : ℕ) where
  -- an object of the bank has a home in it
  pub has_home : (x : ℕ) → x ∈ (bank_of s m b).objects → home s m b x ≡ true
  has_home x i = kept_passes (home s m b) x (numbers_from 0 (object_count s)) i

  -- and it is one of the sheet
  pub home_is_known : (x : ℕ) → home s m b x ≡ true → x < object_count s
  home_is_known x h =
      ltb-true x (object_count s) (and_parts (ltb x (object_count s)) (member (m.homes (touching s x)) b) h).0

  -- what has a home in the bank is an object of it
  pub in_bank : (x : ℕ) → home s m b x ≡ true → x ∈ (bank_of s m b).objects
  in_bank x h =
      let known = home_is_known x h in
      in_kept (home s m b) x (numbers_from 0 (object_count s)) (in_numbers 0 (object_count s) x (omega arith) (omega arith)) h

  -- the banks of a placeable sheet are sound
  pub bank_is_sound : Placeable s m → b < m.banks → SoundBank (bank_of s m b)
  bank_is_sound p l =
      let shorter = length_kept (home s m b) (numbers_from 0 (object_count s)) in
      let all = length_numbers (object_count s) 0 in
      let few = p.few_objects in
      record {
        capacity_in_range = p.lawful.capacities_in_range b l;
        grain_on_the_table = p.grain_on_the_table;
        few_objects = omega arith;
        sizes_in_range = λ x i. p.sizes_in_range x (home_is_known x (has_home x i));
        never_itself = exclusion_is_a_graph.never_itself s;
        both_ways = exclusion_is_a_graph.both_ways s;
      }
