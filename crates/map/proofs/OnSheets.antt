-- The map of a layout that has the banks and objects of a sheet is the sheet's map of its places.
use Rattle.std.proofs.Common.{◌≡◌, ℕ, zero, suc, ◌+◌, ◌<◌, List, ◌∷◌, ◌++◌, length, vec_items, sym, refl, ap, ◌∙◌, arith}
use Rattle.std.proofs.lemmas.List.{length-map}
use Rattle.rules.specs.Lists.{numbers_from}
use Rattle.rules.specs.Sheets.{Sheet}
use Rattle.rules.specs.Objects.{object_count}
use Rattle.rules.specs.Fitting.{Rule}
use Rattle.rules.specs.Fabrics.{Meaning}
use Rattle.rules.specs.Spelling.{header}
use Rattle.rules.specs.Maps.{for_each, bank_line, map_text, MapOf}
use Rattle.layout.specs.declared.plan_layout.Layout.{Layout}
use Rattle.layout.specs.Spots.{place_in}
use Rattle.layout.specs.declared.spots.Spot.{Spot}
use Rattle.layout.specs.Worlds.{World, AllSettled, use_at}
use Rattle.layout.specs.Sheets.{OfSheet}
use Rattle.layout.proofs.OnSheets.{settled_laid_out, settled_footprint}
use Rattle.map.specs.Maps.{bank_lines, home_line, map_of}

-- two that give the same for each number of a list
same_from : (f g : ℕ → List ℕ) (a n : ℕ) → ((k : ℕ) → k < a + n → f k ≡ g k) → for_each f (numbers_from a n) ≡ for_each g (numbers_from a n)
same_from f g a zero same = refl
same_from f g a (suc n) same =
    ap (λ xs. xs ++ for_each f (numbers_from (suc a) n)) (same a (omega arith))
    ∙ ap (λ xs. g a ++ xs) (same_from f g (suc a) n (λ k h. same k (omega arith)))

module _ (l : Layout) (s : Sheet) (m : Meaning) (objects : length (vec_items l.spots) ≡ object_count s) (counted : length (vec_items l.banks) ≡ m.banks)
    (sized : (b : ℕ) → b < m.banks → (use_at (vec_items l.banks) b).capacity ≡ m.capacity b) where
  same_bank : (b : ℕ) → b < 0 + m.banks → bank_line b (use_at (vec_items l.banks) b).footprint (use_at (vec_items l.banks) b).capacity ≡ bank_line b (use_at (vec_items l.banks) b).footprint (m.capacity b)
  same_bank b h = ap (bank_line b (use_at (vec_items l.banks) b).footprint) (sized b (omega arith))

  pub same_text : map_of l ≡ map_text s m (place_in (vec_items l.spots)) (λ b. (use_at (vec_items l.banks) b).footprint)
  same_text =
      ap (λ n. header ++ (10 ∷ (bank_lines (vec_items l.banks) n ++ for_each (λ x. for_each (home_line l x) (numbers_from 0 n)) (numbers_from 0 (length (vec_items l.spots)))))) counted
      ∙ ap (λ n. header ++ (10 ∷ (bank_lines (vec_items l.banks) m.banks ++ for_each (λ x. for_each (home_line l x) (numbers_from 0 m.banks)) (numbers_from 0 n)))) objects
      ∙ ap (λ ls. header ++ (10 ∷ (ls ++ for_each (λ x. for_each (home_line l x) (numbers_from 0 m.banks)) (numbers_from 0 (object_count s)))))
      (same_from (λ b. bank_line b (use_at (vec_items l.banks) b).footprint (use_at (vec_items l.banks) b).capacity) (λ b. bank_line b (use_at (vec_items l.banks) b).footprint (m.capacity b)) 0 m.banks same_bank)

length_numbers : (a n : ℕ) → length (numbers_from a n) ≡ n
length_numbers a zero = refl
length_numbers a (suc n) = ap suc (length_numbers (suc a) n)

-- so the map of a layout that is settled for a sheet is a map of the sheet
module _ (w : World) (s : Sheet) (of-sheet : OfSheet w s) (m : Meaning) (rule : Rule) (grain : ℕ) (grained : grain ≡ s.machine.grain) (room : ℕ) (l : Layout)
    (all : AllSettled w m rule grain room (vec_items l.banks) (vec_items l.spots)) where
  objects_are : length (vec_items l.spots) ≡ object_count s
  objects_are =
      sym (length-map (vec_items l.spots) (λ (p : Spot). p.homes)) ∙ ap length all.homes_are
      ∙ length-map (numbers_from 0 w.count) (λ x. m.homes (w.touched x)) ∙ length_numbers 0 w.count ∙ of-sheet.count

  pub settled_map : MapOf s m rule (map_of l)
  settled_map =
      record {
        places = place_in (vec_items l.spots);
        laid_out = settled_laid_out w s of-sheet m rule grain grained room (vec_items l.banks) (vec_items l.spots) all;
        footprint = λ b. (use_at (vec_items l.banks) b).footprint;
        footprints = settled_footprint w s of-sheet m rule grain grained room (vec_items l.banks) (vec_items l.spots) all;
        is_map = same_text l s m objects_are all.counted (λ b h. (all.settled b h).capacity);
      }
