-- Banks that are settled for the objects of a sheet are the layout of the sheet.

use Rattle.std.proofs.Common.{◌≡◌, ℕ, ◌<◌, ◌≤◌, false, ◌&&◌, ltb, ◌⊎◌, List, length, get_or, Some, None, filter, sym, refl, ap, ◌∙◌, subst, ⊎_elim, arith}
use Rattle.std.proofs.lemmas.List.{get_or_past}
use Rattle.std.proofs.lemmas.Bool.{lt-ltb, cases_lt, and_right, cond-false}
use Rattle.rules.specs.Lists.{◌∈◌, numbers_from}
use Rattle.rules.specs.Sheets.{Sheet}
use Rattle.rules.specs.Objects.{object_count}
use Rattle.rules.specs.Fitting.{Rule}
use Rattle.rules.specs.Fabrics.{Meaning, member}
use Rattle.rules.specs.Placing.{Footprint}
use Rattle.rules.specs.Layouts.{home, bank_of, LaidOut, NoRoom}
use Rattle.rules.proofs.Members.{any_kept}
use Rattle.layout.specs.declared.plan_layout.BankUse.{BankUse}
use Rattle.layout.specs.declared.spots.Spot.{Spot}
use Rattle.layout.specs.Spots.{homes_of, spot_at, place_in}
use Rattle.layout.specs.Worlds.{World, home_in, bank_at, use_at, AllSettled, LacksRoom}
use Rattle.layout.specs.Sheets.{OfSheet}
use Rattle.layout.proofs.Alike.{Alike, placing_to, full_to, lacks_to, footprint_to}
use Rattle.layout.proofs.Gathers.{numbered}
use Rattle.layout.proofs.Noted.{home_at}
use Rattle.layout.proofs.Whole.{kept_same, homes_length, homes_at, none_in_none}

module _ (w : World) (s : Sheet) (of-sheet : OfSheet w s) (m : Meaning) (rule : Rule) (grain : ℕ) (grained : grain ≡ s.machine.grain) where
  same_home : (b x : ℕ) → x < w.count → home_in w m b x ≡ home s m b x
  same_home b x l =
      let k : x < object_count s = subst (λ n. x < n) of-sheet.count l in
      ap (λ n. ltb x n && member (m.homes (w.touched x)) b) of-sheet.count
      ∙ ap (λ t. ltb x (object_count s) && member (m.homes t) b) (of-sheet.touched x k)

  known : (b x : ℕ) → x ∈ (bank_at w m grain b).objects → x < object_count s
  known b x i =
      let l = numbered 0 w.count x (any_kept (home_in w m b) (λ y. x ≡ y) (numbers_from 0 w.count) i) in omega (arith, of-sheet.count)

  banks_alike : (b : ℕ) → Alike (bank_at w m grain b) (bank_of s m b)
  banks_alike b =
      record {
        capacity = refl;
        grain = grained;
        objects =
            kept_same (home_in w m b) (home s m b) 0 w.count (λ x l. same_home b x (omega arith))
            ∙ ap (λ n. filter (home s m b) (numbers_from 0 n)) of-sheet.count;
        size = λ x i. of-sheet.sizes x (known b x i);
        excludes = λ x y i j. of-sheet.excluding x y (known b x i) (known b y j);
      }

  module _ (room : ℕ) (banks : List BankUse) (spots : List Spot) (all : AllSettled w m rule grain room banks spots) where
    -- none has a place where it has no home
    nowhere : (b x : ℕ) → home s m b x ≡ false → place_in spots b x ≡ None
    nowhere b x away =
        cond-false (ltb b 16 && member (spot_at spots x).homes b) (Some (get_or (spot_at spots x).places b 0)) None (and_right (ltb b 16) (member (spot_at spots x).homes b)
        (ap (λ h. member h b) (sym (home_at spots x)) ∙ none (cases_lt x w.count)))
      where
        none : (x < w.count) ⊎ (w.count ≤ x) → member (get_or (homes_of spots) x 0) b ≡ false
        none = ⊎_elim inside outside
          where
            inside : x < w.count → member (get_or (homes_of spots) x 0) b ≡ false
            inside l =
                ap (λ hs. member (get_or hs x 0) b) all.homes_are ∙ ap (λ h. member h b) (homes_at w m w.count x l)
                ∙ sym (ap (λ t. t && member (m.homes (w.touched x)) b) (lt-ltb x w.count l)) ∙ same_home b x l ∙ away

            outside : w.count ≤ x → member (get_or (homes_of spots) x 0) b ≡ false
            outside l =
                let long : length (homes_of spots) ≤ x = omega (arith, ap length all.homes_are, homes_length w m w.count) in
                ap (λ h. member h b) (get_or_past (homes_of spots) x 0 long) ∙ none_in_none b

    -- the table is the layout that the rules give
    pub settled_laid_out : LaidOut s m rule (place_in spots)
    settled_laid_out =
        record {
          by_the_rule = λ b l. placing_to (bank_at w m grain b) (bank_of s m b) (banks_alike b) rule (place_in spots b) (all.settled b l).placing;
          full = λ b l. full_to (bank_at w m grain b) (bank_of s m b) (banks_alike b) rule (place_in spots b) (all.settled b l).full;
          nowhere_else = nowhere;
        }

    -- with the footprints of its banks
    pub settled_footprint : (b : ℕ) → b < m.banks → Footprint (bank_of s m b) (place_in spots b) (use_at banks b).footprint
    settled_footprint b l =
        footprint_to (bank_at w m grain b) (bank_of s m b) (banks_alike b) (place_in spots b) (use_at banks b).footprint (all.settled b l).footprint

  -- where a bank lacks space, the sheet has no room
  pub lacks_no_room : (x b : ℕ) → LacksRoom w m rule grain x b → NoRoom s m rule b x
  lacks_no_room x b r =
      record {
        bank = r.bank;
        places = r.places;
        lacks = lacks_to (bank_at w m grain b) (bank_of s m b) (banks_alike b) rule (r.places b) x r.lacks;
        lower_by_the_rule = λ c l.
            placing_to (bank_at w m grain c) (bank_of s m c) (banks_alike c) rule (r.places c) (r.lower_by_the_rule c l);
        lower_full = λ c l. full_to (bank_at w m grain c) (bank_of s m c) (banks_alike c) rule (r.places c) (r.lower_full c l);
      }
