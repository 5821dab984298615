-- The map of a sheet on its own fabric, and the refusal for lack of space, checked.
use Rattle.std.proofs.Common.{◌≡◌, ℕ, Bool, true, cond, ◌&&◌, ltb, List, [], get_or, None, Option}
use Rattle.std.proofs.lemmas.Bool.{and_parts, ltb-true, cond-false}
use Rattle.rules.specs.Fitting.{Rule}
use Rattle.rules.specs.Fabrics.{Meaning}
use Rattle.rules.specs.Sheets.{Sheet}
use Rattle.rules.specs.Exclusion.{Excludes}
use Rattle.rules.specs.Layouts.{Layout, LaidOut, NoRoom, bank_of, home}
use Rattle.rules.specs.Maps.{MapOf, map_text}
use Rattle.rules.proofs.Checking.{all_under, all_under_so}
use Rattle.rules.proofs.ExclusionChecks.{is_listed, is_listed_so, so_is_listed, exclusions_are, exclusions_so}
use Rattle.rules.proofs.BankChecks.{is_filled, is_lacking, is_footprint, placing_so, full_so, lacking_so, footprint_so}

-- places by bank and object, for homes alone
abbrev pub at_homes : Sheet → Meaning → List (List (Option ℕ)) → Layout
at_homes s m table b x = cond (home s m b x) (get_or (get_or table b []) x None) None

-- whether every bank is placed by the rule and full
unfoldable pub is_laid_out : Sheet → Meaning → List (ℕ × ℕ) → Rule → Layout → Bool
unfolding all_under is_listed is_filled
is_laid_out s m pairs rule places = all_under m.banks (λ b. is_filled (bank_of s m b) (is_listed pairs) rule (places b))

-- whether every bank has its footprint
unfoldable pub has_footprints : Sheet → Meaning → Layout → List ℕ → Bool
unfolding all_under is_footprint
has_footprints s m places feet = all_under m.banks (λ b. is_footprint (bank_of s m b) (places b) (get_or feet b 0))

-- whether bank b is the first that lacks space, for x
unfoldable pub has_no_room : Sheet → Meaning → List (ℕ × ℕ) → Rule → Layout → ℕ → ℕ → Bool
unfolding all_under is_listed is_filled is_lacking
has_no_room s m pairs rule places b x =
    ltb b m.banks && (is_lacking (bank_of s m b) (is_listed pairs) rule (places b) x
    && all_under b (λ c. is_filled (bank_of s m c) (is_listed pairs) rule (places c)))

module _ (s : Sheet) (m : Meaning) (pairs : List (ℕ × ℕ)) (exclusions : exclusions_are s pairs ≡ true) (rule : Rule) where
  to : (x y : ℕ) → is_listed pairs x y ≡ true → Excludes s x y
  to x y t = (exclusions_so s pairs exclusions x y).1 (is_listed_so pairs x y t)

  back : (x y : ℕ) → Excludes s x y → is_listed pairs x y ≡ true
  back x y e = so_is_listed pairs x y ((exclusions_so s pairs exclusions x y).0 e)

  laid_out_so : (table : List (List (Option ℕ))) → is_laid_out s m pairs rule (at_homes s m table) ≡ true → LaidOut s m rule (at_homes s m table)
  unfolding is_laid_out
  laid_out_so table t =
      let places : Layout = at_homes s m table in
      let filled : ℕ → Bool = λ b. is_filled (bank_of s m b) (is_listed pairs) rule (places b) in
      record {
        by_the_rule = λ b l. placing_so (bank_of s m b) (is_listed pairs) to back rule (places b) (all_under_so m.banks filled t b l);
        full = λ b l. full_so (bank_of s m b) (is_listed pairs) to back rule (places b) (all_under_so m.banks filled t b l);
        nowhere_else = λ b x e. cond-false (home s m b x) (get_or (get_or table b []) x None) None e;
      }

  -- where the tests pass, the text is the map
  pub map_so : (table : List (List (Option ℕ))) (feet out : List ℕ) → is_laid_out s m pairs rule (at_homes s m table) ≡ true →
      has_footprints s m (at_homes s m table) feet ≡ true → out ≡ map_text s m (at_homes s m table) (λ b. get_or feet b 0) → MapOf s m rule out
  unfolding has_footprints
  map_so table feet out t u e =
      let places : Layout = at_homes s m table in
      record {
        places = places;
        laid_out = laid_out_so table t;
        footprint = λ b. get_or feet b 0;
        footprints = λ b l.
            footprint_so (bank_of s m b) (places b) (get_or feet b 0)
            (all_under_so m.banks (λ b. is_footprint (bank_of s m b) (places b) (get_or feet b 0)) u b l);
        is_map = e;
      }

  -- where the test passes, there is no room for x in bank b
  pub no_room_so : (table : List (List (Option ℕ))) (b x : ℕ) → has_no_room s m pairs rule (at_homes s m table) b x ≡ true → NoRoom s m rule b x
  unfolding has_no_room
  no_room_so table b x t =
      let places : Layout = at_homes s m table in
      let filled : ℕ → Bool = λ c. is_filled (bank_of s m c) (is_listed pairs) rule (places c) in
      let p = and_parts (ltb b m.banks) (is_lacking (bank_of s m b) (is_listed pairs) rule (places b) x && all_under b filled) t in
      let q = and_parts (is_lacking (bank_of s m b) (is_listed pairs) rule (places b) x) (all_under b filled) p.1 in
      record {
        bank = ltb-true b m.banks p.0;
        places = places;
        lacks = lacking_so (bank_of s m b) (is_listed pairs) to back rule (places b) x q.0;
        lower_by_the_rule = λ c l. placing_so (bank_of s m c) (is_listed pairs) to back rule (places c) (all_under_so b filled q.1 c l);
        lower_full = λ c l. full_so (bank_of s m c) (is_listed pairs) to back rule (places c) (all_under_so b filled q.1 c l);
      }
