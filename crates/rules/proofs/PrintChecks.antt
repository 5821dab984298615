-- What a text prints, checked: its reading and its map or its refusal, for a sheet that names first fit and has no layers.
use Rattle.std.proofs.Common.{◌≡◌, ℕ, Bool, true, ◌&&◌, List, [], get_or, Option, sym, ap, subst}
use Rattle.std.proofs.lemmas.Bool.{and_parts}
use Rattle.rules.specs.declared.sheet.Fit.{Fit}
use Rattle.rules.specs.declared.sheet.Fit.TheVariants.{First}
use Rattle.rules.specs.Fitting.{layered}
use Rattle.rules.specs.Fabrics.{fabric_of}
use Rattle.rules.specs.Sheets.{Sheet}
use Rattle.rules.specs.Maps.{map_text}
use Rattle.rules.specs.Reading.{Outcome, accepted, Gives}
use Rattle.rules.specs.Refusals.{Named, OwnRule, fault_line, of_placing, Prints, as_map, without_room}
use Rattle.rules.proofs.Readers.{gives_some, outcome}
use Rattle.rules.specs.Choosing.{first_of}
use Rattle.rules.proofs.Chosen.{first_takes_the_lowest}
use Rattle.rules.proofs.ExclusionChecks.{exclusions_are}
use Rattle.rules.proofs.MapChecks.{at_homes, is_laid_out, has_footprints, has_no_room, map_so, no_room_so}

-- a text gives the outcome that is computed
pub read_so : (text : List ℕ) (o : Outcome) → outcome text ≡ o → Gives text o
unfolding outcome
read_so text o e = subst (λ (o : Outcome). Gives text o) e (gives_some text).1

-- the own rule of a sheet that names first fit and has no layers
own_first : (s : Sheet) → s.fit ≡ First → s.layers ≡ [] → OwnRule s first_of
own_first s f l =
    record { base = first_of; named = subst (λ (fit : Fit). Named fit first_of) (sym f) first_takes_the_lowest; is = ap (layered first_of) (sym l) }

-- whether the pairs are the exclusions, the table has the places, and the footprints are these
unfoldable pub is_drawn : Sheet → List (ℕ × ℕ) → List (List (Option ℕ)) → List ℕ → Bool
unfolding exclusions_are is_laid_out has_footprints
is_drawn s pairs table feet =
    exclusions_are s pairs
    && (is_laid_out s (fabric_of s.machine) pairs first_of (at_homes s (fabric_of s.machine) table)
    && has_footprints s (fabric_of s.machine) (at_homes s (fabric_of s.machine) table) feet)

-- where the tests pass, the text prints the map
pub prints_map : (text : List ℕ) (s : Sheet) (pairs : List (ℕ × ℕ)) (table : List (List (Option ℕ))) (feet out : List ℕ) →
    outcome text ≡ accepted s → s.fit ≡ First → s.layers ≡ [] → is_drawn s pairs table feet ≡ true →
    out ≡ map_text s (fabric_of s.machine) (at_homes s (fabric_of s.machine) table) (λ b. get_or feet b 0) → Prints text out
unfolding is_drawn
prints_map text s pairs table feet out read fit layers t e =
    let m = fabric_of s.machine in
    let laid = is_laid_out s m pairs first_of (at_homes s m table) in
    let footed = has_footprints s m (at_homes s m table) feet in
    let p = and_parts (exclusions_are s pairs) (laid && footed) t in
    let q = and_parts laid footed p.1 in
    as_map s first_of out (read_so text (accepted s) read) (own_first s fit layers) (map_so s m pairs p.0 first_of table feet out q.0 q.1 e)

-- whether the pairs are the exclusions, and bank b is the first that lacks space, for x
unfoldable pub is_stuck : Sheet → List (ℕ × ℕ) → List (List (Option ℕ)) → ℕ → ℕ → Bool
unfolding exclusions_are has_no_room
is_stuck s pairs table b x =
    exclusions_are s pairs && has_no_room s (fabric_of s.machine) pairs first_of (at_homes s (fabric_of s.machine) table) b x

-- where the tests pass, the text prints that there is no room
pub prints_no_room : (text : List ℕ) (s : Sheet) (pairs : List (ℕ × ℕ)) (table : List (List (Option ℕ))) (b x : ℕ) (out : List ℕ) →
    outcome text ≡ accepted s → s.fit ≡ First → s.layers ≡ [] → is_stuck s pairs table b x ≡ true →
    out ≡ fault_line (of_placing x b) → Prints text out
unfolding is_stuck
prints_no_room text s pairs table b x out read fit layers t e =
    let m = fabric_of s.machine in
    let p = and_parts (exclusions_are s pairs) (has_no_room s m pairs first_of (at_homes s m table) b x) t in
    subst (λ (out : List ℕ). Prints text out) (sym e)
    (without_room s first_of b x (read_so text (accepted s) read) (own_first s fit layers) (no_room_so s m pairs p.0 first_of table b x p.1))
