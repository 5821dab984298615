-- The places in the spots, and those of the items.

use Rattle.std.proofs.Common.{◌≡◌, ℕ, zero, suc, ◌<◌, Bool, true, cond, ◌&&◌, ltb, ◌⊎◌, List, [], ◌∷◌, length, get_or, set, Some, None, sym, refl, ap, ◌∙◌, inl, inr, arith}
use Rattle.std.specs.List.{insert}
use Rattle.std.proofs.lemmas.List.{get_or-set_same, get_or-set_other}
use Rattle.std.proofs.ByRecursion.{kept_by_passes}
use Rattle.std.proofs.lemmas.Bool.{cases_eq, lt-ltb, and_from, cond-true}
use Rattle.rules.specs.Lists.{◌∈◌, numbers_from}
use Rattle.rules.specs.Fabrics.{member}
use Rattle.rules.specs.Fitting.{Rule}
use Rattle.rules.proofs.Members.{all_at}
use Rattle.layout.specs.declared.items.Item.{Item}
use Rattle.layout.specs.declared.spots.Spot.{Spot}
use Rattle.layout.specs.Banks.{Turn}
use Rattle.layout.specs.Items.{place_of}
use Rattle.layout.specs.Spots.{homes_of, spot_at, place_in}
use Rattle.layout.specs.Turns.{objects_at}
use Rattle.layout.proofs.Lookups.{place_own, place_other}

-- the homes of each
pub home_at : (spots : List Spot) (x : ℕ) → get_or (homes_of spots) x 0 ≡ (spot_at spots x).homes
home_at [] zero = refl
home_at [] (suc x) = refl
home_at (s ∷ ss) zero = refl
home_at (s ∷ ss) (suc x) = home_at ss x

-- a spot with the same homes leaves all homes
same_homes : (spots : List Spot) (x : ℕ) (s : Spot) → s.homes ≡ (spot_at spots x).homes → homes_of (set spots x s) ≡ homes_of spots
same_homes [] zero s e = refl
same_homes [] (suc x) s e = refl
same_homes (k ∷ ks) zero s e = ap (λ h. h ∷ homes_of ks) e
same_homes (k ∷ ks) (suc x) s e = ap (λ hs. k.homes ∷ hs) (same_homes ks x s e)

-- the spots hold the places of the items in bank b; the homes, and the places in other banks, are as before
pub record Noted (b : ℕ) (before now : List Spot) (items : List Item) : Type 0 where
  pub homes : homes_of now ≡ homes_of before
  pub written : (x p : ℕ) → place_of items x ≡ Some p → get_or (spot_at now x).places b 0 ≡ p
  pub others : (c : ℕ) → (c ≡ b → ⊥) → (x : ℕ) → get_or (spot_at now x).places c 0 ≡ get_or (spot_at before x).places c 0

pub noted_none : (b : ℕ) (spots : List Spot) → Noted b spots spots []
noted_none b spots = record { homes = refl; written = λ x p e. absurd (let z : ◌≡◌ {A = ℕ} 0 1 = cc in omega arith); others = λ c n x. refl }

-- one turn more
module _ (excluding : ℕ → ℕ → Bool) (rule : Rule) (capacity grain size b x : ℕ) (items more : List Item) (spots table : List Spot)
    (turn : Turn excluding rule capacity grain size b x items more spots table) (within : b < 16) (known : x < length spots) (absent : place_of items x ≡ None) where
  spot : Spot
  spot = record { homes = (spot_at spots x).homes; places = set (spot_at spots x).places b turn.item.on.start }

  own_spot : spot_at table x ≡ spot
  unfolding spot
  own_spot = ap (λ t. spot_at t x) turn.noted ∙ get_or-set_same spots x spot (record { homes = 0; places = [] }) known

  other_spot : (y : ℕ) → (y ≡ x → ⊥) → spot_at table y ≡ spot_at spots y
  unfolding spot
  other_spot y n = ap (λ t. spot_at t y) turn.noted ∙ get_or-set_other spots x y spot (record { homes = 0; places = [] }) n

  own_place : place_of more x ≡ Some turn.item.on.start
  own_place =
      ap (λ ks. place_of ks x) turn.put ∙ ap (place_of (insert items turn.at turn.item)) (sym turn.object)
      ∙ place_own turn.item items turn.at (ap (place_of items) turn.object ∙ absent)

  other_place : (y : ℕ) → (y ≡ x → ⊥) → place_of more y ≡ place_of items y
  other_place y n = ap (λ ks. place_of ks y) turn.put ∙ place_other turn.item items turn.at y (λ e. n (e ∙ turn.object))

  pub noted_more : (before : List Spot) → Noted b before spots items → Noted b before table more
  unfolding spot
  noted_more before h =
      record {
        homes = ap homes_of turn.noted ∙ same_homes spots x spot refl ∙ h.homes;
        written = λ y p e. by y p e (cases_eq y x);
        others = λ c n y. over c n y (cases_eq y x) ∙ h.others c n y;
      }
    where
      by : (y p : ℕ) → place_of more y ≡ Some p → (y ≡ x) ⊎ (y ≡ x → ⊥) → get_or (spot_at table y).places b 0 ≡ p
      by y p e (inl same) =
          let start : Some turn.item.on.start ≡ Some p = sym own_place ∙ ap (place_of more) (sym same) ∙ e in
          let at : turn.item.on.start ≡ p = cc in
          ap (λ z. get_or (spot_at table z).places b 0) same ∙ ap (λ s. get_or s.places b 0) own_spot
          ∙ get_or-set_same (spot_at spots x).places b turn.item.on.start 0 (omega (arith, turn.wide)) ∙ at
      by y p e (inr n) = ap (λ s. get_or s.places b 0) (other_spot y n) ∙ h.written y p (sym (other_place y n) ∙ e)

      over : (c : ℕ) → (c ≡ b → ⊥) → (y : ℕ) → (y ≡ x) ⊎ (y ≡ x → ⊥) → get_or (spot_at table y).places c 0 ≡ get_or (spot_at spots y).places c 0
      over c n y (inl same) =
          ap (λ z. get_or (spot_at table z).places c 0) same ∙ ap (λ s. get_or s.places c 0) own_spot
          ∙ get_or-set_other (spot_at spots x).places b c turn.item.on.start 0 n ∙ ap (λ z. get_or (spot_at spots z).places c 0) (sym same)
      over c n y (inr d) = ap (λ s. get_or s.places c 0) (other_spot y d)

-- ---- reading the spots

-- an object of the bank has its home in it
home_of_object : (homes : List ℕ) (b x : ℕ) → x ∈ objects_at homes b → member (get_or homes x 0) b ≡ true
home_of_object homes b x i =
    all_at (λ y. member (get_or homes y 0) b ≡ true) x (objects_at homes b) i (kept_by_passes (λ y. member (get_or homes y 0) b) (numbers_from 0 (length homes)))

-- the spots say what the items of the bank say
pub spots_agree : (b : ℕ) (before now : List Spot) (items : List Item) → b < 16 → Noted b before now items → (x : ℕ) → x ∈ objects_at (homes_of before) b →
    ((p : ℕ) × (place_of items x ≡ Some p)) → place_of items x ≡ place_in now b x
spots_agree b before now items l h x i (p, e) =
    let home : member (spot_at now x).homes b ≡ true = ap (λ s. member s b) (sym (home_at now x)) ∙ ap (λ hs. member (get_or hs x 0) b) h.homes ∙ home_of_object (homes_of before) b x i in
    e ∙ ap (λ q. Some q) (sym (h.written x p e))
    ∙ sym (cond-true (ltb b 16 && member (spot_at now x).homes b) (Some (get_or (spot_at now x).places b 0)) None (and_from (ltb b 16) (member (spot_at now x).homes b) (lt-ltb b 16 l) home))

-- the other banks say what they said
pub other_banks : (b : ℕ) (before now : List Spot) (items : List Item) → Noted b before now items → (c : ℕ) → (c ≡ b → ⊥) → (x : ℕ) → place_in now c x ≡ place_in before c x
other_banks b before now items h c n x =
    let homes : (spot_at now x).homes ≡ (spot_at before x).homes = sym (home_at now x) ∙ ap (λ hs. get_or hs x 0) h.homes ∙ home_at before x in
    ap (λ s. cond (ltb c 16 && member s c) (Some (get_or (spot_at now x).places c 0)) None) homes
    ∙ ap (λ p. cond (ltb c 16 && member (spot_at before x).homes c) (Some p) None) (h.others c n x)

-- a spot with one place written
pub written_spot : (new found at : Spot) (b p : ℕ) → found ≡ at → new.homes ≡ found.homes → new.places ≡ set found.places b p → new ≡ record { homes = at.homes; places = set at.places b p }
written_spot new found at b p same homes places =
    let h : new.homes ≡ at.homes = homes ∙ ap (λ (s : Spot). s.homes) same in
    let w : new.places ≡ set at.places b p = places ∙ ap (λ (s : Spot). set s.places b p) same in
    λ i. record { homes = h i; places = w i }
