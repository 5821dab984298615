-- Where a list of spots says that objects lie.
use Rattle.std.specs.Prelude.{ℕ, cond, ◌&&◌, List, [], map, Some, None, nat_lt, slice_index, slice_index_or, slice_set}
use Rattle.rules.specs.Fabrics.{member}
use Rattle.rules.specs.Placing.{Places}
use Rattle.layout.specs.declared.spots.Spot.{Spot}

-- the homes of each object
abbrev pub homes_of : List Spot → List ℕ
homes_of spots = map (λ (s : Spot). s.homes) spots

-- the spot of object x; an unknown object has no home
abbrev pub spot_at : List Spot → ℕ → Spot
spot_at spots x = slice_index_or spots x (record { homes = 0; places = [] })

-- where the spots say that objects lie in bank b: each spot has 16 places, of which those count that are homes
abbrev pub place_in : List Spot → ℕ → Places
place_in spots b x =
    cond (nat_lt b 16 && member (spot_at spots x).homes b) (Some (slice_index (spot_at spots x).places b)) None

-- the spots with one place written
abbrev pub with_place : List Spot → ℕ → ℕ → ℕ → List Spot
with_place spots x b p =
    slice_set spots x (record { homes = (spot_at spots x).homes; places = slice_set (spot_at spots x).places b p })
