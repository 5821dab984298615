-- Objects that exclude one another share no byte, so a footprint is at least the sum of their sizes.
use Rattle.std.proofs.Common.{ℕ, zero, suc, ◌+◌, ◌-◌, ◌<◌, ◌≤◌, min, List, [], ◌∷◌, ⊎_elim, arith}
use Rattle.std.proofs.lemmas.Bool.{cases_lt}
use Rattle.rules.specs.Lists.{◌∈◌, Every, total}
use Rattle.rules.specs.Placing.{Bank, Places, LiesOn, Full, Footprint, EachExcludesTheRest}
use Rattle.rules.specs.Layouts.{bank_of, ShareNoByte}
use Rattle.rules.specs.PlacingLaws.{FootprintsHoldEveryClique}
use Rattle.rules.proofs.Banks.{has_home}

module _ (bank : Bank) (places : Places) (full : Full bank places) where
  -- the place of an object of the bank
  abbrev start : (x : ℕ) → x ∈ bank.objects → ℕ
  start x i = (full x i).0

  -- how many bytes of it lie below f
  abbrev filled : ℕ → (x : ℕ) → x ∈ bank.objects → ℕ
  filled f x i = min (f - start x i) (bank.size x)

  -- and of the objects of a list
  abbrev filled_all : ℕ → (xs : List ℕ) → Every (λ x. x ∈ bank.objects) xs → ℕ
  filled_all f [] is = 0
  filled_all f (x ∷ xs) is = filled f x is.0 + filled_all f xs is.1

  lies_on : (x : ℕ) (i : x ∈ bank.objects) (b : ℕ) → start x i ≤ b → b < start x i + bank.size x → LiesOn bank places x b
  lies_on x i b l h = (start x i, (full x i).1, l, h)

  module _ (apart : (x y : ℕ) → bank.Excludes x y → ShareNoByte bank places x y) where
    -- where one object lies, those that it excludes fill no byte
    none_more : (f x : ℕ) → LiesOn bank places x f → (xs : List ℕ) (is : Every (λ y. y ∈ bank.objects) xs) → Every (bank.Excludes x) xs →
        filled_all (suc f) xs is ≤ filled_all f xs is
    none_more f x on [] is off = omega arith
    none_more f x on (y ∷ ys) is off =
        let rest = none_more f x on ys is.1 off.1 in
        ⊎_elim
        (λ before. omega arith)
        (λ from. ⊎_elim
        (λ inside. absurd (apart x y off.0 f on (lies_on y is.0 f from inside)))
        (λ past. omega arith)
        (cases_lt f (start y is.0 + bank.size y)))
        (cases_lt f (start y is.0))

    -- so a byte more fills at most one more
    one_more : (f : ℕ) (xs : List ℕ) (is : Every (λ y. y ∈ bank.objects) xs) → EachExcludesTheRest bank xs →
        filled_all (suc f) xs is ≤ filled_all f xs is + 1
    one_more f [] is off = omega arith
    one_more f (x ∷ xs) is off =
        let rest = one_more f xs is.1 off.1 in
        ⊎_elim
        (λ before. omega arith)
        (λ from. ⊎_elim
        (λ inside. let none = none_more f x (lies_on x is.0 f from inside) xs is.1 off.0 in omega arith)
        (λ past. omega arith)
        (cases_lt f (start x is.0 + bank.size x)))
        (cases_lt f (start x is.0))

    none_below : (xs : List ℕ) (is : Every (λ y. y ∈ bank.objects) xs) → filled_all 0 xs is ≤ 0
    none_below [] is = omega arith
    none_below (x ∷ xs) is = let rest = none_below xs is.1 in omega arith

    -- so they fill at most f bytes below f
    at_most : (f : ℕ) (xs : List ℕ) (is : Every (λ y. y ∈ bank.objects) xs) → EachExcludesTheRest bank xs → filled_all f xs is ≤ f
    at_most zero xs is off = none_below xs is
    at_most (suc f) xs is off =
        let rest = at_most f xs is off in let step = one_more f xs is off in omega arith

    all_below : (f : ℕ) → Footprint bank places f → (xs : List ℕ) (is : Every (λ y. y ∈ bank.objects) xs) → total bank.size xs ≤ filled_all f xs is
    all_below f F [] is = omega arith
    all_below f F (x ∷ xs) is =
        let rest = all_below f F xs is.1 in
        let here = F.no_end_above x (start x is.0) is.0 (full x is.0).1 in
        omega arith

    -- the footprint is at least the sizes of objects that exclude one another
    pub footprint_at_least : (f : ℕ) → Footprint bank places f → (xs : List ℕ) → Every (λ y. y ∈ bank.objects) xs → EachExcludesTheRest bank xs →
        total bank.size xs ≤ f
    footprint_at_least f F xs is off =
        let most = at_most f xs is off in let all = all_below f F xs is in omega arith

pub footprints_hold_every_clique : FootprintsHoldEveryClique
footprints_hold_every_clique s m places P sound b f l F xs is off =
    footprint_at_least (bank_of s m b) (places b) (λ x i. sound.each_home_has_a_place b x l (has_home s m b x i))
    (λ x y e. sound.excluding_share_no_byte b x y l e) f F xs is off
