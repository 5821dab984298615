-- Members of joined lists, and what holds of all of a list by its members.
use Rattle.std.proofs.Common.{◌⊎◌, List, [], ◌∷◌, ◌++◌, refl, inl, inr}
use Rattle.rules.specs.Lists.{Every, Any, ◌∈◌}

-- some one of joined lists is some one of either
pub any_cases : {X : Type 0} (P : X → Type 0) (xs ys : List X) → Any P (xs ++ ys) → Any P xs ⊎ Any P ys
any_cases P [] ys a = inr a
any_cases P (x ∷ xs) ys (inl p) = inl (inl p)
any_cases P (x ∷ xs) ys (inr a) = elim (any_cases P xs ys a) [ inl b ↦ inl (inr b) | inr b ↦ inr b ]

-- some one of the left list is some one of both
pub any_left : {X : Type 0} (P : X → Type 0) (xs ys : List X) → Any P xs → Any P (xs ++ ys)
any_left P [] ys a = absurd a
any_left P (x ∷ xs) ys (inl p) = inl p
any_left P (x ∷ xs) ys (inr a) = inr (any_left P xs ys a)

-- some one of the right list is some one of both
pub any_right : {X : Type 0} (P : X → Type 0) (xs ys : List X) → Any P ys → Any P (xs ++ ys)
any_right P [] ys a = a
any_right P (x ∷ xs) ys a = inr (any_right P xs ys a)

-- what holds of each member holds of all
pub all_from_members : {X : Type 0} (P : X → Type 0) (xs : List X) → ((x : X) → x ∈ xs → P x) → Every P xs
all_from_members P [] each = tt
all_from_members P (x ∷ xs) each = (each x (inl refl), all_from_members P xs (λ y m. each y (inr m)))

-- some one, named
pub some_one : {X : Type 0} (P : X → Type 0) (xs : List X) → Any P xs → (x : X) × (x ∈ xs) × P x
some_one P [] a = absurd a
some_one P (x ∷ xs) (inl p) = (x, inl refl, p)
some_one P (x ∷ xs) (inr a) = let r = some_one P xs a in (r.0, inr r.1, r.2)
