-- Some one of a list.
use Rattle.std.proofs.Common.{Bool, true, false, cond, ◌⊎◌, List, [], ◌∷◌, filter, sym, subst, inl, inr}
use Rattle.rules.specs.Stretches.{Every, Any, ◌∈◌}

pub any_weaker : {X : Type 0} (P Q : X → Type 0) → ((x : X) → P x → Q x) → (xs : List X) → Any P xs → Any Q xs
any_weaker P Q to [] a = a
any_weaker P Q to (x ∷ xs) (inl p) = inl (to x p)
any_weaker P Q to (x ∷ xs) (inr a) = inr (any_weaker P Q to xs a)

-- what holds of a member holds of some one
pub any_at : {X : Type 0} (P : X → Type 0) (x : X) (xs : List X) → x ∈ xs → P x → Any P xs
any_at P x [] m p = m
any_at P x (y ∷ ys) (inl e) p = inl (subst P e p)
any_at P x (y ∷ ys) (inr m) p = inr (any_at P x ys m p)

-- what holds of all holds of a member
pub all_at : {X : Type 0} (P : X → Type 0) (x : X) (xs : List X) → x ∈ xs → Every P xs → P x
all_at P x [] m a = absurd m
all_at P x (y ∷ ys) (inl e) a = subst P (sym e) a.0
all_at P x (y ∷ ys) (inr m) a = all_at P x ys m a.1

-- some one of those that pass is some one of all
pub any_kept : {X : Type 0} (p : X → Bool) (P : X → Type 0) (xs : List X) → Any P (filter p xs) → Any P xs
any_kept p P [] a = a
any_kept p P (x ∷ xs) a = step (any_kept p P xs) (p x) a
  where
    step : (Any P (filter p xs) → Any P xs) → (b : Bool) → Any P (cond b (x ∷ filter p xs) (filter p xs)) → P x ⊎ Any P xs
    step rest true (inl h) = inl h
    step rest true (inr r) = inr (rest r)
    step rest false r = inr (rest r)
