-- Totals of a weight over a list.
use Rattle.std.proofs.Common.{◌≡◌, ℕ, ◌+◌, ◌≤◌, List, [], ◌∷◌, length, refl, ap, subst, inl, inr, arith}
use Rattle.rules.specs.Lists.{◌∈◌, total}

-- a total is at least each of its weights
pub total_own : {X : Type 0} (f : X → ℕ) (x : X) (xs : List X) → x ∈ xs → f x ≤ total f xs
total_own f x [] m = absurd m
total_own f x (y ∷ ys) (inl e) = let w : f x ≡ f y = ap f e in omega arith
total_own f x (y ∷ ys) (inr m) = let rest = total_own f x ys m in omega arith

-- greater weights have the greater total
pub total_more : {X : Type 0} (f g : X → ℕ) (xs : List X) → ((x : X) → f x ≤ g x) → total f xs ≤ total g xs
total_more f g [] le = omega arith
total_more f g (x ∷ xs) le = let rest = total_more f g xs le in let here = le x in omega arith

-- and greater by k where one weight is
pub total_step : {X : Type 0} (f g : X → ℕ) (k : ℕ) (x : X) (xs : List X) → ((y : X) → f y ≤ g y) → x ∈ xs → f x + k ≤ g x → total f xs + k ≤ total g xs
total_step f g k x [] le m step = absurd m
total_step f g k x (y ∷ ys) le (inl e) step =
    let rest = total_more f g ys le in
    let here : f y + k ≤ g y = subst (λ z. f z + k ≤ g z) e step in
    omega arith
total_step f g k x (y ∷ ys) le (inr m) step = let rest = total_step f g k x ys le m step in let here = le y in omega arith

-- with weight 1 the total is the length
pub total_ones : {X : Type 0} (xs : List X) → total (λ x. 1) xs ≡ length xs
total_ones [] = refl
total_ones (x ∷ xs) = let rest = total_ones xs in omega arith
