-- What a field of the elements of a list is at an index.

use Rattle.std.proofs.Common.{◌≡◌, ℕ, ◌<◌, ◌≤◌, List, map, length, get_or, Some, None, Option, sym, ap, ◌∙◌, arith}
use Rattle.std.specs.Prelude.{IfSome, MatchOption}
use Rattle.std.specs.List.{HoldsAt}
use Rattle.std.proofs.lemmas.List.{get_or-map, get_or_past, length-map}

-- at an index within the list
pub looked : {X Y : Type 0} (f : X → Y) (xs ys : List X) (i : ℕ) (x : X) (e : Y) → ys ≡ xs → i < length ys → x ≡ get_or ys i x → get_or (map f xs) i e ≡ f x
looked f xs ys i x e same l at = ap (λ zs. get_or (map f zs) i e) (sym same) ∙ get_or-map f ys i x e l ∙ ap f (sym at)

-- past its end
pub missed : {X Y : Type 0} (f : X → Y) (xs ys : List X) (i : ℕ) (e : Y) → ys ≡ xs → length ys ≤ i → get_or (map f xs) i e ≡ e
missed f xs ys i e same l =
    let long : length (map f xs) ≤ i = omega (arith, length-map xs f, ap length same) in get_or_past (map f xs) i e long

-- whichever it is, from what is lent of the element
pub found : {B X Y : Type 0} (now : B → X) (f : X → Y) (xs ys : List X) (i : ℕ) (e r : Y) (o : Option B) → ys ≡ xs → IfSome o (λ x. now x ≡ get_or ys i (now x)) →
    MatchOption o (length ys ≤ i) (λ x. (i < length ys) × HoldsAt (λ y. now x ≡ y) ys i) → MatchOption o (r ≡ e) (λ x. r ≡ f (now x)) → r ≡ get_or (map f xs) i e
found now f xs ys i e r None same at place is = is ∙ sym (missed f xs ys i e same place)
found now f xs ys i e r (Some x) same at place is = is ∙ sym (looked f xs ys i (now x) e same place.0 at)
