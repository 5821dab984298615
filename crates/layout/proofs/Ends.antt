-- The highest end of items.

use Rattle.std.proofs.Common.{◌≡◌, ℕ, ◌≤◌, max, ◌⊎◌, List, [], ◌∷◌, map, Some, None, Option, refl, ap, inl, inr, ⊎_elim, ◌∙◌, arith}
use Rattle.std.specs.List.{fold, reduce}
use Rattle.std.specs.Option.{option_map, unwrap_or}
use Rattle.std.proofs.ByRecursion.{All-weaker}
use Rattle.std.proofs.lemmas.Bool.{cases_lt}
use Rattle.rules.specs.Lists.{Every, Any}
use Rattle.rules.proofs.Members.{any_weaker}
use Rattle.layout.specs.declared.items.Item.{Item}
use Rattle.layout.specs.Banks.{Highest}

pub by_itself : (o : Option ℕ) → option_map (λ n. n) o ≡ o
by_itself None = refl
by_itself (Some n) = refl

abbrev ends : List Item → List ℕ
ends items = map (λ (it : Item). it.on.end) items

-- the greatest of a number and the ends is above all, and one of them
bounds : (n : ℕ) (items : List Item) → (n ≤ fold max n (ends items)) × Every (λ (it : Item). it.on.end ≤ fold max n (ends items)) items
bounds n [] = (omega arith, tt)
bounds n (k ∷ ks) =
    let rest = bounds (max n k.on.end) ks in
    (omega (arith, rest.0), (omega (arith, rest.0), rest.1))

reached : (n : ℕ) (items : List Item) → (fold max n (ends items) ≡ n) ⊎ Any (λ (it : Item). fold max n (ends items) ≡ it.on.end) items
reached n [] = inl refl
reached n (k ∷ ks) =
    ⊎_elim
    (λ e. ⊎_elim (λ l. inr (inl (omega (arith, e)))) (λ l. inl (omega (arith, e))) (cases_lt n k.on.end))
    (λ a. inr (inr a))
    (reached (max n k.on.end) ks)

-- the greatest of the ends, 0 if there are none
pub highest_from : (items : List Item) (o : Option ℕ) (f : ℕ) → o ≡ reduce max (ends items) → f ≡ unwrap_or o 0 → Highest items f
highest_from [] o f most e = record { none_above = tt; an_end = inr (e ∙ ap (λ p. unwrap_or p 0) most, refl) }
highest_from (k ∷ ks) o f most e =
    let b = bounds k.on.end ks in
    let at : f ≡ fold max k.on.end (ends ks) = e ∙ ap (λ p. unwrap_or p 0) most in
    record {
      none_above = (omega (arith, at, b.0), All-weaker (λ (it : Item). it.on.end ≤ fold max k.on.end (ends ks)) (λ (it : Item). it.on.end ≤ f) (λ it l. omega (arith, at)) ks b.1);
      an_end = inl (⊎_elim (λ s. inl (at ∙ s)) (λ a. inr (any_weaker (λ (it : Item). fold max k.on.end (ends ks) ≡ it.on.end) (λ (it : Item). f ≡ it.on.end) (λ it s. at ∙ s) ks a)) (reached k.on.end ks));
    }
