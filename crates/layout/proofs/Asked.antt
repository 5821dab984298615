-- What a fit rule's answer says of the place.

use Rattle.std.proofs.Common.{◌≡◌, ℕ, ◌+◌, ◌<◌, ◌≤◌, true, List, [], ◌∷◌, filter, length, Bool, None, Some, Option, Ok, Err, Result, MatchResult, refl, sym, ap, ◌∙◌, subst, inl, inr, arith}
use Rattle.std.specs.List.Sorted.{IsNonDecreasingBy}
use Rattle.std.specs.Option.{option_map, ok_or}
use Rattle.rules.specs.declared.memory.Stretch.{Stretch}
use Rattle.rules.specs.Stretches.{Every, Any, Gaps, Blocked}
use Rattle.rules.specs.Fitting.{Rule, IsFitRule, Answers, Holds, answer_from, is_grain, ascend_from}
use Rattle.rules.proofs.Questions.{proper_from_tests}
use Rattle.layout.specs.declared.items.Item.{Item}
use Rattle.layout.specs.Starts.{ByStart}
use Rattle.layout.specs.Items.{spans}
use Rattle.layout.specs.Banks.{Asked}
use Rattle.layout.proofs.Starting.{in_order}
use Rattle.layout.proofs.Blocks.{kept_blocking, blocking_sorted}

-- a place that some gap below the capacity gives lies below it
held_within : (capacity size grain p left : ℕ) (gs : List Stretch) → Every (λ g. g.end ≤ capacity) gs
    → Any (λ g. Holds g size grain × ((p, left) ≡ answer_from g size grain)) gs → p + size ≤ capacity
held_within capacity size grain p left [] all some = absurd some
held_within capacity size grain p left (g ∷ gs) all (inl h) = let e : p ≡ (answer_from g size grain).0 = cc h.1 in omega (arith, all.0, h.0)
held_within capacity size grain p left (g ∷ gs) all (inr h) = held_within capacity size grain p left gs all.1 h

-- the place that a fit rule answers, with an object on it, ends below the capacity
pub place_within : (rule : Rule) → IsFitRule rule → (gs : List Stretch) (capacity size grain p left : ℕ) → 0 < size → size ≤ 16777216 → is_grain grain ≡ true
    → length gs ≤ 256 → ascend_from 0 gs ≡ true → Every (λ g. g.end ≤ capacity) gs → Some (p, left) ≡ rule gs size grain → p + size ≤ capacity
place_within rule lawful gs capacity size grain p left some small tabled few up all e =
    let proper = proper_from_tests gs size grain some small tabled few up in
    held_within capacity size grain p left gs all (subst (Answers gs size grain) (sym e) (lawful gs size grain proper))

-- the items that exclude x are in the order of their places
pub kept_in_order : (excluding : ℕ → ℕ → Bool) (x : ℕ) (items : List Item) → IsNonDecreasingBy (λ (it : Item). it.on.start) items → ByStart (spans (filter (λ (it : Item). excluding it.object x) items))
kept_in_order excluding x items sorted = subst ByStart (sym (kept_blocking excluding x items)) (blocking_sorted excluding x items (in_order items sorted))

-- what the rule answers to the gaps that the items that exclude x leave
pub asked_from : (excluding : ℕ → ℕ → Bool) (rule : Rule) (capacity grain size asks x : ℕ) (items : List Item) (gaps found : List Stretch)
    (answer : Option ℕ) (o : Option (ℕ × ℕ)) → Gaps capacity (Blocked (spans (filter (λ (it : Item). excluding it.object x) items))) gaps →
    found ≡ gaps → asks ≡ size → o ≡ rule found asks grain → answer ≡ option_map (λ a. a.0) o → Asked excluding rule capacity grain size x items answer
asked_from excluding rule capacity grain size asks x items gaps found answer o G same sized says here =
    record {
      gaps = gaps;
      are_gaps = subst (λ ss. Gaps capacity (Blocked ss) gaps) (kept_blocking excluding x items) G;
      says = here ∙ ap (option_map (λ (a : ℕ × ℕ). a.0)) (says ∙ ap (λ gs. rule gs asks grain) same ∙ ap (λ s. rule gaps s grain) sized);
    }

-- an absent value that was turned into an error
pub refused : {T E : Type 0} (o : Option T) (e f : E) → ok_or o e ≡ Err f → (o ≡ None) × (f ≡ e)
refused None e f q = (refl, cc)
refused (Some x) e f q = absurd (let z : ◌≡◌ {A = ℕ} 0 1 = cc in omega arith)

-- a clause at an error
pub cases_err : {T E : Type 0} (P : T → Type 0) (Q : E → Type 0) (r : Result T E) (y : E) → r ≡ Err y → Q y → MatchResult r P Q
cases_err P Q r y e q = subst (λ s. MatchResult s P Q) (sym e) q

-- a value that was not
pub granted : {T E : Type 0} (o : Option T) (e : E) (x : T) → ok_or o e ≡ Ok x → o ≡ Some x
granted None e x q = absurd (let z : ◌≡◌ {A = ℕ} 0 1 = cc in omega arith)
granted (Some y) e x q = cc
