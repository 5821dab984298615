-- The turns of a bank: an order, with the weight of all objects up to a turn, and induction along it.
use Rattle.std.proofs.Common.{◌≡◌, ℕ, zero, suc, ◌+◌, ◌<◌, ◌≤◌, ◌⊎◌, sym, subst, inl, inr, ⊎_elim, arith}
use Rattle.std.proofs.lemmas.Bool.{cases_order}
use Rattle.rules.specs.Lists.{◌∈◌, total}
use Rattle.rules.specs.Placing.{Bank, Earlier}
use Rattle.rules.proofs.Deciding.{Decided, both, either, not, below, same_number}
use Rattle.rules.proofs.Given.{given, given_yes, given_no, given_most, given_more}
use Rattle.rules.proofs.Totals.{total_own, total_more, total_step}

module _ (bank : Bank) where
  -- whether x has its turn before y
  pub earlier? : (x y : ℕ) → Decided (Earlier bank x y)
  earlier? x y = either (below (bank.size y) (bank.size x)) (λ n. both (same_number (bank.size x) (bank.size y)) (λ e. below x y))

  -- of two objects one has its turn first
  pub one_is_earlier : (x y : ℕ) → (x ≡ y) ⊎ (Earlier bank x y ⊎ Earlier bank y x)
  one_is_earlier x y = by (cases_order (bank.size x) (bank.size y)) (cases_order x y)
    where
      by : (bank.size x ≡ bank.size y) ⊎ ((bank.size x < bank.size y) ⊎ (bank.size y < bank.size x)) → (x ≡ y) ⊎ ((x < y) ⊎ (y < x)) →
          (x ≡ y) ⊎ (Earlier bank x y ⊎ Earlier bank y x)
      by (inr (inl l)) k = inr (inr (inl l))
      by (inr (inr l)) k = inr (inl (inl l))
      by (inl e) (inl k) = inl k
      by (inl e) (inr (inl k)) = inr (inl (inr (e, k)))
      by (inl e) (inr (inr k)) = inr (inr (inr (sym e, k)))

  -- turns follow one another
  pub earlier_trans : (x y z : ℕ) → Earlier bank x y → Earlier bank y z → Earlier bank x z
  earlier_trans x y z (inl l) (inl k) = inl (omega arith)
  earlier_trans x y z (inl l) (inr k) = inl (omega arith)
  earlier_trans x y z (inr l) (inl k) = inl (omega arith)
  earlier_trans x y z (inr l) (inr k) = inr (omega arith, omega arith)

  -- no turn is before itself
  pub never_earlier_itself : (x : ℕ) → Earlier bank x x → ⊥
  never_earlier_itself x (inl l) = omega arith
  never_earlier_itself x (inr l) = omega arith

  -- whether the turn of y is not later than that of x
  in_turn? : (x y : ℕ) → Decided (Earlier bank x y → ⊥)
  in_turn? x y = not (earlier? x y)

  -- the total weight of the objects whose turn is not later than that of x
  pub up_to : (ℕ → ℕ) → ℕ → ℕ
  up_to w x = total (λ y. given (in_turn? x y) (w y)) bank.objects

  -- which has the weight of x
  pub up_to_own : (w : ℕ → ℕ) (x : ℕ) → x ∈ bank.objects → w x ≤ up_to w x
  unfolding up_to
  up_to_own w x m =
      subst (λ n. n ≤ total (λ y. given (in_turn? x y) (w y)) bank.objects) (given_yes (in_turn? x x) (w x) (never_earlier_itself x))
      (total_own (λ y. given (in_turn? x y) (w y)) x bank.objects m)

  -- and that of x beside all up to an earlier object
  pub up_to_step : (w : ℕ → ℕ) (y x : ℕ) → x ∈ bank.objects → Earlier bank y x → up_to w y + w x ≤ up_to w x
  unfolding up_to
  up_to_step w y x m e =
      let none = given_no (in_turn? y x) (w x) (λ n. n e) in
      let own = given_yes (in_turn? x x) (w x) (never_earlier_itself x) in
      total_step (λ z. given (in_turn? y z) (w z)) (λ z. given (in_turn? x z) (w z)) (w x) x bank.objects
      (λ z. given_more (in_turn? y z) (in_turn? x z) (w z) (λ n l. n (earlier_trans y x z e l))) m (omega arith)

  -- and is at most that of all
  pub up_to_all : (w : ℕ → ℕ) (x : ℕ) → up_to w x ≤ total w bank.objects
  unfolding up_to
  up_to_all w x = total_more (λ y. given (in_turn? x y) (w y)) w bank.objects (λ y. given_most (in_turn? x y) (w y))

  -- weights that only objects earlier than x have, beside the weight of x
  pub up_to_earlier : (f w : ℕ → ℕ) (x : ℕ) → x ∈ bank.objects → ((y : ℕ) → f y ≤ w y) → ((y : ℕ) → (Earlier bank y x → ⊥) → f y ≡ 0) →
      total f bank.objects + w x ≤ up_to w x
  unfolding up_to
  up_to_earlier f w x m most none =
      let no_own = none x (never_earlier_itself x) in
      let own = given_yes (in_turn? x x) (w x) (never_earlier_itself x) in
      total_step f (λ y. given (in_turn? x y) (w y)) (w x) x bank.objects each m (omega arith)
    where
      each : (y : ℕ) → f y ≤ given (in_turn? x y) (w y)
      each y =
          ⊎_elim
          (λ later. let z = none y (λ e. never_earlier_itself x (earlier_trans x y x later e)) in omega arith)
          (λ n. let all = given_yes (in_turn? x y) (w y) n in let l = most y in omega arith)
          (earlier? x y)

  -- the number of the turn of x, from 1
  abbrev pub turn : ℕ → ℕ
  turn x = up_to (λ y. 1) x

  -- what follows for an object from all that are earlier holds of every object
  pub by_turns : (P : ℕ → Type 0) →
      ((x : ℕ) → x ∈ bank.objects → ((y : ℕ) → y ∈ bank.objects → Earlier bank y x → P y) → P x) →
      (x : ℕ) → x ∈ bank.objects → P x
  by_turns P next x m = within (turn x) x m (omega arith)
    where
      within : (n x : ℕ) → x ∈ bank.objects → turn x ≤ n → P x
      within zero x m l = let own = up_to_own (λ y. 1) x m in absurd (omega arith)
      within (suc n) x m l = next x m (λ y i e. let step = up_to_step (λ y. 1) y x m e in within n y i (omega arith))
