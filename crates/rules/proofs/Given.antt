-- Numbers that count only where a decided fact holds.
use Rattle.std.proofs.Common.{◌≡◌, ℕ, ◌≤◌, refl, inl, inr, arith}
use Rattle.rules.proofs.Deciding.{Decided}

-- n where the fact holds, else 0
pub given : {P : Type 0} → Decided P → ℕ → ℕ
given (inl p) n = n
given (inr r) n = 0

-- all of it counts where the fact holds
pub given_yes : {P : Type 0} (d : Decided P) (n : ℕ) → P → given d n ≡ n
unfolding given
given_yes (inl p) n q = refl
given_yes (inr r) n q = absurd (r q)

-- nothing counts where it does not
pub given_no : {P : Type 0} (d : Decided P) (n : ℕ) → (P → ⊥) → given d n ≡ 0
unfolding given
given_no (inl p) n r = absurd (r p)
given_no (inr q) n r = refl

-- never more counts
pub given_most : {P : Type 0} (d : Decided P) (n : ℕ) → given d n ≤ n
unfolding given
given_most (inl p) n = omega arith
given_most (inr r) n = omega arith

-- what holds more often counts as much
pub given_more : {P Q : Type 0} (d : Decided P) (e : Decided Q) (n : ℕ) → (P → Q) → given d n ≤ given e n
unfolding given
given_more (inl p) (inl q) n to = omega arith
given_more (inl p) (inr r) n to = absurd (r (to p))
given_more (inr r) e n to = omega arith
