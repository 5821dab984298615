-- The least number of a refusal that meets a call.
use Rattle.std.proofs.Common.{◌≡◌, ℕ, ◌≤◌, ◌≢◌, ◌⊎◌, inl, inr, arith}
use Rattle.rules.specs.Sheets.{Sheet, actor_count}
use Rattle.rules.specs.Runs.{State, Started, Finished, Ahead, phase, running, Call, start, finish, order, round, Meets}
use Rattle.rules.proofs.Answered.{Early, Unready, Reason, reason_from, meets_low}
use Rattle.rules.proofs.Orderly.{Allowed}

pub least_start : (s : Sheet) (st : State) (a k : ℕ) → (actor_count s ≤ a → k ≤ 6) → (Started st a → k ≤ 12) → (Early s st a → k ≤ 13) →
    (n : ℕ) → Meets s st (start a) n → k ≤ n
least_start s st a k unknown again early n m = pick (reason_from s st m)
  where
    pick : Reason s st (start a) n → k ≤ n
    pick (inl (e, l)) = let u = unknown l in omega arith
    pick (inr (inl (e, on))) = let u = again on in omega arith
    pick (inr (inr (e, b))) = let u = early b in omega arith

pub least_finish : (s : Sheet) (st : State) (a k : ℕ) → (actor_count s ≤ a → k ≤ 6) → (phase st a ≢ running → k ≤ 12) →
    (n : ℕ) → Meets s st (finish a) n → k ≤ n
least_finish s st a k unknown idle n m = pick (reason_from s st m)
  where
    pick : Reason s st (finish a) n → k ≤ n
    pick (inl (e, l)) = let u = unknown l in omega arith
    pick (inr (e, off)) = let u = idle off in omega arith

pub least_order : (s : Sheet) (st : State) (a b k : ℕ) → ((actor_count s ≤ a) ⊎ (actor_count s ≤ b) → k ≤ 6) → (a ≡ b → k ≤ 8) → (Ahead s st b a → k ≤ 10) →
    (Started st b → (Finished st a → ⊥) → k ≤ 14) → (n : ℕ) → Meets s st (order a b) n → k ≤ n
least_order s st a b k unknown equal against late n m = pick (reason_from s st m)
  where
    pick : Reason s st (order a b) n → k ≤ n
    pick (inl (e, l)) = let u = unknown l in omega arith
    pick (inr (inl (e, same))) = let u = equal same in omega arith
    pick (inr (inr (inl (e, c)))) = let u = against c in omega arith
    pick (inr (inr (inr (e, (on, off))))) = let u = late on off in omega arith

pub least_round : (s : Sheet) (st : State) (k : ℕ) → (Unready s st → k ≤ 15) → (n : ℕ) → Meets s st round n → k ≤ n
least_round s st k unready n m = pick (reason_from s st m)
  where
    pick : Reason s st round n → k ≤ n
    pick (e, r) = let u = unready r in omega arith

-- a call that no number up to 15 meets is allowed
pub allowed : (s : Sheet) (st : State) (c : Call) → ((n : ℕ) → Meets s st c n → 16 ≤ n) → Allowed s st c
allowed s st c high n m = let l = meets_low s st m in let h = high n m in omega arith
