-- The phases of a table of records.
use Rattle.std.proofs.Common.{◌≡◌, ℕ, zero, suc, ◌<◌, ◌≤◌, List, [], ◌∷◌, length, get_or, set, replicate, refl, ap, arith}
use Rattle.rules.specs.Runs as runs
use Rattle.run.specs.declared.phase.ActorRecord.{ActorRecord}
use Rattle.run.specs.Records.{as_phase, idle, phases_of}

pub phases_set : (n : ℕ) (rs : List ActorRecord) (a : ℕ) (r : ActorRecord) → phases_of n (set rs a r) ≡ set (phases_of n rs) a (as_phase r.phase)
phases_set zero rs a r = refl
phases_set (suc n) [] a r = refl
phases_set (suc n) (x ∷ rs) zero r = refl
phases_set (suc n) (x ∷ rs) (suc a) r = ap (λ (ps : List runs.Phase). as_phase x.phase ∷ ps) (phases_set n rs a r)

pub phases_at : (n : ℕ) (rs : List ActorRecord) (a : ℕ) (d : ActorRecord) → a < n → a < length rs → get_or (phases_of n rs) a runs.waiting ≡ as_phase (get_or rs a d).phase
phases_at zero rs a d l h = absurd (omega arith)
phases_at (suc n) [] a d l h = absurd (omega arith)
phases_at (suc n) (x ∷ rs) zero d l h = refl
phases_at (suc n) (x ∷ rs) (suc a) d l h = phases_at n rs a d (omega arith) (omega arith)

pub phases_past : (n : ℕ) (rs : List ActorRecord) (a : ℕ) → n ≤ a → get_or (phases_of n rs) a runs.waiting ≡ runs.waiting
phases_past zero rs a l = refl
phases_past (suc n) [] a l = refl
phases_past (suc n) (x ∷ rs) zero l = absurd (omega arith)
phases_past (suc n) (x ∷ rs) (suc a) l = phases_past n rs a (omega arith)

pub phases_length : (n : ℕ) (rs : List ActorRecord) → n ≤ length rs → length (phases_of n rs) ≡ n
phases_length zero rs l = refl
phases_length (suc n) [] l = absurd (omega arith)
phases_length (suc n) (x ∷ rs) l = let e = phases_length n rs (omega arith) in omega arith

-- where all are idle every actor waits
pub phases_idle : (n k : ℕ) → n ≤ k → phases_of n (replicate k idle) ≡ replicate n runs.waiting
phases_idle zero k l = refl
phases_idle (suc n) zero l = absurd (omega arith)
phases_idle (suc n) (suc k) l = ap (λ (ps : List runs.Phase). runs.waiting ∷ ps) (phases_idle n k (omega arith))
