-- Whether all actors are finished, by their records.
use Rattle.std.proofs.Common.{◌≡◌, ℕ, zero, suc, ◌<◌, ◌≤◌, Bool, true, false, ◌≢◌, List, [], ◌∷◌, length, get_or, take, refl, arith}
use Rattle.std.proofs.lemmas.Bool.{and_parts}
use Rattle.rules.specs.Sheets.{Sheet, actor_count}
use Rattle.rules.specs.Runs.{waiting, finished}
use Rattle.run.specs.declared.phase.Phase.{Phase}
use Rattle.run.specs.declared.phase.Phase.TheVariants.{Waiting, Running, Finished}
use Rattle.run.specs.declared.phase.ActorRecord.{ActorRecord}
use Rattle.run.specs.Records.{as_phase, phases_of, is_done, are_done}
use Rattle.run.specs.Views.{Over}

done_told : (p : Phase) → is_done p ≡ true → as_phase p ≡ finished
done_told Waiting e = absurd (cc)
done_told Running e = absurd (cc)
done_told Finished e = refl

done_heard : (p : Phase) → is_done p ≡ false → as_phase p ≢ finished
done_heard Waiting e = λ f. absurd (cc)
done_heard Running e = λ f. absurd (cc)
done_heard Finished e = absurd (cc)

-- all of the first n are, each is
each_done : (n : ℕ) (rs : List ActorRecord) → n ≤ length rs → are_done (take n rs) ≡ true → (a : ℕ) → a < n → get_or (phases_of n rs) a waiting ≡ finished
each_done zero rs l e a k = absurd (omega arith)
each_done (suc n) [] l e a k = absurd (omega arith)
each_done (suc n) (r ∷ rs) l e zero k = done_told r.phase (and_parts _ _ e).0
each_done (suc n) (r ∷ rs) l e (suc a) k = each_done n rs (omega arith) (and_parts _ _ e).1 a (omega arith)

-- not all are, one is not
one_left : (n : ℕ) (rs : List ActorRecord) → n ≤ length rs → are_done (take n rs) ≡ false → (a : ℕ) × (a < n) × (get_or (phases_of n rs) a waiting ≢ finished)
one_left zero rs l e = absurd (cc)
one_left (suc n) [] l e = absurd (omega arith)
one_left (suc n) (r ∷ rs) l e = pick (is_done r.phase) refl (λ d. one_left n rs (omega arith) d)
  where
    pick : (b : Bool) → is_done r.phase ≡ b → (are_done (take n rs) ≡ false → (a : ℕ) × (a < n) × (get_or (phases_of n rs) a waiting ≢ finished)) →
        (a : ℕ) × (a < suc n) × (get_or (phases_of (suc n) (r ∷ rs)) a waiting ≢ finished)
    pick false d rest = (0, omega arith, done_heard r.phase d)
    pick true d rest = let m = rest (cc) in (suc m.0, omega arith, m.2)

pub over_told : (s : Sheet) (rs : List ActorRecord) (b : Bool) → actor_count s ≤ length rs → b ≡ are_done (take (actor_count s) rs) → Over s rs b
over_told s rs true l e = λ a k. each_done (actor_count s) rs l (cc) a k
over_told s rs false l e = one_left (actor_count s) rs l (cc)
