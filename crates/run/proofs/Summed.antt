-- The total size of the live objects, object by object.
use Rattle.std.proofs.Common.{◌≡◌, ℕ, zero, suc, ◌+◌, ◌<◌, Bool, true, false, cond, not, ◌&&◌, ◌≢◌, List, Some, sym, refl, ap, ◌∙◌, inl, inr, ⊎_elim, arith}
use Rattle.std.proofs.lemmas.Bool.{or_cases, or_left, or_right, and_parts, and_from, cond-true, cond-false}
use Rattle.rules.specs.declared.memory.Object.{Object}
use Rattle.rules.specs.Lists.{numbers_from, total}
use Rattle.rules.specs.Sheets.{Sheet}
use Rattle.rules.specs.Objects.{object, object_count, size, first, last, always_live}
use Rattle.rules.specs.Lean.{is_started, is_finished, is_live}
use Rattle.rules.specs.Lives.{Live}
use Rattle.rules.specs.Runs.{Phase, State, phase, waiting, running, finished}
use Rattle.graph.specs.Questions.{SaysWhether}
use Rattle.run.specs.declared.phase.ActorRecord.{ActorRecord}
use Rattle.run.specs.Views.{Shows, Lives}
use Rattle.run.proofs.Told.{says_live}

-- ---- one number more

next : (f : ℕ → ℕ) (k n : ℕ) → total f (numbers_from k (suc n)) ≡ total f (numbers_from k n) + f (k + n)
next f k zero = let e : f k ≡ f (k + 0) = ap f (omega arith) in omega arith
next f k (suc n) = let rest = next f (suc k) n in let e : f (suc k + n) ≡ f (k + suc n) = ap f (omega arith) in omega arith

-- the total over the numbers below n, and that of n
pub total_more : (f : ℕ → ℕ) (n : ℕ) → total f (numbers_from 0 (n + 1)) ≡ total f (numbers_from 0 n) + f n
total_more f n =
    let e : n + 1 ≡ suc n = omega arith in
    let z : f (0 + n) ≡ f n = ap f (omega arith) in
    ap (λ m. total f (numbers_from 0 m)) e ∙ next f 0 n ∙ ap (λ m. total f (numbers_from 0 n) + m) z

-- ---- the test of the rules tells whether an object is live

started_told : (p : Phase) → is_started p ≡ true → p ≢ waiting
started_told waiting e = absurd (cc)
started_told running e = λ w. absurd (cc)
started_told finished e = λ w. absurd (cc)

started_heard : (p : Phase) → p ≢ waiting → is_started p ≡ true
started_heard waiting n = absurd (n refl)
started_heard running n = refl
started_heard finished n = refl

unfinished_told : (p : Phase) → not (is_finished p) ≡ true → p ≢ finished
unfinished_told waiting e = λ f. absurd (cc)
unfinished_told running e = λ f. absurd (cc)
unfinished_told finished e = absurd (cc)

unfinished_heard : (p : Phase) → p ≢ finished → not (is_finished p) ≡ true
unfinished_heard waiting n = refl
unfinished_heard running n = refl
unfinished_heard finished n = absurd (n refl)

module _ (s : Sheet) (st : State) (x : ℕ) where
  abbrev passes : Bool
  passes = is_started (phase st (first s x)) && not (is_finished (phase st (last s x)))

  live_tested : Live s st x → is_live s st x ≡ true
  live_tested live =
      ⊎_elim (λ e. or_left (always_live s x) passes e)
      (λ on. or_right (always_live s x) passes (and_from _ _ (started_heard (phase st (first s x)) on.0) (unfinished_heard (phase st (last s x)) on.1)))
      live.lives

  tested_live : x < object_count s → is_live s st x ≡ true → Live s st x
  tested_live known e =
      record {
        known = known;
        lives =
            ⊎_elim (λ d. inl d)
            (λ p. let both = and_parts (is_started (phase st (first s x))) (not (is_finished (phase st (last s x)))) p in inr (started_told (phase st (first s x)) both.0, unfinished_told (phase st (last s x)) both.1))
            (or_cases (always_live s x) passes e);
      }

  pub live_test : (b : Bool) → SaysWhether (x < object_count s) (Live s st x) (Some b) → is_live s st x ≡ b
  live_test true says = live_tested says.1
  live_test false says = pick (is_live s st x) (λ e. says.1 (tested_live says.0 e))
    where
      pick : (t : Bool) → (t ≡ true → ⊥) → t ≡ false
      pick true n = absurd (n refl)
      pick false n = refl

-- the size of object x, where it is live
abbrev pub weight : Sheet → State → ℕ → ℕ
weight s st x = cond (is_live s st x) (size s x) 0

module _ (s : Sheet) (records : List ActorRecord) (rows : List ℕ) (st : State) (shows : Shows s records rows st) (x : ℕ) (known : x < object_count s) (o : Object) (same : o ≡ object s x) where
  pub weight_live : Lives s records o → weight s st x ≡ o.size
  weight_live lives =
      cond-true (is_live s st x) (size s x) 0 (live_test s st x true (says_live s records rows o x true known same lives st shows))
      ∙ sym (ap (λ (q : Object). q.size) same)

  pub weight_dead : (Lives s records o → ⊥) → weight s st x ≡ 0
  weight_dead dead = cond-false (is_live s st x) (size s x) 0 (live_test s st x false (says_live s records rows o x false known same dead st shows))
