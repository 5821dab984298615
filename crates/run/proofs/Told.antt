-- What a run answers of its state.
use Rattle.std.proofs.Common.{◌≡◌, ℕ, ◌<◌, Bool, true, false, not, ◌&&◌, ◌||◌, ltb, ◌≢◌, ◌⊎◌, List, Some, sym, refl, ap, ◌∙◌, subst, inl, inr, arith, ne_eqb}
use Rattle.std.proofs.lemmas.Bool.{lt-ltb}
use Rattle.rules.specs.declared.memory.Object.{Object}
use Rattle.rules.specs.Sheets.{Sheet}
use Rattle.rules.specs.Objects.{object, object_count}
use Rattle.rules.specs.Runs.{State, phase, waiting, finished}
use Rattle.rules.specs.Lives.{Live}
use Rattle.graph.specs.Rows.{before, may_join, up_to}
use Rattle.graph.specs.Questions.{SaysWhether}
use Rattle.run.specs.declared.phase.ActorRecord.{ActorRecord}
use Rattle.run.specs.Records.{phase_in}
use Rattle.run.specs.Views.{Shows, Tells, Lives}
use Rattle.run.proofs.Stepping.{shown_phase}

-- an object lives by the phases that a state shows exactly where it is live
pub says_live : (s : Sheet) (records : List ActorRecord) (rows : List ℕ) (o : Object) (x : ℕ) (b : Bool) → x < object_count s → o ≡ object s x → Tells b (Lives s records o) →
    (st : State) → Shows s records rows st → SaysWhether (x < object_count s) (Live s st x) (Some b)
says_live s records rows o x b known same tells st sh = pick b (subst (λ (q : Object). Tells b (Lives s records q)) same tells)
  where
    first_now : phase st (object s x).producer ≡ phase_in s records (object s x).producer
    first_now = shown_phase s records rows st sh (object s x).producer

    last_now : phase st (object s x).consumer ≡ phase_in s records (object s x).consumer
    last_now = shown_phase s records rows st sh (object s x).consumer

    there : Lives s records (object s x) → Live s st x
    there (inl e) = record { known = known; lives = inl e }
    there (inr p) = record { known = known; lives = inr (λ w. p.0 (sym first_now ∙ w), λ d. p.1 (sym last_now ∙ d)) }

    back : ((object s x).delayed ≡ true) ⊎ ((phase st (object s x).producer ≢ waiting) × (phase st (object s x).consumer ≡ finished → ⊥)) → Lives s records (object s x)
    back (inl e) = inl e
    back (inr p) = inr (λ w. p.0 (first_now ∙ w), λ d. p.1 (last_now ∙ d))

    pick : (b : Bool) → Tells b (Lives s records (object s x)) → SaysWhether (x < object_count s) (Live s st x) (Some b)
    pick true yes-so = (known, there yes-so)
    pick false not_so = (known, λ l. not_so (back l.lives))

-- a pair of actors that differ may be joined unless the rows put the second before the first
pub against : (rows : List ℕ) (a b : ℕ) → a < 64 → b < 64 → a ≢ b → may_join rows a b ≡ false → before rows b a ≡ true
against rows a b l m differ none =
    pick (before rows b a)
    (sym (ap (λ (u : Bool). u && (ltb b 64 && not (up_to (before rows) b a))) (lt-ltb a 64 l)
    ∙ (ap (λ (u : Bool). u && not (up_to (before rows) b a)) (lt-ltb b 64 m) ∙ ap (λ (u : Bool). not (u || before rows b a)) (ne_eqb b a (λ e. differ (sym e))))) ∙ none)
  where
    pick : (u : Bool) → not u ≡ false → u ≡ true
    pick true e = refl
    pick false e = sym e

-- and only then
pub not_against : (rows : List ℕ) (a b : ℕ) → a < 64 → b < 64 → a ≢ b → may_join rows a b ≡ true → before rows b a ≡ true → ⊥
not_against rows a b l m differ may behind =
    let z : false ≡ true =
    sym (ap (λ (u : Bool). u && (ltb b 64 && not (up_to (before rows) b a))) (lt-ltb a 64 l)
    ∙ (ap (λ (u : Bool). u && not (up_to (before rows) b a)) (lt-ltb b 64 m) ∙ (ap (λ (u : Bool). not (u || before rows b a)) (ne_eqb b a (λ e. differ (sym e))) ∙ ap (λ (u : Bool). not u) behind)))
    ∙ may in
    let k : ◌≡◌ {A = ℕ} 0 1 = cc in omega arith
