-- Small texts are refused as they should be, by computing their outcomes.
use Rattle.std.proofs.Common.{◌≡◌, ℕ, List, [], ◌∷◌, map, refl, subst}
use Rattle.rules.specs.Lists.{Every}
use Rattle.rules.specs.Reading.{Outcome, fault, Gives}
use Rattle.rules.specs.FaultyTexts.{Faulty, faulty_texts, FaultyTextsAreRefused}
use Rattle.rules.proofs.Readers.{gives_some, outcome}

-- what a text gives is its outcome
gives_outcome : (text : List ℕ) (o : Outcome) → outcome text ≡ o → Gives text o
unfolding outcome
gives_outcome text o e = subst (λ (p : Outcome). Gives text p) e (gives_some text).1

-- texts whose outcomes are the faults expected
faults_so : (fs : List Faulty) → map (λ (f : Faulty). outcome f.text) fs ≡ map (λ (f : Faulty). fault f.number f.line) fs →
    Every (λ f. Gives f.text (fault f.number f.line)) fs
faults_so [] e = tt
faults_so (f ∷ fs) e = (gives_outcome f.text (fault f.number f.line) (cc), faults_so fs (cc))

-- the outcomes, computed
computed : map (λ (f : Faulty). outcome f.text) faulty_texts ≡ map (λ (f : Faulty). fault f.number f.line) faulty_texts
unfolding outcome
computed = refl

-- the law of the faulty texts
pub faulty_texts_are_refused : FaultyTextsAreRefused
faulty_texts_are_refused = faults_so faulty_texts computed
