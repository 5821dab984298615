-- The largest total, actor by actor.
use Rattle.std.proofs.Common.{◌≡◌, ℕ, ◌+◌, ◌<◌, max, List, length, get_or, drop, sym, ap, ◌∙◌}
use Rattle.std.proofs.lemmas.List.{at_drop_more}
use Rattle.rules.specs.declared.memory.Object.{Object}
use Rattle.words.specs.Words.{bit}
use Rattle.lean.specs.Totals.{live_in, also, totals, highest}

-- the totals of one actor more are taken in
pub one_more : (os : List Object) (listing : List ℕ) (i : ℕ) → i < length listing → (finished started : ℕ) →
    ((j : ℕ) → bit started j ≡ also (bit finished) (get_or listing i 0) j) → (p running left q top : ℕ) →
    running ≡ live_in os (bit started) (bit finished) → left ≡ live_in os (bit started) (bit started) →
    q ≡ max p running → top ≡ max q left → (whole : ℕ) →
    highest p (totals os (bit finished) (drop i listing)) ≡ whole → highest top (totals os (bit started) (drop (i + 1) listing)) ≡ whole
one_more os listing i known finished started bits p running left q top r l qs ts whole before =
    ap (λ n. highest n (totals os (bit started) rest)) (ts ∙ ap (λ n. max n left) qs ∙ ap (λ n. max (max p running) n) l ∙ ap (λ n. max (max p n) (live_in os (bit started) (bit started))) r)
    ∙ ap (λ done. highest (max (max p (live_in os done (bit finished))) (live_in os done done)) (totals os done rest)) same
    ∙ sym (at_drop_more (λ ns. highest p (totals os (bit finished) ns)) listing i 0 known)
    ∙ before
  where
    rest : List ℕ
    rest = drop (i + 1) listing

    same : bit started ≡ also (bit finished) (get_or listing i 0)
    same = λ k j. bits j k
