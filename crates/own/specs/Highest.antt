-- What last fit takes.
use Rattle.std.specs.Prelude.{◌≡◌, ℕ, ◌+◌, ◌<◌, ◌≤◌, Bool, true, false, cond, List, [], ◌∷◌, Some, None, Option, nat_le, refl}
use Rattle.std.proofs.Common.{inl, inr, arith}
use Rattle.std.specs.Option.{option_or}
use Rattle.std.proofs.ByRecursion.{All-weaker}
use Rattle.std.proofs.lemmas.Bool.{leb-true, leb-false}
use Rattle.rules.specs.declared.memory.Stretch.{Stretch}
use Rattle.rules.specs.Stretches.{Every, Any}
use Rattle.rules.specs.Fitting.{Ascending, IsFitRule, Holds, Takes, answer_from, place_in}
use Rattle.rules.proofs.Layers.{answers_from_takes}
use Rattle.rules.specs.Choosing.{offer}
use Rattle.own.specs.Lasting.{Higher, IsLastFit, last_of}

-- one that P holds of, among those that Q holds of
any_of_all : {X : Type 0} (P Q R : X → Type 0) → ((x : X) → P x → Q x → R x) → (xs : List X) → Any P xs → Every Q xs → Any R xs
any_of_all P Q R f [] a q = a
any_of_all P Q R f (x ∷ xs) (inl p) q = inl (f x p q.0)
any_of_all P Q R f (x ∷ xs) (inr a) q = inr (any_of_all P Q R f xs a q.1)

module _ (size grain : ℕ) where
  -- none behind the gap holds the size, so it is taken if it does
  only : (g : Stretch) (gs : List Stretch) → Every (λ h. Holds h size grain → ⊥) gs → (b : Bool) → nat_le (place_in g grain + size) g.end ≡ b →
      Takes Higher (g ∷ gs) size grain (cond b (Some (answer_from g size grain)) None)
  only g gs none true e =
      inl (
        leb-true (place_in g grain + size) g.end e,
        refl,
        (λ h. omega arith, All-weaker (λ h. Holds h size grain → ⊥) (λ h. Holds h size grain → Higher g h) (λ h n k. absurd (n k)) gs none),
      )
  only g gs none false e = (λ h. let l = leb-false (place_in g grain + size) g.end e in omega arith, none)

  -- what is taken behind the gap lies higher
  behind : (g : Stretch) (gs : List Stretch) → g.start < g.end → Every (λ h. g.end ≤ h.start) gs →
      (rest : Option (ℕ × ℕ)) → Takes Higher gs size grain rest → Takes Higher (g ∷ gs) size grain (option_or rest (offer g size grain))
  behind g gs filled above None t = only g gs t (nat_le (place_in g grain + size) g.end) refl
  behind g gs filled above (Some a) t =
      inr (any_of_all
      (λ f. Holds f size grain × (a ≡ answer_from f size grain) × Every (λ h. Holds h size grain → Higher f h) gs)
      (λ h. g.end ≤ h.start)
      (λ f. Holds f size grain × (a ≡ answer_from f size grain) × Every (λ h. Holds h size grain → Higher f h) (g ∷ gs))
      (λ f p l. (p.0, p.1, (λ h. omega arith, p.2))) gs t above)

  takes_highest : (gs : List Stretch) → Every (λ g. (g.start < g.end) × (g.end ≤ 4294967295)) gs → Ascending gs → Takes Higher gs size grain (last_of gs size grain)
  takes_highest [] range up = tt
  takes_highest (g ∷ gs) range up = behind g gs range.0.0 up.0 (last_of gs size grain) (takes_highest gs range.1 up.1)

pub last_takes_the_highest : IsLastFit last_of
last_takes_the_highest gs size grain p = takes_highest size grain gs p.gaps_in_range p.ascending

pub last_fit_is_a_fit_rule : IsFitRule last_of
last_fit_is_a_fit_rule gs size grain p =
    answers_from_takes Higher gs size grain (last_of gs size grain) (last_takes_the_highest gs size grain p)
