-- What a closure that places the object in a gap gives for an item of a run.
use Rattle.std.proofs.Common.{◌≡◌, ℕ, Some, None, Option, Bor, sym, ap, ◌∙◌}
use Rattle.std.specs.Option.{option_map, IsSomeAnd, IfSome}
use Rattle.std.specs.Fn.{Called}
use denote.Param.Members.{Mut}
use Rattle.rules.specs.declared.memory.Stretch.{Stretch}
use Rattle.rules.specs.Choosing.{offer}

module _ {F : Type 0} (size grain : ℕ) (g : Mut F (Bor Stretch × Unit {0}) (Option (ℕ × ℕ))) (f : F)
    (places : (x : Bor Stretch) (r : Option (ℕ × ℕ)) (q : F) → Called g f (x, tt) r q → (q ≡ f) × (r ≡ offer x.now size grain)) where
  pub gave : (r : Option (ℕ × ℕ)) (o : Option (Bor Stretch)) (h : Stretch) → option_map (λ y. y.now) o ≡ Some h → IfSome o (λ x. Called g f (x, tt) r f) → offer h size grain ≡ r
  gave r None h e c = cc
  gave r (Some x) h e c =
      let same : x.now ≡ h = cc in sym ((places x r f c).1 ∙ ap (λ y. offer y size grain) same)

  pub gave_some : (r : Option (ℕ × ℕ)) (o : Option (Bor Stretch)) (h : Stretch) → option_map (λ y. y.now) o ≡ Some h → IsSomeAnd o (λ x. Called g f (x, tt) r f) → offer h size grain ≡ r
  gave_some r None h e c = cc
  gave_some r (Some x) h e c = gave r (Some x) h e c

  pub keeps : (a : Bor Stretch × Unit {0}) (r : Option (ℕ × ℕ)) (q : F) → Called g f a r q → q ≡ f
  keeps a r q c = (places a.0 r q c).0
