-- The last of some gaps, from the front: what is left to do.
use Rattle.std.specs.Prelude.{◌≡◌, ℕ, ◌+◌, ◌<◌, ◌≤◌, List, length, drop, Some, None, Option, slice_index_or, refl}
use Rattle.std.proofs.Common.{sym, ap, ◌∙◌}
use Rattle.std.specs.Option.{option_or}
use Rattle.std.proofs.lemmas.List.{at_drop_more, at_drop_all}
use Rattle.rules.specs.declared.memory.Stretch.{Stretch}
use Rattle.rules.specs.Choosing.{offer}
use Rattle.own.specs.Lasting.{last_of}

or_none : {X : Type 0} (a : Option X) → a ≡ option_or a None
or_none None = refl
or_none (Some x) = refl

or_or : {X : Type 0} (a b c : Option X) → option_or (option_or a b) c ≡ option_or a (option_or b c)
or_or None b c = refl
or_or (Some x) b c = refl

module _ (gs : List Stretch) (size grain : ℕ) where
  -- the answer, from the last of the gaps before i and the gaps from i on
  abbrev pub Leaves : ℕ → Option (ℕ × ℕ) → Type 0
  Leaves i last = last_of gs size grain ≡ option_or (last_of (drop i gs) size grain) last

  pub leaves_all : Leaves 0 None
  leaves_all = or_none (last_of gs size grain)

  pub leaves_more : (i : ℕ) (last next : Option (ℕ × ℕ)) → Leaves i last → (d : Stretch) → i < length gs → next ≡ option_or (offer (slice_index_or gs i d) size grain) last →
      Leaves (i + 1) next
  leaves_more i last next inv d h e =
      inv ∙ at_drop_more (λ xs. option_or (last_of xs size grain) last) gs i d h
      ∙ or_or (last_of (drop (i + 1) gs) size grain) (offer (slice_index_or gs i d) size grain) last
      ∙ ap (option_or (last_of (drop (i + 1) gs) size grain)) (sym e)

  pub leaves_none : (i : ℕ) (last : Option (ℕ × ℕ)) → Leaves i last → length gs ≤ i → last ≡ last_of gs size grain
  leaves_none i last inv h = sym (inv ∙ at_drop_all (λ xs. option_or (last_of xs size grain) last) gs i h)
