-- The gaps that taken bytes leave, found and checked byte by byte.
use Rattle.std.proofs.Common.{◌≡◌, ℕ, zero, suc, ◌<◌, ◌≤◌, Bool, true, false, cond, not, ◌&&◌, eqb, ltb, leb, ◌⊎◌, ◌↔◌, List, [], ◌∷◌, sym, ◌∙◌, inl, inr}
use Rattle.std.proofs.lemmas.Bool.{and_parts, and_from, ltb-true, lt-ltb, leb-true, le-leb, not-true, not_from_false, both_ways, cases_Bool}
use Rattle.rules.specs.declared.memory.Stretch.{Stretch}
use Rattle.rules.specs.Lists.{Any}
use Rattle.rules.specs.Stretches.{Covers, Spaced, Gaps}
use Rattle.rules.proofs.Members.{any_at}
use Rattle.rules.proofs.Joined.{some_one}
use Rattle.rules.proofs.Checking.{alike, alike_so, all_under, all_under_so, all_of, all_of_all, any_of, any_of_so, so_any_of}

-- whether a stretch covers a byte
unfoldable pub covers : ℕ → Stretch → Bool
covers b g = leb g.start b && ltb b g.end

covers_so : (b : ℕ) (g : Stretch) → covers b g ≡ true → Covers g b
unfolding covers
covers_so b g t =
    let p = and_parts (leb g.start b) (ltb b g.end) t in (leb-true g.start b p.0, ltb-true b g.end p.1)

so_covers : (b : ℕ) (g : Stretch) → Covers g b → covers b g ≡ true
unfolding covers
so_covers b g c = and_from (leb g.start b) (ltb b g.end) (le-leb g.start b c.0) (lt-ltb b g.end c.1)

-- whether a byte lies between any two
unfoldable pub are_spaced : List Stretch → Bool
unfolding all_of
are_spaced [] = true
are_spaced (g ∷ gs) = all_of (λ h. ltb g.end h.start) gs && are_spaced gs

spaced_so : (gs : List Stretch) → are_spaced gs ≡ true → Spaced gs
unfolding are_spaced
spaced_so [] t = tt
spaced_so (g ∷ gs) t =
    let p = and_parts (all_of (λ h. ltb g.end h.start) gs) (are_spaced gs) t in
    (all_of_all (λ h. g.end < h.start) (λ h. ltb g.end h.start) (λ h. ltb-true g.end h.start) gs p.0, spaced_so gs p.1)

-- whether a gap is filled and ends within the capacity
unfoldable pub is_within : ℕ → Stretch → Bool
is_within capacity g = ltb g.start g.end && leb g.end capacity

within_so : (capacity : ℕ) (g : Stretch) → is_within capacity g ≡ true → (g.start < g.end) × (g.end ≤ capacity)
unfolding is_within
within_so capacity g t =
    let p = and_parts (ltb g.start g.end) (leb g.end capacity) t in (ltb-true g.start g.end p.0, leb-true g.end capacity p.1)

-- whether the gaps cover exactly the bytes that are not taken
unfoldable pub are_gaps : ℕ → (ℕ → Bool) → List Stretch → Bool
unfolding alike all_under all_of any_of covers are_spaced is_within
are_gaps capacity taken gs =
    are_spaced gs && (all_of (is_within capacity) gs && all_under capacity (λ b. alike (any_of (covers b) gs) (not (taken b))))

-- where the test passes, they are the gaps
pub gaps_so : (capacity : ℕ) (T : ℕ → Type 0) (taken : ℕ → Bool) → ((b : ℕ) → taken b ≡ true → T b) → ((b : ℕ) → T b → taken b ≡ true) →
    (gs : List Stretch) → are_gaps capacity taken gs ≡ true → Gaps capacity T gs
unfolding are_gaps
gaps_so capacity T taken to back gs t =
    let exact : ℕ → Bool = λ b. alike (any_of (covers b) gs) (not (taken b)) in
    let p = and_parts (are_spaced gs) (all_of (is_within capacity) gs && all_under capacity exact) t in
    let q = and_parts (all_of (is_within capacity) gs) (all_under capacity exact) p.1 in
    record {
      spaced = spaced_so gs p.0;
      each = all_of_all (λ g. (g.start < g.end) × (g.end ≤ capacity)) (is_within capacity) (within_so capacity) gs q.0;
      exactly = λ b l. exactly b (alike_so (any_of (covers b) gs) (not (taken b)) (all_under_so capacity exact q.1 b l));
    }
  where
    free : (b : ℕ) → (T b → ⊥) → (taken b ≡ true) ⊎ (taken b ≡ false) → not (taken b) ≡ true
    free b n (inl e) = absurd (n (to b e))
    free b n (inr e) = not_from_false (taken b) e

    exactly : (b : ℕ) → any_of (covers b) gs ≡ not (taken b) → Any (λ g. Covers g b) gs ↔ (T b → ⊥)
    exactly b e = (
      λ a h.
          let s = some_one (λ g. Covers g b) gs a in
          both_ways (taken b) (not-true (taken b) (sym e ∙ so_any_of (covers b) gs s.0 s.1 (so_covers b s.0 s.2))) (back b h),
      λ n.
          let r = any_of_so (covers b) gs (e ∙ free b n (cases_Bool (taken b))) in
          any_at (λ g. Covers g b) r.0 gs r.1 (covers_so b r.0 r.2),
    )

-- the gaps with one free byte more before them
unfoldable pub with_byte : ℕ → List Stretch → List Stretch
with_byte b [] = record { start = b; end = suc b } ∷ []
with_byte b (g ∷ gs) =
    cond (eqb g.start (suc b)) (record { start = b; end = g.end } ∷ gs) (record { start = b; end = suc b } ∷ g ∷ gs)

-- the gaps of so many bytes from b on
unfoldable pub gaps_from : ℕ → ℕ → (ℕ → Bool) → List Stretch
unfolding with_byte
gaps_from b zero taken = []
gaps_from b (suc n) taken = cond (taken b) (gaps_from (suc b) n taken) (with_byte b (gaps_from (suc b) n taken))
