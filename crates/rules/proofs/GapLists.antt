-- Lists of gaps: bytes taken alike leave the same gaps, and these are the maximal stretches with no taken byte.
use Rattle.std.proofs.Common.{◌≡◌, ℕ, suc, ◌-◌, ◌<◌, ◌≤◌, ◌⊎◌, List, [], ◌∷◌, sym, refl, subst, inl, inr, ⊎_elim, arith}
use Rattle.std.proofs.lemmas.Bool.{cases_lt}
use Rattle.rules.specs.declared.memory.Stretch.{Stretch}
use Rattle.rules.specs.Stretches.{Every, Any, ◌∈◌, Covers, Spaced, Gaps, Blocked, Untaken, Maximal}
use Rattle.rules.specs.PlacingLaws.{GapsAreTheMaximalStretches}
use Rattle.rules.proofs.Members.{any_at, all_at}
use Rattle.rules.proofs.Joined.{some_one}

-- the byte b is in some gap
abbrev pub In : List Stretch → ℕ → Type 0
In gs b = Any (λ g. Covers g b) gs

-- none is empty, and none ends above the capacity
abbrev pub Within : ℕ → List Stretch → Type 0
Within capacity gs = Every (λ g. (g.start < g.end) × (g.end ≤ capacity)) gs

-- what is in gaps that start above n is above n
pub after : (n : ℕ) (gs : List Stretch) → Every (λ h. n < h.start) gs → (b : ℕ) → In gs b → n < b
after n [] above b m = absurd m
after n (g ∷ gs) above b (inl c) = let l = above.0 in omega arith
after n (g ∷ gs) above b (inr m) = after n gs above.1 b m

-- what is in gaps is below the capacity
pub below_capacity : (capacity : ℕ) (gs : List Stretch) → Within capacity gs → (b : ℕ) → In gs b → b < capacity
below_capacity capacity [] w b m = absurd m
below_capacity capacity (g ∷ gs) w b (inl c) = let l = w.0 in omega arith
below_capacity capacity (g ∷ gs) w b (inr m) = below_capacity capacity gs w.1 b m

-- the first gap starts at the lowest byte
from_first : (capacity : ℕ) (g : Stretch) (gs : List Stretch) → Spaced (g ∷ gs) → Within capacity (g ∷ gs) → (b : ℕ) → In (g ∷ gs) b → g.start ≤ b
from_first capacity g gs s w b (inl c) = c.0
from_first capacity g gs s w b (inr m) = let l = after g.end gs s.0 b m in let f = w.0 in omega arith

-- no gap has the byte at the end of the first
no_end : (g : Stretch) (gs : List Stretch) → Spaced (g ∷ gs) → In (g ∷ gs) g.end → ⊥
no_end g gs s (inl c) = omega arith
no_end g gs s (inr m) = let l = after g.end gs s.0 g.end m in omega arith

-- the bytes behind the first gap are in the others
behind_first : (n : ℕ) (g : Stretch) (gs : List Stretch) (b : ℕ) → g.end ≤ n → n < b → In (g ∷ gs) b → In gs b
behind_first n g gs b l k (inl c) = absurd (omega arith)
behind_first n g gs b l k (inr m) = m

-- gaps with the same bytes are the same
pub same_bytes : (capacity : ℕ) (gs hs : List Stretch) → Spaced gs → Spaced hs → Within capacity gs → Within capacity hs →
    ((b : ℕ) → In gs b → In hs b) → ((b : ℕ) → In hs b → In gs b) → gs ≡ hs
same_bytes capacity [] [] s t v w to back = refl
same_bytes capacity [] (h ∷ hs) s t v w to back = let f = w.0 in absurd (back h.start (inl (omega arith, omega arith)))
same_bytes capacity (g ∷ gs) [] s t v w to back = let f = v.0 in absurd (to g.start (inl (omega arith, omega arith)))
same_bytes capacity (g ∷ gs) (h ∷ hs) s t v w to back =
    let f = v.0 in
    let k = w.0 in
    let up = from_first capacity h hs t w g.start (to g.start (inl (omega arith, omega arith))) in
    let down = from_first capacity g gs s v h.start (back h.start (inl (omega arith, omega arith))) in
    let starts : g.start ≡ h.start = omega arith in
    let ends : g.end ≡ h.end = same_ends starts in
    let rest : gs ≡ hs =
    same_bytes capacity gs hs s.1 t.1 v.1 w.1
    (λ b m. behind_first g.end h hs b (omega arith) (after g.end gs s.0 b m) (to b (inr m)))
    (λ b m. behind_first h.end g gs b (omega arith) (after h.end hs t.0 b m) (back b (inr m)))
    in
    λ i. record { start = starts i; end = ends i } ∷ rest i
  where
    same_ends : g.start ≡ h.start → g.end ≡ h.end
    same_ends e =
        let f = v.0 in
        let k = w.0 in
        let not_below : h.end ≤ g.end =
        ⊎_elim (λ l. absurd (no_end g gs s (back g.end (inl (omega arith, l))))) (λ l. l) (cases_lt g.end h.end)
        in
        let not_above : g.end ≤ h.end =
        ⊎_elim (λ l. absurd (no_end h hs t (to h.end (inl (omega arith, l))))) (λ l. l) (cases_lt h.end g.end)
        in
        omega arith

module _ (capacity : ℕ) (T U : ℕ → Type 0) (to : (b : ℕ) → T b → U b) (back : (b : ℕ) → U b → T b) where
  -- bytes taken alike leave the same gaps
  pub gaps_alike : (gs hs : List Stretch) → Gaps capacity T gs → Gaps capacity U hs → gs ≡ hs
  gaps_alike gs hs G H =
      same_bytes capacity gs hs G.spaced H.spaced G.each H.each
      (λ b m. let l = below_capacity capacity gs G.each b m in (H.exactly b l).1 (λ u. (G.exactly b l).0 m (back b u)))
      (λ b m. let l = below_capacity capacity hs H.each b m in (G.exactly b l).1 (λ t. (H.exactly b l).0 m (to b t)))

  -- gaps that some bytes leave are left by bytes taken alike
  pub gaps_to : (gs : List Stretch) → Gaps capacity T gs → Gaps capacity U gs
  gaps_to gs G =
      record {
        spaced = G.spaced;
        each = G.each;
        exactly = λ b l. (λ m u. (G.exactly b l).0 m (back b u), λ free. (G.exactly b l).1 (λ t. free (to b t)));
      }

-- a byte in some gap is in a given one, or a byte lies between them
pub side : (g : Stretch) (gs : List Stretch) → Spaced gs → g ∈ gs → (b : ℕ) → In gs b → Covers g b ⊎ ((suc b < g.start) ⊎ (g.end < b))
side g [] s e b m = absurd m
side g (h ∷ hs) s (inl e) b (inl c) = inl (subst (λ k. Covers k b) (sym e) c)
side g (h ∷ hs) s (inl e) b (inr m) = inr (inr (subst (λ k. k.end < b) (sym e) (after h.end hs s.0 b m)))
side g (h ∷ hs) s (inr i) b (inl c) = let l = all_at (λ k. h.end < k.start) g hs i s.0 in inr (inl (omega arith))
side g (h ∷ hs) s (inr i) b (inr m) = side g hs s.1 i b m

module _ (capacity : ℕ) (Taken : ℕ → Type 0) (gs : List Stretch) (G : Gaps capacity Taken gs) where
  -- a gap is not empty, and does not end above the capacity
  pub gap_within : (g : Stretch) → g ∈ gs → (g.start < g.end) × (g.end ≤ capacity)
  gap_within g i = all_at (λ h. (h.start < h.end) × (h.end ≤ capacity)) g gs i G.each

  -- a gap has no taken byte
  gap_is_untaken : (g : Stretch) → g ∈ gs → Untaken capacity Taken g
  gap_is_untaken g i =
      let w = gap_within g i in
      (w.0, w.1, λ b c. (G.exactly b (omega arith)).0 (any_at (λ h. Covers h b) g gs i c))

  -- the byte before a gap, and the byte at its end, are in no gap
  pub no_byte_beside : (g : Stretch) → g ∈ gs → (b : ℕ) → (suc b ≡ g.start) ⊎ (b ≡ g.end) → In gs b → ⊥
  no_byte_beside g i b beside m = decide (gap_within g i) beside (side g gs G.spaced i b m)
    where
      decide : (g.start < g.end) × (g.end ≤ capacity) → (suc b ≡ g.start) ⊎ (b ≡ g.end) →
          Covers g b ⊎ ((suc b < g.start) ⊎ (g.end < b)) → ⊥
      decide w (inl e) (inl c) = omega arith
      decide w (inl e) (inr (inl l)) = omega arith
      decide w (inl e) (inr (inr l)) = omega arith
      decide w (inr e) (inl c) = omega arith
      decide w (inr e) (inr (inl l)) = omega arith
      decide w (inr e) (inr (inr l)) = omega arith

  -- an untaken byte is in a gap
  untaken_in : (h : Stretch) → Untaken capacity Taken h → (b : ℕ) → Covers h b → In gs b
  untaken_in h u b c = (G.exactly b (let l = u.1 in omega arith)).1 (u.2 b c)

  -- a gap is part of no other stretch with no taken byte
  pub gap_is_maximal : (g : Stretch) → g ∈ gs → Maximal capacity Taken g
  gap_is_maximal g i = (gap_is_untaken g i, λ h u low high. same h u low high)
    where
      same : (h : Stretch) → Untaken capacity Taken h → h.start ≤ g.start → g.end ≤ h.end → h ≡ g
      same h u low high =
          let w = gap_within g i in
          let starts : h.start ≡ g.start =
          ⊎_elim
          (λ l. absurd (no_byte_beside g i (g.start - 1) (inl (omega arith)) (untaken_in h u (g.start - 1) (omega arith, omega arith))))
          (λ l. omega arith) (cases_lt h.start g.start)
          in
          let ends : h.end ≡ g.end =
          ⊎_elim
          (λ l. absurd (no_byte_beside g i g.end (inr refl) (untaken_in h u g.end (omega arith, omega arith))))
          (λ l. omega arith) (cases_lt g.end h.end)
          in
          λ i. record { start = starts i; end = ends i }

  -- a stretch that is part of no other is a gap
  pub maximal_is_gap : (g : Stretch) → Maximal capacity Taken g → g ∈ gs
  maximal_is_gap g (u, most) =
      let filled = u.0 in
      let found = some_one (λ h. Covers h g.start) gs (untaken_in g u g.start (omega arith, omega arith)) in
      let h = found.0 in
      let c = found.2 in
      let reaches : g.end ≤ h.end =
      ⊎_elim
      (λ l. absurd (no_byte_beside h found.1 h.end (inr refl) (untaken_in g u h.end (omega arith, l))))
      (λ l. l) (cases_lt h.end g.end)
      in
      subst (λ k. k ∈ gs) (most h (gap_is_untaken h found.1) c.0 reaches) found.1

pub gaps_are_the_maximal_stretches : GapsAreTheMaximalStretches
gaps_are_the_maximal_stretches capacity blocked gs G g =
    (gap_is_maximal capacity (Blocked blocked) gs G g, maximal_is_gap capacity (Blocked blocked) gs G g)
