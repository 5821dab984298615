-- Every decided set of taken bytes leaves gaps: they are found byte by byte, from the top down.
use Rattle.std.proofs.Common.{◌≡◌, ℕ, zero, suc, ◌+◌, ◌<◌, ◌≤◌, ◌⊎◌, ◌↔◌, List, [], ◌∷◌, sym, subst, inl, inr, ⊎_elim, arith}
use Rattle.std.proofs.ByRecursion.{All-weaker}
use Rattle.std.proofs.lemmas.Bool.{cases_eq}
use Rattle.rules.specs.declared.memory.Stretch.{Stretch}
use Rattle.rules.specs.Stretches.{Every, Covers, Spaced, Gaps, Blocked}
use Rattle.rules.specs.PlacingLaws.{GapsExistOnce}
use Rattle.rules.proofs.Deciding.{Decided, turned, not, both, below, any_decided}
use Rattle.rules.proofs.GapLists.{In, gaps_alike}

-- whether a stretch covers a byte
pub covers? : (s : Stretch) (b : ℕ) → Decided (Covers s b)
covers? s b = both (turned (λ n. omega arith) (λ l k. omega arith) (not (below b s.start))) (λ l. below b s.end)

module _ (capacity : ℕ) (Taken : ℕ → Type 0) (taken? : (b : ℕ) → Decided (Taken b)) where
  -- the gaps that the bytes from `low` on leave
  record GapsFrom (low : ℕ) (gs : List Stretch) : Type 0 where
    spaced : Spaced gs
    each : Every (λ g. (low ≤ g.start) × (g.start < g.end) × (g.end ≤ capacity)) gs
    exactly : (b : ℕ) → low ≤ b → b < capacity → In gs b ↔ (Taken b → ⊥)

  -- a free byte more
  with_byte : (k : ℕ) (gs hs : List Stretch) → GapsFrom (suc k) gs → (Taken k → ⊥) → Spaced hs →
      Every (λ g. (k ≤ g.start) × (g.start < g.end) × (g.end ≤ capacity)) hs →
      ((b : ℕ) → In hs b → (b ≡ k) ⊎ In gs b) → ((b : ℕ) → (b ≡ k) ⊎ In gs b → In hs b) → GapsFrom k hs
  with_byte k gs hs G free spaced each to back =
      record { spaced = spaced; each = each; exactly = λ b l h. exact b l h (cases_eq b k) }
    where
      exact : (b : ℕ) → k ≤ b → b < capacity → (b ≡ k) ⊎ (b ≡ k → ⊥) → In hs b ↔ (Taken b → ⊥)
      exact b l h (inl e) = (λ m. subst (λ c. Taken c → ⊥) (sym e) free, λ f. back b (inl e))
      exact b l h (inr n) =
          let up : suc k ≤ b = omega arith in
          (λ m. ⊎_elim (λ e. absurd (n e)) (λ i. (G.exactly b up h).0 i) (to b m), λ f. back b (inr ((G.exactly b up h).1 f)))

  -- it makes a gap, or the first gap longer
  glued : (k : ℕ) → k < capacity → (Taken k → ⊥) → (gs : List Stretch) → GapsFrom (suc k) gs → (hs : List Stretch) × GapsFrom k hs
  glued k inside free [] G =
      let hs : List Stretch = record { start = k; end = suc k } ∷ [] in (
        hs,
        with_byte k [] hs G free (tt, tt) ((omega arith, omega arith, omega arith), tt)
            (λ b. λ m. ⊎_elim (λ c. inl (omega arith)) inr m) (λ b. ⊎_elim (λ e. inl (omega arith, omega arith)) inr),
      )
  glued k inside free (g ∷ gs) G = joined (cases_eq g.start (suc k))
    where
      joined : (g.start ≡ suc k) ⊎ (g.start ≡ suc k → ⊥) → (hs : List Stretch) × GapsFrom k hs
      joined (inl e) =
          let first : Stretch = record { start = k; end = g.end } in
          let w = G.each.0 in (
            first ∷ gs,
            with_byte k (g ∷ gs) (first ∷ gs) G free G.spaced (
              (omega arith, omega arith, omega arith),
              All-weaker (λ h. (suc k ≤ h.start) × (h.start < h.end) × (h.end ≤ capacity)) (λ h. (k ≤ h.start) × (h.start < h.end) × (h.end ≤ capacity))
                  (λ h v. (omega arith, v.1, v.2)) gs G.each.1,
            )
                (λ b. ⊎_elim (λ c. ⊎_elim inl (λ n. inr (inl (omega arith, omega arith))) (cases_eq b k)) (λ m. inr (inr m)))
                (λ b. ⊎_elim (λ q. inl (omega arith, omega arith)) (⊎_elim (λ c. inl (omega arith, omega arith)) inr)),
          )
      joined (inr n) =
          let first : Stretch = record { start = k; end = suc k } in
          let w = G.each.0 in (
            first ∷ g ∷ gs,
            with_byte k (g ∷ gs) (first ∷ g ∷ gs) G free
                ((omega arith, All-weaker (λ h. g.end < h.start) (λ h. suc k < h.start) (λ h l. omega arith) gs G.spaced.0), G.spaced) (
                  (omega arith, omega arith, omega arith),
                  All-weaker (λ h. (suc k ≤ h.start) × (h.start < h.end) × (h.end ≤ capacity)) (λ h. (k ≤ h.start) × (h.start < h.end) × (h.end ≤ capacity))
                      (λ h v. (omega arith, v.1, v.2)) (g ∷ gs) G.each,
                )
                (λ b. ⊎_elim (λ c. inl (omega arith)) inr)
                (λ b. ⊎_elim (λ e. inl (omega arith, omega arith)) inr),
          )

  gaps_above : (n k : ℕ) → k + n ≡ capacity → (gs : List Stretch) × GapsFrom k gs
  gaps_above zero k e = ([], record { spaced = tt; each = tt; exactly = λ b l h. absurd (omega arith) })
  gaps_above (suc n) k e = next (gaps_above n (suc k) (omega arith)) (taken? k)
    where
      next : ((gs : List Stretch) × GapsFrom (suc k) gs) → Decided (Taken k) → (gs : List Stretch) × GapsFrom k gs
      next (gs, G) (inr free) = glued k (omega arith) free gs G
      next (gs, G) (inl t) = (
        gs,
        record {
          spaced = G.spaced;
          each =
              All-weaker (λ h. (suc k ≤ h.start) × (h.start < h.end) × (h.end ≤ capacity)) (λ h. (k ≤ h.start) × (h.start < h.end) × (h.end ≤ capacity))
              (λ h v. (omega arith, v.1, v.2)) gs G.each;
          exactly = λ b l h. exact b l h (cases_eq b k);
        },
      )
        where
          above : (b : ℕ) (hs : List Stretch) → Every (λ g. (suc k ≤ g.start) × (g.start < g.end) × (g.end ≤ capacity)) hs → In hs b → suc k ≤ b
          above b [] w m = absurd m
          above b (h ∷ hs) w (inl c) = let v = w.0 in omega arith
          above b (h ∷ hs) w (inr m) = above b hs w.1 m

          exact : (b : ℕ) → k ≤ b → b < capacity → (b ≡ k) ⊎ (b ≡ k → ⊥) → In gs b ↔ (Taken b → ⊥)
          exact b l h (inl q) =
              (λ m. let a = above b gs G.each m in absurd (omega arith), λ f. absurd (f (subst Taken (sym q) t)))
          exact b l h (inr n) = G.exactly b (omega arith) h

  -- decided bytes leave gaps
  pub gaps_exist : (gs : List Stretch) × Gaps capacity Taken gs
  gaps_exist =
      let found = gaps_above capacity 0 (omega arith) in
      let gs = found.0 in
      let G = found.1 in (
        gs,
        record {
          spaced = G.spaced;
          each =
              All-weaker (λ h. (0 ≤ h.start) × (h.start < h.end) × (h.end ≤ capacity)) (λ h. (h.start < h.end) × (h.end ≤ capacity)) (λ h v. (v.1, v.2)) gs
              G.each;
          exactly = λ b h. G.exactly b (omega arith) h;
        },
      )

pub gaps_exist_once : GapsExistOnce
gaps_exist_once capacity blocked =
    let T : ℕ → Type 0 = Blocked blocked in
    let found = gaps_exist capacity T (λ b. any_decided (λ s. Covers s b) (λ s. covers? s b) blocked) in
    record {
      gaps = found.0;
      are_gaps = found.1;
      only = λ others H. gaps_alike capacity T T (λ b t. t) (λ b t. t) others found.0 H found.1;
    }
