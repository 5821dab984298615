-- A sweep over blocked stretches, in the order of their starts, finds the gaps.
use Rattle.std.proofs.Common.{ℕ, ◌<◌, ◌≤◌, min, max, ◌⊎◌, List, [], ◌∷◌, ◌++◌, inl, inr, ⊎_elim, arith}
use Rattle.std.proofs.ByRecursion.{All-weaker, All-push}
use Rattle.std.proofs.lemmas.Bool.{cases_lt}
use Rattle.rules.specs.declared.memory.Stretch.{Stretch}
use Rattle.rules.specs.Stretches.{Every, Covers, Spaced, Gaps, Blocked}
use Rattle.rules.proofs.Joined.{any_cases, any_left, any_right}
use Rattle.rules.proofs.GapLists.{In, Within}

-- what holds of all of a list holds of those before the last, and of the last
all_but_last : {X : Type 0} (P : X → Type 0) (xs : List X) (x : X) → Every P (xs ++ x ∷ []) → Every P xs × P x
all_but_last P [] x a = (tt, a.0)
all_but_last P (y ∷ ys) x a = let rest = all_but_last P ys x a.1 in ((a.0, rest.0), rest.1)

-- one gap more, behind all others
pub spaced_push : (gs : List Stretch) (g : Stretch) → Spaced gs → Every (λ h. h.end < g.start) gs → Spaced (gs ++ g ∷ [])
spaced_push [] g s behind = (tt, tt)
spaced_push (h ∷ hs) g s behind = (All-push (λ k. h.end < k.start) hs g s.0 behind.0, spaced_push hs g s.1 behind.1)

-- gs are the gaps below `free` that the stretches done leave, and from `free` on nothing is done
pub record Swept (capacity : ℕ) (done gs : List Stretch) (free : ℕ) : Type 0 where
  pub spaced : Spaced gs
  pub each : Within capacity gs
  pub behind : Every (λ g. g.end < free) gs
  -- the gaps lie below every start that no start done lies above
  pub before : (n : ℕ) → Every (λ s. s.start ≤ n) done → (b : ℕ) → In gs b → b < n
  pub apart : (b : ℕ) → In gs b → Blocked done b → ⊥
  pub seen : (b : ℕ) → b < free → b < capacity → In gs b ⊎ Blocked done b
  pub reach : (b : ℕ) → Blocked done b → b < free

-- at the start
pub swept_none : (capacity : ℕ) → Swept capacity [] [] 0
swept_none capacity =
    record {
      spaced = tt;
      each = tt;
      behind = tt;
      before = λ n all b m. absurd m;
      apart = λ b m t. m;
      seen = λ b l h. absurd (omega arith);
      reach = λ b t. absurd t;
    }

module _ (capacity : ℕ) (done gs : List Stretch) (free : ℕ) (swept : Swept capacity done gs free) where
  module _ (s : Stretch) (last : Every (λ t. t.start ≤ s.start) done) where
    reach_more : (b : ℕ) → Blocked (done ++ s ∷ []) b → b < max free s.end
    reach_more b t = by (any_cases (λ k. Covers k b) done (s ∷ []) t)
      where
        by : Blocked done b ⊎ Blocked (s ∷ []) b → b < max free s.end
        by (inl t) = let l = swept.reach b t in omega arith
        by (inr (inl c)) = omega arith
        by (inr (inr none)) = absurd none

    apart_more : (b : ℕ) → In gs b → Blocked (done ++ s ∷ []) b → ⊥
    apart_more b m t = by (any_cases (λ k. Covers k b) done (s ∷ []) t)
      where
        by : Blocked done b ⊎ Blocked (s ∷ []) b → ⊥
        by (inl t) = swept.apart b m t
        by (inr (inl c)) = let l = swept.before s.start last b m in omega arith
        by (inr (inr none)) = none

    old : (b : ℕ) → Blocked done b → Blocked (done ++ s ∷ []) b
    old b t = any_left (λ k. Covers k b) done (s ∷ []) t

    new : (b : ℕ) → Covers s b → Blocked (done ++ s ∷ []) b
    new b c = any_right (λ k. Covers k b) done (s ∷ []) (inl c)

    -- a stretch that leaves no gap before it
    pub swept_skip : min s.start capacity ≤ free → Swept capacity (done ++ s ∷ []) gs (max free s.end)
    swept_skip closed =
        record {
          spaced = swept.spaced;
          each = swept.each;
          behind = All-weaker (λ g. g.end < free) (λ g. g.end < max free s.end) (λ g l. omega arith) gs swept.behind;
          before = λ n all b m. swept.before n (all_but_last (λ t. t.start ≤ n) done s all).0 b m;
          apart = apart_more;
          seen = λ b l h.
              ⊎_elim (λ low. ⊎_elim inl (λ t. inr (old b t)) (swept.seen b low h)) (λ high. inr (new b (omega arith, omega arith))) (cases_lt b free);
          reach = reach_more;
        }

    -- one that leaves a gap before it
    pub swept_push : free < min s.start capacity → s.start < s.end →
        Swept capacity (done ++ s ∷ []) (gs ++ record { start = free; end = min s.start capacity } ∷ []) (max free s.end)
    swept_push some filled =
        record {
          spaced = spaced_push gs g swept.spaced swept.behind;
          each = All-push (λ h. (h.start < h.end) × (h.end ≤ capacity)) gs g swept.each (some, omega arith);
          behind =
              All-push (λ h. h.end < max free s.end) gs g
              (All-weaker (λ h. h.end < free) (λ h. h.end < max free s.end) (λ h l. omega arith) gs swept.behind) (omega arith);
          before = λ n all b m.
              let parts = all_but_last (λ t. t.start ≤ n) done s all in
              let below-s = parts.1 in
              one_of b m (λ i. swept.before n parts.0 b i) (λ c. omega arith);
          apart = λ b m t.
              one_of b m (λ i. apart_more b i t)
              (λ c. elim (any_cases (λ k. Covers k b) done (s ∷ []) t) [
                | inl d ↦ let l = swept.reach b d in omega arith
                | inr (inl k) ↦ omega arith
                | inr (inr none) ↦ none
              ]);
          seen = λ b l h.
              ⊎_elim
              (λ low. ⊎_elim (λ i. inl (any_left (λ k. Covers k b) gs (g ∷ []) i)) (λ t. inr (old b t)) (swept.seen b low h))
              (λ high. ⊎_elim
              (λ inside. inl (any_right (λ k. Covers k b) gs (g ∷ []) (inl (high, inside))))
              (λ past. inr (new b (omega arith, omega arith)))
              (cases_lt b (min s.start capacity)))
              (cases_lt b free);
          reach = reach_more;
        }
      where
        g : Stretch
        g = record { start = free; end = min s.start capacity }

        one_of : {R : Type 0} (b : ℕ) → In (gs ++ g ∷ []) b → (In gs b → R) → (Covers g b → R) → R
        one_of {R} b m first second = by (any_cases (λ k. Covers k b) gs (g ∷ []) m)
          where
            by : In gs b ⊎ In (g ∷ []) b → R
            by (inl i) = first i
            by (inr (inl c)) = second c
            by (inr (inr none)) = absurd none

  -- at the end, where nothing is left
  pub swept_full : capacity ≤ free → Gaps capacity (Blocked done) gs
  swept_full all =
      record {
        spaced = swept.spaced;
        each = swept.each;
        exactly = λ b h.
            (swept.apart b, λ untaken. ⊎_elim (λ i. i) (λ t. absurd (untaken t)) (swept.seen b (omega arith) h));
      }

  -- where bytes are left behind all stretches, they are the last gap
  pub swept_rest : free < capacity → Gaps capacity (Blocked done) (gs ++ record { start = free; end = capacity } ∷ [])
  swept_rest some =
      record {
        spaced = spaced_push gs g swept.spaced swept.behind;
        each = All-push (λ h. (h.start < h.end) × (h.end ≤ capacity)) gs g swept.each (some, omega arith);
        exactly = λ b h. (λ m t. from b t (any_cases (λ k. Covers k b) gs (g ∷ []) m), λ untaken. to b h untaken (cases_lt b free));
      }
    where
      g : Stretch
      g = record { start = free; end = capacity }

      from : (b : ℕ) → Blocked done b → In gs b ⊎ In (g ∷ []) b → ⊥
      from b t (inl i) = swept.apart b i t
      from b t (inr (inl c)) = let l = swept.reach b t in omega arith
      from b t (inr (inr none)) = none

      to : (b : ℕ) → b < capacity → (Blocked done b → ⊥) → (b < free) ⊎ (free ≤ b) → In (gs ++ g ∷ []) b
      to b h untaken (inl low) =
          ⊎_elim (λ i. any_left (λ k. Covers k b) gs (g ∷ []) i) (λ t. absurd (untaken t)) (swept.seen b low h)
      to b h untaken (inr high) = any_right (λ k. Covers k b) gs (g ∷ []) (inl (high, h))
