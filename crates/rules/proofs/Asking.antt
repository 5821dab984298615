-- What an object asks at its turn is a proper question, whatever the places.
use Rattle.std.proofs.Common.{◌≡◌, ℕ, suc, ◌+◌, ◌-◌, ◌<◌, ◌≤◌, List, [], ◌∷◌, length, Some, None, Option, sym, refl, subst, inl, inr, ⊎_elim, arith}
use Rattle.std.proofs.ByRecursion.{All-weaker}
use Rattle.std.proofs.lemmas.Bool.{cases_lt}
use Rattle.rules.specs.declared.memory.Stretch.{Stretch}
use Rattle.rules.specs.Lists.{◌∈◌, Every, total}
use Rattle.rules.specs.Stretches.{Spaced, Gaps, Covers}
use Rattle.rules.specs.Fitting.{Ascending, OnTheTable, Proper}
use Rattle.rules.specs.Placing.{Bank, SoundBank, Places, Earlier, Taken}
use Rattle.rules.specs.PlacingLaws.{PlacingAsksProperQuestions}
use Rattle.rules.proofs.Deciding.{Decided, both, below}
use Rattle.rules.proofs.Given.{given, given_yes, given_no, given_most, given_more}
use Rattle.rules.proofs.Members.{any_at}
use Rattle.rules.proofs.Totals.{total_more, total_step, total_ones}
use Rattle.rules.proofs.Turns.{earlier?, turn, up_to_all, up_to_earlier}
use Rattle.rules.proofs.GapLists.{gap_within, no_byte_beside}
use Rattle.rules.proofs.Banks.{bank_is_sound}

-- spaced gaps ascend
pub spaced_ascending : (gs : List Stretch) → Spaced gs → Ascending gs
spaced_ascending [] s = tt
spaced_ascending (g ∷ gs) s =
    (All-weaker (λ h. g.end < h.start) (λ h. g.end ≤ h.start) (λ h l. omega arith) gs s.0, spaced_ascending gs s.1)

module _ (bank : Bank) (places : Places) (x : ℕ) where
  -- an earlier object of the bank that excludes x ends at byte n
  pub record EndsAt (n y p : ℕ) : Type 0 where
    pub of_the_bank : y ∈ bank.objects
    pub earlier : Earlier bank y x
    pub excludes : bank.Excludes y x
    pub placed : places y ≡ Some p
    pub ends : p + bank.size y ≡ n

  -- a gap that x sees starts at 0, or where such an object ends
  pub starts_at_an_end : (gs : List Stretch) → Gaps bank.capacity (Taken bank places x) gs → (g : Stretch) → g ∈ gs →
      0 < g.start → ((y p : ℕ) → EndsAt g.start y p → ⊥) → ⊥
  starts_at_an_end gs G g i some none =
      let w = gap_within bank.capacity (Taken bank places x) gs G g i in
      let b = g.start - 1 in
      no_byte_beside bank.capacity (Taken bank places x) gs G g i b (inl (omega arith)) ((G.exactly b (omega arith)).1 (λ t. taken w t))
    where
      taken : (g.start < g.end) × (g.end ≤ bank.capacity) → Taken bank places x (g.start - 1) → ⊥
      taken w (y, m, e, k, (p, q, l, h)) =
          let free : Taken bank places x g.start → ⊥ =
          (G.exactly g.start (omega arith)).0 (any_at (λ f. Covers f g.start) g gs i (omega arith, omega arith))
          in
          ⊎_elim
          (λ past. free (y, m, e, k, (p, q, omega arith, past)))
          (λ here. none y p (record { of_the_bank = m; earlier = e; excludes = k; placed = q; ends = omega arith }))
          (cases_lt g.start (p + bank.size y))

  -- the end of an object, 0 if it has no place
  end_at : ℕ → Option ℕ → ℕ
  end_at y None = 0
  end_at y (Some p) = p + bank.size y

  -- counts an object that is earlier than x and ends at n or above
  counts? : (n y : ℕ) → Decided (Earlier bank y x × (n < suc (end_at y (places y))))
  counts? n y = both (earlier? bank y x) (λ e. below n (suc (end_at y (places y))))

  count : ℕ → ℕ
  count n = total (λ y. given (counts? n y) 1) bank.objects

  count_less : (m n : ℕ) → n ≤ m → count m ≤ count n
  unfolding count
  count_less m n l =
      total_more (λ y. given (counts? m y) 1) (λ y. given (counts? n y) 1) bank.objects
      (λ y. given_more (counts? m y) (counts? n y) 1 (λ c. (c.0, omega arith)))

  -- an object that ends at n counts at n and not above
  count_step : (n y p : ℕ) → EndsAt n y p → count (suc n) + 1 ≤ count n
  unfolding count end_at
  count_step n y p at =
      let here = given_yes (counts? n y) 1 (at.earlier, subst (λ o. n < suc (end_at y o)) (sym at.placed) end_here) in
      let none = given_no (counts? (suc n) y) 1 (λ c. not_above c.1) in
      total_step (λ z. given (counts? (suc n) z) 1) (λ z. given (counts? n z) 1) 1 y bank.objects
      (λ z. given_more (counts? (suc n) z) (counts? n z) 1 (λ c. (c.0, omega arith))) at.of_the_bank (omega arith)
    where
      end_here : n < suc (end_at y (Some p))
      end_here = let e = at.ends in omega arith

      not_above : suc n < suc (end_at y (places y)) → ⊥
      not_above l = let k = subst (λ o. suc n < suc (end_at y o)) at.placed l in let e = at.ends in omega arith

  module _ (gs : List Stretch) (G : Gaps bank.capacity (Taken bank places x) gs) where
    -- each gap that starts above 0 takes one such object
    few_above : (n : ℕ) (hs : List Stretch) → Spaced hs → ((h : Stretch) → h ∈ hs → h ∈ gs) → Every (λ h. n < h.start) hs → length hs ≤ count (suc n)
    few_above n [] s sub from = omega arith
    few_above n (h ∷ hs) s sub from =
        let i = sub h (inl refl) in
        let w = gap_within bank.capacity (Taken bank places x) gs G h i in
        let l = from.0 in
        let rest = few_above h.end hs s.1 (λ k j. sub k (inr j)) s.0 in
        let less = count_less (suc h.end) (suc h.start) (omega arith) in
        let all = count_less h.start (suc n) (omega arith) in
        ⊎_elim
        (λ short. absurd (starts_at_an_end gs G h i (omega arith) (λ y p at. let step = count_step h.start y p at in omega arith)))
        (λ enough. enough)
        (cases_lt (count (suc n)) (length (h ∷ hs)))

  -- x sees at most as many gaps as turns so far
  pub few_gaps : (gs : List Stretch) → Gaps bank.capacity (Taken bank places x) gs → x ∈ bank.objects → length gs ≤ turn bank x
  unfolding count
  few_gaps [] G m = omega arith
  few_gaps (g ∷ gs) G m =
      let w = gap_within bank.capacity (Taken bank places x) (g ∷ gs) G g (inl refl) in
      let rest = few_above (g ∷ gs) G g.end gs G.spaced.1 (λ h i. inr i) G.spaced.0 in
      let earlier : count (suc g.end) + 1 ≤ turn bank x = counted (suc g.end) m in
      omega arith
    where
      counted : (n : ℕ) → x ∈ bank.objects → count n + 1 ≤ turn bank x
      counted n m =
          up_to_earlier bank (λ y. given (counts? n y) 1) (λ y. 1) x m (λ y. given_most (counts? n y) 1)
          (λ y late. given_no (counts? n y) 1 (λ c. late c.0))

-- a question about few gaps of a bank is proper
pub gaps_proper : (capacity : ℕ) (Taken : ℕ → Type 0) (gs : List Stretch) (size grain : ℕ) → Gaps capacity Taken gs → capacity ≤ 4294967295 →
    (0 < size) × (size ≤ 16777216) → OnTheTable grain → length gs ≤ 256 → Proper gs size grain
gaps_proper capacity Taken gs size grain G in-range sized grained few =
    record {
      size_in_range = sized;
      grain_on_the_table = grained;
      gaps_in_range =
          All-weaker (λ g. (g.start < g.end) × (g.end ≤ capacity)) (λ g. (g.start < g.end) × (g.end ≤ 4294967295)) (λ g w. (w.0, omega arith)) gs G.each;
      ascending = spaced_ascending gs G.spaced;
      few = few;
    }

-- what an object asks at its turn is a proper question
pub asks_proper : (bank : Bank) → SoundBank bank → (places : Places) (x : ℕ) → x ∈ bank.objects →
    (gs : List Stretch) → Gaps bank.capacity (Taken bank places x) gs → Proper gs (bank.size x) bank.grain
asks_proper bank sound places x m gs G =
    let few = few_gaps bank places x gs G m in
    let all = up_to_all bank (λ y. 1) x in
    let ones = total_ones bank.objects in
    gaps_proper bank.capacity (Taken bank places x) gs (bank.size x) bank.grain G (omega (arith, sound.capacity_in_range)) (sound.sizes_in_range x m)
    sound.grain_on_the_table (omega (arith, sound.few_objects))

pub placing_asks_proper_questions : PlacingAsksProperQuestions
placing_asks_proper_questions s m p b l places x i gs G = asks_proper _ (bank_is_sound s m b p l) places x i gs G
