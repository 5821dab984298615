-- Objects that go where the rule says: within the bank, on the grain, and off the bytes of what excludes them.
use Rattle.std.proofs.Common.{◌≡◌, ℕ, ◌+◌, ◌^◌, ◌<◌, ◌≤◌, ◌⊎◌, List, Some, None, Option, sym, refl, ap, ◌∙◌, subst, inl, inr, ⊎_elim, arith, pow_pos}
use Rattle.std.specs.Option.{option_map}
use Rattle.std.proofs.lemmas.Bool.{cases_Bool}
use Rattle.rules.specs.declared.memory.Stretch.{Stretch}
use Rattle.rules.specs.Lists.{◌∈◌}
use Rattle.rules.specs.Stretches.{Gaps, Covers, OnGrain}
use Rattle.rules.specs.Fitting.{Rule, IsFitRule, Answers, Holds, place_in, answer_from, OnTheTable}
use Rattle.rules.specs.Fabrics.{Meaning}
use Rattle.rules.specs.Sheets.{Sheet}
use Rattle.rules.specs.Placing.{Bank, SoundBank, Places, Earlier, LiesOn, Taken, ByTheRule}
use Rattle.rules.specs.Layouts.{home, bank_of, Layout, LaidOut}
use Rattle.rules.specs.PlacingLaws.{LaidOutIsSound}
use Rattle.rules.proofs.Members.{any_at}
use Rattle.rules.proofs.Joined.{some_one}
use Rattle.rules.proofs.Rounding.{up_on_grain, up_above}
use Rattle.rules.proofs.GapLists.{gap_within}
use Rattle.rules.proofs.Turns.{one_is_earlier}
use Rattle.rules.proofs.Banks.{in_bank, bank_is_sound}
use Rattle.rules.proofs.Asking.{asks_proper}

-- a grain on the table is not 0
pub grain_above_zero : (grain : ℕ) → OnTheTable grain → 0 < grain
grain_above_zero grain t = let e = t.2 in let some : 0 < 2 ^ t.0 = pow_pos t.0 in omega arith

-- a value is not both there and absent
pub some_or_none : {A : Type 0} (o : Option A) (a : A) → o ≡ Some a → o ≡ None → ⊥
some_or_none o a s n = let z : ◌≡◌ {A = ℕ} 0 1 = cc in omega arith

-- the answer that gives the place p takes a gap that holds the size, at its rounded start
taken_gap : (gs : List Stretch) (size grain p : ℕ) (o : Option (ℕ × ℕ)) → Answers gs size grain o → Some p ≡ option_map (λ a. a.0) o →
    (g : Stretch) × (g ∈ gs) × Holds g size grain × (p ≡ place_in g grain)
taken_gap gs size grain p None a e = absurd (some_or_none (Some p) p refl e)
taken_gap gs size grain p (Some (q, left)) a e =
    let r = some_one (λ g. Holds g size grain × (◌≡◌ {A = ℕ × ℕ} (q, left) (answer_from g size grain))) gs a in
    let same : p ≡ q = cc in
    (r.0, r.1, r.2.0, same ∙ ap (λ (b : ℕ × ℕ). b.0) r.2.1)

-- the place p of x is the rounded start of a gap that x sees and that holds it
pub record ItsGap (bank : Bank) (places : Places) (x p : ℕ) : Type 0 where
  pub gaps : List Stretch
  pub are_gaps : Gaps bank.capacity (Taken bank places x) gaps
  pub gap : Stretch
  pub one_of : gap ∈ gaps
  pub holds : Holds gap (bank.size x) bank.grain
  pub place : p ≡ place_in gap bank.grain

module _ (bank : Bank) (sound : SoundBank bank) (places : Places) where
  -- an object that goes by a fit rule has such a gap
  pub its_gap : (rule : Rule) → IsFitRule rule → (x p : ℕ) → x ∈ bank.objects → ByTheRule bank rule places x → places x ≡ Some p →
      ItsGap bank places x p
  its_gap rule lawful x p m (gs, G, e) placed =
      let proper = asks_proper bank sound places x m gs G in
      let t = taken_gap gs (bank.size x) bank.grain p (rule gs (bank.size x) bank.grain) (lawful gs (bank.size x) bank.grain proper) (sym placed ∙ e) in
      record { gaps = gs; are_gaps = G; gap = t.0; one_of = t.1; holds = t.2; place = t.3 }

  -- its place is on the grain
  pub on_the_grain : (x p : ℕ) → ItsGap bank places x p → OnGrain bank.grain p
  on_the_grain x p i = subst (OnGrain bank.grain) (sym i.place) (up_on_grain bank.grain i.gap.start)

  -- it ends within the bank
  pub within_the_bank : (x p : ℕ) → ItsGap bank places x p → p + bank.size x ≤ bank.capacity
  within_the_bank x p i =
      let w = gap_within bank.capacity (Taken bank places x) i.gaps i.are_gaps i.gap i.one_of in
      omega (arith, i.place, i.holds)

  -- the bytes of its place are not taken
  pub in_its_gap : (x p : ℕ) → ItsGap bank places x p → (b : ℕ) → p ≤ b → b < p + bank.size x → Taken bank places x b → ⊥
  in_its_gap x p i b l h =
      let w = gap_within bank.capacity (Taken bank places x) i.gaps i.are_gaps i.gap i.one_of in
      let above = up_above bank.grain i.gap.start (grain_above_zero bank.grain sound.grain_on_the_table) in
      (i.are_gaps.exactly b (omega (arith, i.place, i.holds))).0
      (any_at (λ g. Covers g b) i.gap i.gaps i.one_of (omega (arith, i.place), omega (arith, i.place, i.holds)))

  -- objects that exclude each other share no byte
  pub no_shared_byte : (rule : Rule) → IsFitRule rule → (x y : ℕ) → x ∈ bank.objects → y ∈ bank.objects →
      ByTheRule bank rule places x → ByTheRule bank rule places y →
      bank.Excludes x y → (b : ℕ) → LiesOn bank places x b → LiesOn bank places y b → ⊥
  no_shared_byte rule lawful x y m i by-x by-y e b on-x on-y = by (one_is_earlier bank x y)
    where
      off : (u v : ℕ) → u ∈ bank.objects → v ∈ bank.objects → ByTheRule bank rule places v → Earlier bank u v → bank.Excludes u v →
          LiesOn bank places u b → LiesOn bank places v b → ⊥
      off u v m i by-v early k on-u (p, placed, l, h) = in_its_gap v p (its_gap rule lawful v p i by-v placed) b l h (u, m, early, k, on-u)

      by : (x ≡ y) ⊎ (Earlier bank x y ⊎ Earlier bank y x) → ⊥
      by (inl same) = sound.never_itself x (subst (bank.Excludes x) (sym same) e)
      by (inr (inl early)) = off x y m i by-y early e on-x on-y
      by (inr (inr early)) = off y x i m by-x early (sound.both_ways x y e) on-y on-x

-- an object with a place in a bank has its home there
pub placed_at_home : (s : Sheet) (m : Meaning) (rule : Rule) (places : Layout) → LaidOut s m rule places →
    (b x p : ℕ) → places b x ≡ Some p → x ∈ (bank_of s m b).objects
placed_at_home s m rule places L b x p e =
    ⊎_elim (in_bank s m b x) (λ f. absurd (some_or_none (places b x) p e (L.nowhere_else b x f))) (cases_Bool (home s m b x))

pub laid_out_is_sound : LaidOutIsSound
laid_out_is_sound s m rule places P lawful L =
    record {
      each_home_has_a_place = λ b x l h. L.full b l x (in_bank s m b x h);
      on_the_grain = λ b x p l e. on_the_grain (bank_of s m b) (sound b l) (places b) x p (gap b l x p e);
      within_the_bank = λ b x p l e. within_the_bank (bank_of s m b) (sound b l) (places b) x p (gap b l x p e);
      excluding_share_no_byte = λ b x y l k byte on-x on-y.
          let i = home_of b x on-x.0 on-x.1 in
          let j = home_of b y on-y.0 on-y.1 in
          no_shared_byte (bank_of s m b) (sound b l) (places b) rule lawful x y i j (L.by_the_rule b l x i) (L.by_the_rule b l y j) k byte on-x on-y;
    }
  where
    sound : (b : ℕ) → b < m.banks → SoundBank (bank_of s m b)
    sound b l = bank_is_sound s m b P l

    home_of : (b x p : ℕ) → places b x ≡ Some p → x ∈ (bank_of s m b).objects
    home_of = placed_at_home s m rule places L

    gap : (b : ℕ) → b < m.banks → (x p : ℕ) → places b x ≡ Some p → ItsGap (bank_of s m b) (places b) x p
    gap b l x p e =
        let i = home_of b x p e in its_gap (bank_of s m b) (sound b l) (places b) rule lawful x p i (L.by_the_rule b l x i) e
