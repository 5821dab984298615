-- All banks, one after another.

use Rattle.std.proofs.Common.{◌≡◌, ℕ, zero, suc, ◌+◌, ◌%◌, ◌^◌, ◌<◌, ◌≤◌, Bool, true, false, cond, ◌&&◌, eqb, ltb, List, [], ◌∷◌, ◌++◌, map, length, get_or, filter, sym, refl, ap, ◌∙◌, subst, ⊎_elim, arith, below_more}
use native.Mathlib.Nat.{zero-div}
use Rattle.std.proofs.lemmas.List.{map_push, length-map, get_or-map, get_or_past, get_or_append_left, get_or_push}
use Rattle.std.proofs.lemmas.Bool.{lt-ltb, le-ltb, cases_lt, both_ways, cond-true, cond-false}
use Rattle.rules.specs.Lists.{numbers_from}
use Rattle.rules.specs.Fitting.{Rule}
use Rattle.rules.specs.Fabrics.{Meaning, member}
use Rattle.rules.specs.Placing.{Bank, Places, Placing, Full, LacksSpace}
use Rattle.layout.specs.declared.faults.LayoutFault.{LayoutFault}
use Rattle.layout.specs.declared.faults.LayoutFault.TheVariants.{NoGap, ShortMemory}
use Rattle.layout.specs.declared.spots.Spot.{Spot}
use Rattle.layout.specs.declared.plan_layout.BankUse.{BankUse}
use Rattle.layout.specs.Banks.{bank_over}
use Rattle.layout.specs.Spots.{homes_of, place_in}
use Rattle.layout.specs.Turns.{objects_below, objects_at}
use Rattle.layout.specs.Worlds.{World, home_in, bank_at, homes_below, use_at, Settled, SettledBelow, FitBelow, Next, Unsettled, NotSettled, LacksRoom, LacksMemory}
use Rattle.layout.proofs.Gathers.{numbers_push, kept_few}
use Rattle.layout.proofs.Settling.{settled_alike}

-- no number is in the empty set
pub none_in_none : (b : ℕ) → member 0 b ≡ false
none_in_none b = ap (λ n. eqb (n % 2) 1) (zero-div (2 ^ b))

-- an object with a home is known
pub home_known : (homes : List ℕ) (x b : ℕ) → member (get_or homes x 0) b ≡ true → x < length homes
home_known homes x b h =
    ⊎_elim (λ l. l) (λ l. absurd (both_ways (member (get_or homes x 0) b) (ap (λ s. member s b) (get_or_past homes x 0 l) ∙ none_in_none b) h)) (cases_lt x (length homes))

length_numbers : (k m : ℕ) → length (numbers_from k m) ≡ m
length_numbers k zero = refl
length_numbers k (suc m) = ap suc (length_numbers (suc k) m)

get_or_numbers : (k m x : ℕ) → x < m → get_or (numbers_from k m) x 0 ≡ k + x
get_or_numbers k zero x l = absurd (omega arith)
get_or_numbers k (suc m) zero l = omega arith
get_or_numbers k (suc m) (suc x) l = let e = get_or_numbers (suc k) m x (omega arith) in e ∙ omega arith

-- tests that agree below the end keep the same
pub kept_same : (p q : ℕ → Bool) (k n : ℕ) → ((x : ℕ) → x < k + n → p x ≡ q x) → filter p (numbers_from k n) ≡ filter q (numbers_from k n)
kept_same p q k zero same = refl
kept_same p q k (suc n) same =
    ap (λ b. cond b (k ∷ filter p (numbers_from (suc k) n)) (filter p (numbers_from (suc k) n))) (same k (omega arith))
    ∙ ap (λ r. cond (q k) (k ∷ r) r) (kept_same p q (suc k) n (λ x l. same x (omega arith)))

module _ (w : World) (m : Meaning) where
  -- the homes of one object more
  pub homes_push : (x : ℕ) → homes_below w m (x + 1) ≡ homes_below w m x ++ m.homes (w.touched x) ∷ []
  homes_push x =
      let one : x + 1 ≡ suc x = omega arith in
      let e : 0 + x ≡ x = omega arith in
      ap (homes_below w m) one ∙ ap (map (λ y. m.homes (w.touched y))) (numbers_push 0 x ∙ ap (λ n. numbers_from 0 x ++ n ∷ []) e)
      ∙ map_push (λ y. m.homes (w.touched y)) (numbers_from 0 x) x

  pub homes_length : (n : ℕ) → length (homes_below w m n) ≡ n
  homes_length n = length-map (numbers_from 0 n) (λ y. m.homes (w.touched y)) ∙ length_numbers 0 n

  pub homes_at : (n x : ℕ) → x < n → get_or (homes_below w m n) x 0 ≡ m.homes (w.touched x)
  homes_at n x l =
      let in_range : x < length (numbers_from 0 n) = omega (arith, length_numbers 0 n) in
      let e : 0 + x ≡ x = omega arith in
      get_or-map (λ y. m.homes (w.touched y)) (numbers_from 0 n) x 0 0 in_range ∙ ap (λ y. m.homes (w.touched y)) (get_or_numbers 0 n x l ∙ e)

  -- the objects of a bank by the homes, and by the world
  pub same_objects : (b : ℕ) → objects_at (homes_below w m w.count) b ≡ filter (home_in w m b) (numbers_from 0 w.count)
  same_objects b =
      ap (objects_below (homes_below w m w.count) b) (homes_length w.count)
      ∙ kept_same (λ x. member (get_or (homes_below w m w.count) x 0) b) (home_in w m b) 0 w.count
      (λ x l. let below : x < w.count = omega arith in
      ap (λ s. member s b) (homes_at w.count x below) ∙ sym (ap (λ t. t && member (m.homes (w.touched x)) b) (lt-ltb x w.count below)))

  -- memory for all objects is enough for those of each bank
  pub enough_memory : (rule : Rule) (grain room : ℕ) → w.count ≤ room → LacksMemory w m rule grain room → ⊥
  enough_memory rule grain room l lacks =
      let e = ap length (same_objects lacks.b) in
      let few = kept_few (homes_below w m w.count) lacks.b (length (homes_below w m w.count)) in
      omega (arith, lacks.short, e, few, homes_length w.count)

  module _ (rule : Rule) (grain room b : ℕ) (spots : List Spot) (known : homes_of spots ≡ homes_below w m w.count) where
    same_bank : objects_at (homes_of spots) b ≡ filter (home_in w m b) (numbers_from 0 w.count)
    same_bank = ap (λ hs. objects_at hs b) known ∙ same_objects b

    -- the bank by the homes of its objects
    abbrev asked : ℕ → Bank
    asked c = bank_over w.sizes w.excluding c grain (objects_at (homes_of spots) b)

    module _ (banks : List BankUse) (before : SettledBelow w m rule grain banks spots b) (fit : FitBelow w m grain room b) (counted : length banks ≡ b)
        (capacity : ℕ) (sized : capacity ≡ m.capacity b) where
      over : (P : Bank → Type 0) → P (asked capacity) → P (bank_at w m grain b)
      over P h = subst (λ xs. P (bank_over w.sizes w.excluding (m.capacity b) grain xs)) same_bank (subst (λ c. P (asked c)) sized h)

      -- one bank more
      pub settled_more : (more : List BankUse) (table : List Spot) → Next (asked capacity) rule room b banks spots more table → SettledBelow w m rule grain more table (b + 1)
      settled_more more table got =
          let next = over (λ k. Next k rule room b banks spots more table) got in
          below_more _ _
          (λ c l.
          let other : c ≡ b → ⊥ = λ e. omega arith in
          let kept : use_at more c ≡ use_at banks c =
          ap (λ us. use_at us c) next.pushed ∙ get_or_append_left banks (next.used ∷ []) (record { capacity = 0; footprint = 0 }) c (omega arith) in
          subst (Settled (bank_at w m grain c) rule (place_in table c)) (sym kept)
          (settled_alike (bank_at w m grain c) rule (place_in spots c) (place_in table c) (use_at banks c) (λ x i. sym (next.others c other x)) (before c l)))
          (let own : use_at more b ≡ next.used =
          ap (λ us. use_at us b) next.pushed ∙ get_or_push banks next.used (record { capacity = 0; footprint = 0 }) b counted in
          subst (Settled (bank_at w m grain b) rule (place_in table b)) (sym own) next.settled)

      pub fit_more : (more : List BankUse) (table : List Spot) → Next (asked capacity) rule room b banks spots more table → FitBelow w m grain room (b + 1)
      fit_more more table got = below_more _ _ fit (over (λ k. Next k rule room b banks spots more table) got).fits

      -- the places so far, with those of the bank that lacks space
      here : (at : Places) (c : ℕ) → ltb c b ≡ false → cond (ltb c b) (place_in spots c) at ≡ at
      here at c e = cond-false (ltb c b) (place_in spots c) at e

      there : (at : Places) (c : ℕ) → ltb c b ≡ true → cond (ltb c b) (place_in spots c) at ≡ place_in spots c
      there at c e = cond-true (ltb c b) (place_in spots c) at e

      room_lacks : b < m.banks → (x : ℕ) (at : Places) → LacksSpace (bank_at w m grain b) rule at x → LacksRoom w m rule grain x b
      room_lacks l x at lacks =
          record {
            bank = l;
            places = λ c. cond (ltb c b) (place_in spots c) at;
            lacks = subst (λ p. LacksSpace (bank_at w m grain b) rule p x) (sym (here at b (le-ltb b b (omega arith)))) lacks;
            lower_by_the_rule = λ c k. subst (λ p. Placing (bank_at w m grain c) rule p) (sym (there at c (lt-ltb c b k))) (before c k).placing;
            lower_full = λ c k. subst (λ p. Full (bank_at w m grain c) p) (sym (there at c (lt-ltb c b k))) (before c k).full;
          }

      -- a bank that is not settled
      pub not_settled : b < m.banks → (e : LayoutFault) → Unsettled (asked capacity) rule room b e → NotSettled w m rule grain room e
      not_settled l (NoGap x c) (same, fits, (at, got)) =
          let lacks = over (λ k. LacksSpace k rule at x) got in
          let long = over (λ k. length k.objects ≤ room) fits in
          subst (λ d. LacksRoom w m rule grain x d × FitBelow w m grain room (d + 1)) (sym same) (room_lacks l x at lacks, below_more _ _ fit long)
      not_settled l ShortMemory got =
          record {
            b = b;
            bank = l;
            short = over (λ k. room < length k.objects) got;
            lower_fit = fit;
            places = λ c. place_in spots c;
            lower_by_the_rule = λ c k. (before c k).placing;
            lower_full = λ c k. (before c k).full;
          }
