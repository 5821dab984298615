-- What waits in the queue, as actors enter and leave it.
use Rattle.std.proofs.Common.{◌≡◌, ℕ, zero, suc, ◌+◌, ◌<◌, ◌≤◌, Bool, true, false, cond, not, ◌&&◌, ◌||◌, eqb, ltb, ◌⊎◌, List, [], ◌∷◌, length, get_or, sum_by, Ok, Err, Result, is_ok, sym, refl, ap, ◌∙◌, subst, inl, inr, ⊎_elim, arith}
use Rattle.std.specs.List.Sorted.{IsPermutation}
use Rattle.std.proofs.lemmas.List.Sums.{sum_by-cons}
use Rattle.std.proofs.lemmas.List.Sorted.{sum_by-IsPermutation, length_permutation}
use Rattle.std.proofs.ByRecursion.{all_shuffled}
use Rattle.std.proofs.lemmas.Bool.{cases_eq, cases_lt, eq-eqb, ne_eqb, lt-ltb, or_left, or_right, cond-true, cond-false, cases_Bool, both_ways, and_parts, and_left, and_right, and_from, not_from_true, not_from_false, not-true, eqb-true, true≢false}
use Rattle.std.specs.Prelude.{IfOk}
use Rattle.rules.specs.declared.sheet.Link.{Link}
use Rattle.rules.specs.Lists.{Every}
use Rattle.std.specs.List.{range_with_len}
use Rattle.std.proofs.lemmas.List.Sums.{AllPass-from_list_all, list_all-from_AllPass}
use Rattle.std.proofs.lemmas.List.FromFn.{length-range_with_len, get_or-range_with_len}
use Rattle.words.specs.Words.{bit}
use Rattle.graph.specs.Rows.{before}
use Rattle.graph.proofs.Tables.{past_rows}
use Rattle.lean.specs.declared.ready.ReadyActor.{ReadyActor}
use Rattle.lean.specs.Nets.{net_of}
use Rattle.lean.specs.Waiting.{count_of, times, Free, is_free, Queued, Entered}

-- what holds of a call that succeeded
pub given_ok : {A B X : Type 0} (r : Result A B) → is_ok r ≡ true → IfOk r (λ _. X) → X
given_ok (Ok u) e given = given
given_ok (Err f) e given = absurd (true≢false (sym e))

-- ---- how many numbers pass

-- 1 where the test passes
abbrev one : Bool → ℕ
one b = cond b 1 0

one_yes : (b : Bool) → b ≡ true → one b ≡ 1
one_yes b e = cond-true b 1 0 e

one_no : (b : Bool) → b ≡ false → one b ≡ 0
one_no b e = cond-false b 1 0 e

one_most : (b : Bool) → one b ≤ 1
one_most true = omega arith
one_most false = omega arith

pub count_most : (p : ℕ → Bool) (n : ℕ) → count_of p n ≤ n
count_most p zero = omega arith
count_most p (suc n) = let rest = count_most p n in let here = one_most (p n) in omega arith

-- fewer than all where one does not pass
pub count_less : (p : ℕ → Bool) (a n : ℕ) → a < n → p a ≡ false → count_of p n < n
count_less p a zero l e = omega arith
count_less p a (suc n) l e =
    ⊎_elim
    (λ same. let here = one_no (p n) (ap p (sym same) ∙ e) in let rest = count_most p n in omega arith)
    (λ other. let rest = count_less p a n (omega arith) e in let here = one_most (p n) in omega arith)
    (cases_eq a n)

-- all where each passes
pub count_all : (p : ℕ → Bool) (n : ℕ) → ((a : ℕ) → a < n → p a ≡ true) → count_of p n ≡ n
count_all p zero all = refl
count_all p (suc n) all =
    let here = one_yes (p n) (all n (omega arith)) in
    let rest = count_all p n (λ a l. all a (omega arith)) in omega arith

pub count_none : (p : ℕ → Bool) (n : ℕ) → ((a : ℕ) → p a ≡ false) → count_of p n ≡ 0
count_none p zero none = refl
count_none p (suc n) none = let here = one_no (p n) (none n) in let rest = count_none p n none in omega arith

count_same : (p q : ℕ → Bool) (n : ℕ) → ((a : ℕ) → a < n → q a ≡ p a) → count_of q n ≡ count_of p n
count_same p q zero same = refl
count_same p q (suc n) same =
    let here = ap one (same n (omega arith)) in let rest = count_same p q n (λ a l. same a (omega arith)) in omega arith

-- one more that passes
pub count_more : (p q : ℕ → Bool) (a n : ℕ) → a < n → p a ≡ false → q a ≡ true → ((b : ℕ) → (b ≡ a → ⊥) → q b ≡ p b) → count_of q n ≡ suc (count_of p n)
count_more p q a zero l out in' same = absurd (omega arith)
count_more p q a (suc n) l out in' same =
    ⊎_elim
    (λ e.
    let here = one_yes (q n) (ap q (sym e) ∙ in') in
    let gone = one_no (p n) (ap p (sym e) ∙ out) in
    let rest = count_same p q n (λ b k. same b (λ f. omega arith)) in omega arith)
    (λ d.
    let here = ap one (same n (λ f. d (sym f))) in
    let rest = count_more p q a n (omega arith) out in' same in omega arith)
    (cases_eq a n)

-- ---- one number more in a word

module _ (old new a : ℕ) (small : a < 64) (bits : (j : ℕ) → bit new j ≡ (bit old j || (ltb a 64 && eqb a j))) where
  pub word_has : bit new a ≡ true
  word_has = bits a ∙ or_right (bit old a) (ltb a 64 && eqb a a) (and_from (ltb a 64) (eqb a a) (lt-ltb a 64 small) (eq-eqb a a refl))

  pub word_keeps : (j : ℕ) → bit old j ≡ true → bit new j ≡ true
  word_keeps j e = bits j ∙ or_left (bit old j) (ltb a 64 && eqb a j) e

  pub word_same : (j : ℕ) → (j ≡ a → ⊥) → bit new j ≡ bit old j
  word_same j d = bits j ∙ ap (λ t. bit old j || t) (and_right (ltb a 64) (eqb a j) (ne_eqb a j (λ e. d (sym e)))) ∙ or_false (bit old j)
    where
      or_false : (b : Bool) → (b || false) ≡ b
      or_false true = refl
      or_false false = refl

  pub word_cases : (j : ℕ) → bit new j ≡ true → (bit old j ≡ true) ⊎ (j ≡ a)
  word_cases j e = ⊎_elim (λ s. inr s) (λ d. inl (sym (word_same j d) ∙ e)) (cases_eq j a)

-- ---- how often an actor waits

abbrev named : ℕ → ReadyActor → ℕ
named a w = cond (eqb w.actor a) 1 0

times_sum : (a : ℕ) (ws : List ReadyActor) → times a ws ≡ sum_by (named a) ws
times_sum a [] = refl
times_sum a (w ∷ ws) = ap (λ n. named a w + n) (times_sum a ws) ∙ sym (sum_by-cons (named a) w ws)

pub times_moved : (a : ℕ) (ws vs : List ReadyActor) → IsPermutation ws vs → times a vs ≡ times a ws
times_moved a ws vs moved = times_sum a vs ∙ sum_by-IsPermutation (named a) ws vs moved ∙ sym (times_sum a ws)

-- one that waits is there
pub at_times : (P : ReadyActor → Type 0) (a : ℕ) (ws : List ReadyActor) → 0 < times a ws → Every P ws → (w : ReadyActor) × (w.actor ≡ a) × P w
at_times P a [] some all = absurd (omega arith)
at_times P a (w ∷ ws) some all =
    ⊎_elim
    (λ e. (w, eqb-true w.actor a e, all.0))
    (λ e. let none = one_no (eqb w.actor a) e in at_times P a ws (omega arith) all.1)
    (cases_Bool (eqb w.actor a))

-- ---- who is free

module _ (rows : List ℕ) (long : length rows ≡ 64) (listed a : ℕ) where
  abbrev passes : ℕ → Bool
  passes b = not (before rows b a) || bit listed b

  -- by the test, and by the rows
  pub free_told : is_free rows listed a ≡ true → Free rows listed a
  free_told t b h =
      ⊎_elim
      (λ l.
      let at = AllPass-from_list_all passes (range_with_len 0 64) t b 0 (omega (arith, length-range_with_len 0 64)) in
      let same : get_or (range_with_len 0 64) b 0 ≡ b = let e = get_or-range_with_len 0 64 b 0 l in omega arith in
      let here : passes b ≡ true = subst (λ n. passes n ≡ true) same at in
      subst (λ u. (not u || bit listed b) ≡ true) h here)
      (λ l. absurd (both_ways (before rows b a) (past_rows rows b a (omega (arith, long))) h))
      (cases_lt b 64)

  pub free_heard : Free rows listed a → is_free rows listed a ≡ true
  free_heard free = list_all-from_AllPass passes (range_with_len 0 64) (λ k d l. one_by (get_or (range_with_len 0 64) k d) (cases_Bool (before rows (get_or (range_with_len 0 64) k d) a)))
    where
      one_by : (b : ℕ) → (before rows b a ≡ true) ⊎ (before rows b a ≡ false) → passes b ≡ true
      one_by b (inl t) = or_right (not (before rows b a)) (bit listed b) (free b t)
      one_by b (inr f) = or_left (not (before rows b a)) (bit listed b) (ap not f)

-- ---- entering and leaving

abbrev apart : Bool → Bool → Bool
apart e l = e && not l

module _ (links : List Link) (count listed entered : ℕ) (ws vs : List ReadyActor) (q : Queued links count listed entered ws) where
  -- there is room for one that has not entered
  pub room : (a : ℕ) → a < count → bit entered a ≡ false → length ws < count
  room a l e = let less = count_less (bit entered) a count l e in let m = q.many in omega arith

  -- one that enters
  module _ (w : ReadyActor) (new : ℕ) (small : count ≤ 64) (below : w.actor < count) (fresh : bit entered w.actor ≡ false)
      (net : w.net ≡ net_of links w.actor) (bits : (j : ℕ) → bit new j ≡ (bit entered j || (ltb w.actor 64 && eqb w.actor j)))
      (moved : IsPermutation (w ∷ ws) vs) where
    pub queued_more : Queued links count listed new vs
    queued_more =
        record {
          known = λ b e. ⊎_elim (λ o. q.known b o) (λ s. omega arith) (word_cases entered new a tight bits b e);
          within = λ b e. word_keeps entered new a tight bits b (q.within b e);
          nets = all_shuffled (λ v. v.net ≡ net_of links v.actor) (w ∷ ws) vs moved (net, q.nets);
          once = λ b. times_moved b (w ∷ ws) vs moved ∙ ⊎_elim (λ s. here b s) (λ d. there b d) (cases_eq b a);
          many =
              let longer = length_permutation (w ∷ ws) vs moved in
              let counted = count_more (bit entered) (bit new) a count below fresh (word_has entered new a tight bits) (word_same entered new a tight bits) in
              let m = q.many in omega arith;
        }
      where
        a : ℕ
        a = w.actor

        tight : w.actor < 64
        tight = omega arith

        unlisted : bit listed w.actor ≡ false
        unlisted = ⊎_elim (λ t. absurd (both_ways (bit entered w.actor) fresh (q.within w.actor t))) (λ f. f) (cases_Bool (bit listed w.actor))

        here : (b : ℕ) → b ≡ w.actor → cond (eqb w.actor b) 1 0 + times b ws ≡ cond (apart (bit new b) (bit listed b)) 1 0
        here b s =
            let one' = one_yes (eqb w.actor b) (eq-eqb w.actor b (sym s)) in
            let old = q.once b in
            let none = one_no (apart (bit entered b) (bit listed b)) (and_left (bit entered b) (not (bit listed b)) (ap (bit entered) s ∙ fresh)) in
            let now' = one_yes (apart (bit new b) (bit listed b))
            (and_from (bit new b) (not (bit listed b)) (ap (bit new) s ∙ word_has entered new w.actor tight bits) (not_from_false (bit listed b) (ap (bit listed) s ∙ unlisted))) in
            omega arith

        there : (b : ℕ) → (b ≡ w.actor → ⊥) → cond (eqb w.actor b) 1 0 + times b ws ≡ cond (apart (bit new b) (bit listed b)) 1 0
        there b d =
            let none = one_no (eqb w.actor b) (ne_eqb w.actor b (λ e. d (sym e))) in
            let old = q.once b in
            let same = ap (λ t. one (apart t (bit listed b))) (word_same entered new w.actor tight bits b d) in
            omega arith

-- ---- who has entered

pub entered_none : (rows : List ℕ) (listed old : ℕ) → Entered rows listed 0 old old
entered_none rows listed old = record { only = λ a e. inl e; kept = λ a e. e; every = λ a l f. absurd (omega arith) }

-- the next actor has entered already, or is not free
pub entered_skip : (rows : List ℕ) (listed a old all : ℕ) → Entered rows listed a old all → (Free rows listed a → bit all a ≡ true) → Entered rows listed (a + 1) old all
entered_skip rows listed a old all e old-one =
    record {
      only = e.only;
      kept = e.kept;
      every = λ b l f. ⊎_elim
          (λ s. subst (λ n. bit all n ≡ true) (sym s) (old-one (subst (λ n. Free rows listed n) s f)))
          (λ d. e.every b (omega arith) f) (cases_eq b a);
    }

-- the next actor is free and enters
pub entered_more : (rows : List ℕ) (listed a old all new : ℕ) → a < 64 → ((j : ℕ) → bit new j ≡ (bit all j || (ltb a 64 && eqb a j))) →
    Entered rows listed a old all → Free rows listed a → Entered rows listed (a + 1) old new
entered_more rows listed a old all new small bits e free =
    record {
      only = λ b h. ⊎_elim (λ o. e.only b o) (λ s. inr (subst (λ n. Free rows listed n) (sym s) free)) (word_cases all new a small bits b h);
      kept = λ b h. word_keeps all new a small bits b (e.kept b h);
      every = λ b l f. ⊎_elim
          (λ s. subst (λ n. bit new n ≡ true) (sym s) (word_has all new a small bits))
          (λ d. word_keeps all new a small bits b (e.every b (omega arith) f)) (cases_eq b a);
    }

-- ---- leaving

module _ (links : List Link) (count listed entered : ℕ) (ws vs : List ReadyActor) (q : Queued links count listed entered ws)
    (w : ReadyActor) (moved : IsPermutation ws (w ∷ vs)) where
  waits_twice : (b : ℕ) → one (eqb w.actor b) + times b vs ≡ one (apart (bit entered b) (bit listed b))
  waits_twice b = times_moved b ws (w ∷ vs) moved ∙ q.once b

  -- what leaves had entered and is not listed
  pub served : (bit entered w.actor ≡ true) × (bit listed w.actor ≡ false)
  served = parts (cases_Bool (apart (bit entered w.actor) (bit listed w.actor)))
    where
      parts : (apart (bit entered w.actor) (bit listed w.actor) ≡ true) ⊎ (apart (bit entered w.actor) (bit listed w.actor) ≡ false) →
          (bit entered w.actor ≡ true) × (bit listed w.actor ≡ false)
      parts (inl t) =
          let p = and_parts (bit entered w.actor) (not (bit listed w.actor)) t in (p.0, not-true (bit listed w.actor) p.1)
      parts (inr f) =
          let here = one_yes (eqb w.actor w.actor) (eq-eqb w.actor w.actor refl) in
          let none = one_no (apart (bit entered w.actor) (bit listed w.actor)) f in
          let all = waits_twice w.actor in absurd (omega arith)

  pub served_known : w.actor < count
  served_known = q.known w.actor served.0

  pub served_net : w.net ≡ net_of links w.actor
  served_net = (all_shuffled (λ v. v.net ≡ net_of links v.actor) ws (w ∷ vs) moved q.nets).0

  -- there is room in the listing
  pub served_room : count_of (bit listed) count < count
  served_room = count_less (bit listed) w.actor count served_known served.1

  module _ (new : ℕ) (small : count ≤ 64) (bits : (j : ℕ) → bit new j ≡ (bit listed j || (ltb w.actor 64 && eqb w.actor j))) where
    tight : w.actor < 64
    tight = let k = served_known in omega arith

    pub listed_more : count_of (bit new) count ≡ suc (count_of (bit listed) count)
    listed_more = count_more (bit listed) (bit new) w.actor count served_known served.1 (word_has listed new w.actor tight bits) (word_same listed new w.actor tight bits)

    -- the rest waits on
    pub queued_less : Queued links count new entered vs
    queued_less =
        record {
          known = q.known;
          within = λ b e. ⊎_elim (λ o. q.within b o) (λ s. ap (bit entered) s ∙ served.0) (word_cases listed new w.actor tight bits b e);
          nets = (all_shuffled (λ v. v.net ≡ net_of links v.actor) ws (w ∷ vs) moved q.nets).1;
          once = λ b. ⊎_elim (λ s. here b s) (λ d. there b d) (cases_eq b w.actor);
          many =
              let shorter = length_permutation ws (w ∷ vs) moved in
              let counted = listed_more in
              let m = q.many in omega arith;
        }
      where
        here : (b : ℕ) → b ≡ w.actor → times b vs ≡ one (apart (bit entered b) (bit new b))
        here b s =
            let one' = one_yes (eqb w.actor b) (eq-eqb w.actor b (sym s)) in
            let all = waits_twice b in
            let most = one_most (apart (bit entered b) (bit listed b)) in
            let none = one_no (apart (bit entered b) (bit new b))
            (and_right (bit entered b) (not (bit new b)) (not_from_true (bit new b) (ap (bit new) s ∙ word_has listed new w.actor tight bits))) in
            omega arith

        there : (b : ℕ) → (b ≡ w.actor → ⊥) → times b vs ≡ one (apart (bit entered b) (bit new b))
        there b d =
            let none = one_no (eqb w.actor b) (ne_eqb w.actor b (λ e. d (sym e))) in
            let all = waits_twice b in
            let same = ap (λ t. one (apart (bit entered b) t)) (word_same listed new w.actor tight bits b d) in
            omega arith
