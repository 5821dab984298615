-- The largest total is the peak of a lean listing.
use Rattle.std.proofs.Common.{◌≡◌, ℕ, zero, suc, ◌+◌, ◌<◌, ◌≤◌, max, Bool, true, false, cond, ◌&&◌, ◌||◌, eqb, ltb, leb, ◌≢◌, ◌⊎◌, List, [], ◌∷◌, map, length, get_or, set, sym, refl, ap, ◌∙◌, subst, inl, inr, ⊎_elim, arith, length-set}
use Rattle.std.proofs.lemmas.List.{get_or-set_same, get_or-set_other}
use Rattle.std.proofs.lemmas.Bool.{cases_eq, cases_lt, eq-eqb, ne_eqb, lt-ltb, le-leb, and_from, and_right, or_left, or_right}
use Rattle.rules.specs.declared.memory.Object.{Object}
use Rattle.rules.specs.Lists.{◌∈◌, Every, numbers_from, total}
use Rattle.rules.specs.Lean.{LeanFrom, Lean, one_by_one, is_started, is_finished, live_bytes, Peak}
use Rattle.rules.specs.Objects.{objects}
use Rattle.rules.specs.Runs.{State, Phase, waiting, running, finished, phase, Call, start, finish, after, grants, fresh}
use Rattle.rules.specs.Sheets.{Sheet, actor_count}
use Rattle.rules.proofs.Answered.{the_answer}
use Rattle.rules.proofs.Checking.{all_of, any_of}
use Rattle.rules.proofs.Granting.{Fired, fresh_fired, fired_more, may_start, may_finish}
use Rattle.rules.proofs.Orderly.{Allowed}
use Rattle.rules.proofs.Phases.{all_waiting}
use Rattle.rules.proofs.PeakChecks.{states, is_peak, peak_so}
use Rattle.words.specs.Words.{bit}
use Rattle.words.proofs.Bits.{bit_zero}
use Rattle.lean.specs.Totals.{lives, live_in, also, totals, highest}

-- ---- the total of a state

total_shift : (f : ℕ → ℕ) (k n : ℕ) → total f (numbers_from (suc k) n) ≡ total (λ x. f (suc x)) (numbers_from k n)
total_shift f k zero = refl
total_shift f k (suc n) = ap (λ m. f (suc k) + m) (total_shift f (suc k) n)

-- by the numbers of a list, and by the list itself
total_live : (started done : ℕ → Bool) (d : Object) (os : List Object) →
    total (λ x. cond (lives started done (get_or os x d)) (get_or os x d).size 0) (numbers_from 0 (length os)) ≡ live_in os started done
total_live started done d [] = refl
total_live started done d (o ∷ os) =
    ap (λ m. cond (lives started done o) o.size 0 + m)
    (total_shift (λ x. cond (lives started done (get_or (o ∷ os) x d)) (get_or (o ∷ os) x d).size 0) 0 (length os) ∙ total_live started done d os)

abbrev begun : State → ℕ → Bool
begun st x = is_started (phase st x)

abbrev ended : State → ℕ → Bool
ended st x = is_finished (phase st x)

bytes_are : (s : Sheet) (st : State) (started done : ℕ → Bool) → ((x : ℕ) → begun st x ≡ started x) → ((x : ℕ) → ended st x ≡ done x) →
    live_bytes s st ≡ live_in (objects s) started done
bytes_are s st started done b e =
    total_live (begun st) (ended st) (record { producer = 0; consumer = 0; size = 0; delayed = false }) (objects s)
    ∙ ap (λ f. live_in (objects s) f (ended st)) begins ∙ ap (λ f. live_in (objects s) started f) ends
  where
    begins : begun st ≡ started
    begins = λ i x. b x i

    ends : ended st ≡ done
    ends = λ i x. e x i

-- ---- the states along a listing

abbrev one_on : State → ℕ → State
one_on st a = after (after st (start a)) (finish a)

abbrev stops : State → List ℕ → List State
stops st [] = []
stops st (a ∷ rest) = after st (start a) ∷ one_on st a ∷ stops (one_on st a) rest

next_is : (s : Sheet) (st : State) (c : Call) → Allowed s st c → (the_answer s st c).next ≡ after st c
next_is s st c free = sym ((the_answer s st c).only _ (after st c) (grants free)).1

states_are : (s : Sheet) (listed rest : List ℕ) → LeanFrom s listed rest → (st : State) → Fired s listed st → states s st (one_by_one rest) ≡ stops st rest
unfolding states
states_are s listed [] lean st f = refl
states_are s listed (a ∷ rest) lean st f =
    let ready = lean.0 in
    let l : a < length st.phases = subst (λ n. a < n) (sym f.phased) ready.known in
    let begin = next_is s st (start a) (may_start s st a f.none_added ready.known (f.idle a ready.new) (λ b c. f.done b (ready.behind b c))) in
    let ends = next_is s (after st (start a)) (finish a) (may_finish s (after st (start a)) a ready.known (get_or-set_same st.phases a running waiting l)) in
    let on = states_are s (a ∷ listed) rest lean.2 (one_on st a) (fired_more s listed st a f ready.known) in
    ap (λ m. m ∷ states s m (finish a ∷ one_by_one rest)) begin
    ∙ ap (λ m. after st (start a) ∷ m ∷ states s m (one_by_one rest)) ends
    ∙ ap (λ ms. after st (start a) ∷ one_on st a ∷ ms) on

-- ---- the totals along a listing

-- exactly these have started, and have finished
pub record Shows (st : State) (done : ℕ → Bool) : Type 0 where
  pub begins : (x : ℕ) → begun st x ≡ done x
  pub ends : (x : ℕ) → ended st x ≡ done x

module _ (st : State) (done : ℕ → Bool) (shows : Shows st done) (a : ℕ) (small : a < 64) (known : a < length st.phases) (idle : phase st a ≡ waiting) where
  has_it : also done a a ≡ true
  has_it = or_right (done a) (ltb a 64 && eqb a a) (and_from (ltb a 64) (eqb a a) (lt-ltb a 64 small) (eq-eqb a a refl))

  as_it_was : (x : ℕ) → x ≢ a → also done a x ≡ done x
  as_it_was x d = ap (λ t. done x || t) (and_right (ltb a 64) (eqb a x) (ne_eqb a x (λ e. d (sym e)))) ∙ or_false (done x)
    where
      or_false : (b : Bool) → (b || false) ≡ b
      or_false true = refl
      or_false false = refl

  not_done : done a ≡ false
  not_done = sym (shows.ends a) ∙ ap is_finished idle

  set_once : (p : Phase) → get_or (set st.phases a p) a waiting ≡ p
  set_once p = get_or-set_same st.phases a p waiting known

  set_twice : (p q : Phase) → get_or (set (set st.phases a p) a q) a waiting ≡ q
  set_twice p q = get_or-set_same (set st.phases a p) a q waiting (let l = length-set st.phases a p in omega arith)

  other_once : (p : Phase) (x : ℕ) → x ≢ a → get_or (set st.phases a p) x waiting ≡ phase st x
  other_once p x d = get_or-set_other st.phases a x p waiting d

  other_twice : (p q : Phase) (x : ℕ) → x ≢ a → get_or (set (set st.phases a p) a q) x waiting ≡ phase st x
  other_twice p q x d = get_or-set_other (set st.phases a p) a x q waiting d ∙ other_once p x d

  by_number : (f : ℕ → Bool) (g : ℕ → Bool) → f a ≡ g a → ((x : ℕ) → x ≢ a → f x ≡ g x) → (x : ℕ) → f x ≡ g x
  by_number f g here there x = ⊎_elim (λ e. ap f e ∙ here ∙ ap g (sym e)) (λ d. there x d) (cases_eq x a)

  begun_once : (x : ℕ) → begun (after st (start a)) x ≡ also done a x
  begun_once =
      by_number (begun (after st (start a))) (also done a) (ap is_started (set_once running) ∙ sym has_it)
      (λ x d. ap is_started (other_once running x d) ∙ shows.begins x ∙ sym (as_it_was x d))

  ended_once : (x : ℕ) → ended (after st (start a)) x ≡ done x
  ended_once =
      by_number (ended (after st (start a))) done (ap is_finished (set_once running) ∙ sym not_done)
      (λ x d. ap is_finished (other_once running x d) ∙ shows.ends x)

  shows_more : Shows (one_on st a) (also done a)
  shows_more =
      record {
        begins = by_number (begun (one_on st a)) (also done a) (ap is_started (set_twice running finished) ∙ sym has_it)
            (λ x d. ap is_started (other_twice running finished x d) ∙ shows.begins x ∙ sym (as_it_was x d));
        ends = by_number (ended (one_on st a)) (also done a) (ap is_finished (set_twice running finished) ∙ sym has_it)
            (λ x d. ap is_finished (other_twice running finished x d) ∙ shows.ends x ∙ sym (as_it_was x d));
      }

totals_are : (s : Sheet) → actor_count s ≤ 64 → (listed rest : List ℕ) → LeanFrom s listed rest → (st : State) → Fired s listed st → (done : ℕ → Bool) → Shows st done →
    map (live_bytes s) (stops st rest) ≡ totals (objects s) done rest
totals_are s few listed [] lean st f done shows = refl
totals_are s few listed (a ∷ rest) lean st f done shows =
    let ready = lean.0 in
    let known = ready.known in
    let small : a < 64 = omega arith in
    let l : a < length st.phases = subst (λ n. a < n) (sym f.phased) ready.known in
    let idle = f.idle a ready.new in
    let more = shows_more st done shows a small l idle in
    let first = bytes_are s (after st (start a)) (also done a) done (begun_once st done shows a small l idle) (ended_once st done shows a small l idle) in
    let second = bytes_are s (one_on st a) (also done a) (also done a) more.begins more.ends in
    let on = totals_are s few (a ∷ listed) rest lean.2 (one_on st a) (fired_more s listed st a f ready.known) (also done a) more in
    ap (λ n. n ∷ live_bytes s (one_on st a) ∷ map (live_bytes s) (stops (one_on st a) rest)) first
    ∙ ap (λ n. live_in (objects s) (also done a) done ∷ n ∷ map (live_bytes s) (stops (one_on st a) rest)) second
    ∙ ap (λ ns. live_in (objects s) (also done a) done ∷ live_in (objects s) (also done a) (also done a) ∷ ns) on

-- ---- the largest of them

from_start : (p : ℕ) (ns : List ℕ) → p ≤ highest p ns
from_start p [] = omega arith
from_start p (n ∷ ns) = let on = from_start (max p n) ns in omega arith

from_list : (p : ℕ) (ns : List ℕ) → Every (λ n. n ≤ highest p ns) ns
from_list p [] = tt
from_list p (n ∷ ns) = (let on = from_start (max p n) ns in omega arith, from_list (max p n) ns)

one_of_them : (p : ℕ) (ns : List ℕ) → (highest p ns ≡ p) ⊎ (highest p ns ∈ ns)
one_of_them p [] = inl refl
one_of_them p (n ∷ ns) = ⊎_elim (λ e. pick e (cases_lt p n)) (λ m. inr (inr m)) (one_of_them (max p n) ns)
  where
    pick : highest (max p n) ns ≡ max p n → (p < n) ⊎ (n ≤ p) → (highest (max p n) ns ≡ p) ⊎ ((highest (max p n) ns ≡ n) ⊎ (highest (max p n) ns ∈ ns))
    pick e (inl l) = inr (inl (omega arith))
    pick e (inr l) = inl (omega arith)

-- of a list that is not empty, the largest from 0 on is one of it
attained : (n : ℕ) (ns : List ℕ) → highest 0 (n ∷ ns) ∈ (n ∷ ns)
attained n ns =
    ⊎_elim
    (λ e. inl (let most = (from_list 0 (n ∷ ns)).0 in omega arith))
    (λ m. m)
    (one_of_them 0 (n ∷ ns))

-- ---- the peak

any_by : (weight : State → ℕ) (p : ℕ) (sts : List State) → p ∈ map weight sts → any_of (λ st. eqb (weight st) p) sts ≡ true
unfolding any_of
any_by weight p [] m = absurd m
any_by weight p (st ∷ sts) (inl e) = or_left (eqb (weight st) p) (any_of (λ m. eqb (weight m) p) sts) (eq-eqb (weight st) p (sym e))
any_by weight p (st ∷ sts) (inr m) = or_right (eqb (weight st) p) (any_of (λ m. eqb (weight m) p) sts) (any_by weight p sts m)

all_by : (weight : State → ℕ) (p : ℕ) (sts : List State) → Every (λ n. n ≤ p) (map weight sts) → all_of (λ st. leb (weight st) p) sts ≡ true
unfolding all_of
all_by weight p [] a = refl
all_by weight p (st ∷ sts) a =
    and_from (leb (weight st) p) (all_of (λ m. leb (weight m) p) sts) (le-leb (weight st) p a.0) (all_by weight p sts a.1)

fresh_shows : (s : Sheet) → Shows (fresh s) (bit 0)
fresh_shows s =
    record {
      begins = λ x. ap is_started (all_waiting (actor_count s) x) ∙ sym (bit_zero x);
      ends = λ x. ap is_finished (all_waiting (actor_count s) x) ∙ sym (bit_zero x);
    }

-- the tests of a peak pass
tested : (s : Sheet) (listing : List ℕ) (sts : List State) (p : ℕ) → states s (fresh s) (one_by_one listing) ≡ sts → p ∈ map (live_bytes s) sts →
    Every (λ n. n ≤ p) (map (live_bytes s) sts) → is_peak s listing p ≡ true
unfolding is_peak
tested s listing sts p e hit most =
    ap (λ ms. any_of (λ st. eqb (live_bytes s st) p) ms && all_of (λ st. leb (live_bytes s st) p) ms) e
    ∙ and_from (any_of (λ st. eqb (live_bytes s st) p) sts) (all_of (λ st. leb (live_bytes s st) p) sts) (any_by (live_bytes s) p sts hit) (all_by (live_bytes s) p sts most)

-- the largest total along the lean listing of a sheet with an actor is its peak
pub peak_is : (s : Sheet) → actor_count s ≤ 64 → 0 < actor_count s → (listing : List ℕ) → Lean s listing → Peak s listing (highest 0 (totals (objects s) (bit 0) listing))
peak_is s few some [] lean = absurd (lean 0 some)
peak_is s few some (a ∷ rest) lean =
    let sums = totals (objects s) (bit 0) (a ∷ rest) in
    let same = totals_are s few [] (a ∷ rest) lean (fresh s) (fresh_fired s) (bit 0) (fresh_shows s) in
    peak_so s (a ∷ rest) (highest 0 sums)
    (tested s (a ∷ rest) (stops (fresh s) (a ∷ rest)) (highest 0 sums) (states_are s [] (a ∷ rest) lean (fresh s) (fresh_fired s))
    (subst (λ ns. highest 0 sums ∈ ns) (sym same) (attained (live_in (objects s) (also (bit 0) a) (bit 0)) (live_in (objects s) (also (bit 0) a) (also (bit 0) a) ∷ totals (objects s) (also (bit 0) a) rest)))
    (subst (λ ns. Every (λ n. n ≤ highest 0 sums) ns) (sym same) (from_list 0 sums)))
