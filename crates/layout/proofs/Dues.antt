-- The objects of a bank that have had their turn, and those that wait.

use Rattle.std.proofs.Common.{◌≡◌, ℕ, zero, suc, ◌+◌, ◌<◌, ◌≤◌, Bool, true, false, cond, eqb, ◌⊎◌, List, [], ◌∷◌, ◌++◌, map, length, get_or, sum_by, filter, nat_cmp, sym, refl, ap, ◌∙◌, subst, inl, inr, ⊎_elim, arith}
use Rattle.std.specs.BinaryHeap.{lt_by_cmp}
use Rattle.std.specs.List.Sorted.{IsPermutation}
use Rattle.std.specs.List.{AllByRecursion as Every}
use Rattle.std.specs.Ordering.{on, flip_args, then_cmp}
use Rattle.std.specs.declared.cmp.Ordering.{Ordering}
use Rattle.std.proofs.lemmas.List.Sums.{sum_by-cons}
use Rattle.std.proofs.lemmas.List.Sorted.{sum_by-IsPermutation, IsPermutation-sym}
use Rattle.std.proofs.ByRecursion.{all_shuffled}
use Rattle.std.proofs.lemmas.Bool.{cases_eq, eq-eqb, ne_eqb, lt-ltb, le-ltb, both_ways, cond-true, cond-false}
use Rattle.rules.specs.Lists.{◌∈◌, numbers_from}
use Rattle.rules.specs.Fabrics.{member}
use Rattle.rules.specs.Placing.{Bank, Earlier}
use Rattle.rules.proofs.Members.{all_at}
use Rattle.rules.proofs.Joined.{all_from_members, any_cases, any_left, any_right}
use Rattle.rules.proofs.Turns.{one_is_earlier, never_earlier_itself, earlier_trans}
use Rattle.queue.specs.Heaps.{Least}
use Rattle.layout.specs.declared.turns.Candidate.{Candidate}
use Rattle.layout.specs.Turns.{objects_at, candidate, candidates, Wait}

-- the order of the queue: larger objects first, equal sizes by lower number
abbrev pub order : Candidate → Candidate → Ordering
order = then_cmp (flip_args (on (λ (c : Candidate). c.size) nat_cmp)) (on (λ (c : Candidate). c.object) nat_cmp)

-- the numbers of candidates
abbrev pub numbers : List Candidate → List ℕ
numbers cs = map (λ (c : Candidate). c.object) cs

-- 1 if the numbers are equal
pub same? : ℕ → ℕ → ℕ
same? m n = cond (eqb m n) 1 0

same_one : (m n : ℕ) → m ≡ n → same? m n ≡ 1
unfolding same?
same_one m n e = cond-true (eqb m n) 1 0 (eq-eqb m n e)

other_none : (m n : ℕ) → (m ≡ n → ⊥) → same? m n ≡ 0
unfolding same?
other_none m n d = cond-false (eqb m n) 1 0 (ne_eqb m n d)

-- how many candidates have the number n
abbrev times : ℕ → List Candidate → ℕ
times n [] = 0
times n (c ∷ cs) = same? c.object n + times n cs

times_sum : (n : ℕ) (cs : List Candidate) → times n cs ≡ sum_by (λ (c : Candidate). same? c.object n) cs
times_sum n [] = refl
times_sum n (c ∷ cs) = ap (λ m. same? c.object n + m) (times_sum n cs) ∙ sym (sum_by-cons (λ (c : Candidate). same? c.object n) c cs)

times_moved : (n : ℕ) (cs ds : List Candidate) → IsPermutation cs ds → times n ds ≡ times n cs
times_moved n cs ds moved = times_sum n ds ∙ sum_by-IsPermutation (λ (c : Candidate). same? c.object n) cs ds moved ∙ sym (times_sum n cs)

-- ---- no object waits twice

module _ (sizes : ℕ → ℕ) (p : ℕ → Bool) where
  abbrev waits : ℕ → ℕ → List Candidate
  waits k m = candidates sizes (filter p (numbers_from k m))

  none_before : (k m n : ℕ) → n < k → times n (waits k m) ≡ 0
  none_before k zero n l = refl
  none_before k (suc m) n l = by (none_before (suc k) m n (omega arith)) (p k)
    where
      by : times n (waits (suc k) m) ≡ 0 → (b : Bool) →
          times n (candidates sizes (cond b (k ∷ filter p (numbers_from (suc k) m)) (filter p (numbers_from (suc k) m)))) ≡ 0
      by rest true =
          let e = other_none k n (λ q. omega arith) in
          let all : same? k n + times n (waits (suc k) m) ≡ 0 = omega arith in
          all
      by rest false = rest

  once : (k m n : ℕ) → times n (waits k m) ≤ 1
  once k zero n = omega arith
  once k (suc m) n = by (once (suc k) m n) (none_before (suc k) m n) (p k)
    where
      by : times n (waits (suc k) m) ≤ 1 → (n < suc k → times n (waits (suc k) m) ≡ 0) → (b : Bool) →
          times n (candidates sizes (cond b (k ∷ filter p (numbers_from (suc k) m)) (filter p (numbers_from (suc k) m)))) ≤ 1
      by rest none false = rest
      by rest none true =
          let all : same? k n + times n (waits (suc k) m) ≤ 1 =
          ⊎_elim
          (λ same. let e = same_one k n same in let z = none (omega arith) in omega arith)
          (λ other. let e = other_none k n other in omega arith)
          (cases_eq k n) in
          all

-- none of those that do not occur
others : (n : ℕ) (cs : List Candidate) → times n cs ≡ 0 → Every (λ c. c.object ≡ n → ⊥) cs
others n [] z = tt
others n (c ∷ cs) z =
    let all : same? c.object n + times n cs ≡ 0 = z in (λ e. let one = same_one c.object n e in omega arith, others n cs (omega arith))

-- ---- members

to_numbers : (P : ℕ → Type 0) (cs : List Candidate) → Every (λ c. P c.object) cs → Every P (numbers cs)
to_numbers P [] a = tt
to_numbers P (c ∷ cs) a = (a.0, to_numbers P cs a.1)

in_numbers : (c : Candidate) (ds : List Candidate) → c ∈ ds → c.object ∈ numbers ds
in_numbers c [] m = m
in_numbers c (d ∷ ds) (inl e) = inl (ap (λ (b : Candidate). b.object) e)
in_numbers c (d ∷ ds) (inr m) = inr (in_numbers c ds m)

-- candidates in another order have the same numbers
moved_in : (cs ds : List Candidate) → IsPermutation cs ds → (y : ℕ) → y ∈ numbers cs → y ∈ numbers ds
moved_in cs ds moved y m =
    all_at (λ y. y ∈ numbers ds) y (numbers cs) m
    (to_numbers (λ y. y ∈ numbers ds) cs
    (all_shuffled (λ (c : Candidate). c.object ∈ numbers ds) ds cs (IsPermutation-sym cs ds moved) (all_from_members (λ (c : Candidate). c.object ∈ numbers ds) ds (λ c i. in_numbers c ds i))))

candidates_all : (sizes : ℕ → ℕ) (P : Candidate → Type 0) (xs : List ℕ) → Every (λ x. P (candidate sizes x)) xs → Every P (candidates sizes xs)
candidates_all sizes P [] a = tt
candidates_all sizes P (x ∷ xs) a = (a.0, candidates_all sizes P xs a.1)

listed : (sizes : ℕ → ℕ) (x : ℕ) (xs : List ℕ) → x ∈ xs → x ∈ numbers (candidates sizes xs)
listed sizes x [] m = m
listed sizes x (y ∷ ys) (inl e) = inl e
listed sizes x (y ∷ ys) (inr m) = inr (listed sizes x ys m)

-- ---- turns

-- a candidate of an object of the bank, with its size
abbrev Sized : Bank → Candidate → Type 0
Sized bank c = (c.object ∈ bank.objects) × (c.size ≡ bank.size c.object)

-- those done were earlier than all that wait, and all others of the bank wait, each once
pub record Due (bank : Bank) (done : List ℕ) (waiting : List Candidate) : Type 0 where
  pub of_bank : (y : ℕ) → y ∈ done → y ∈ bank.objects
  pub early : (y : ℕ) → y ∈ done → Every (λ (c : Candidate). Earlier bank y c.object) waiting
  pub all : (y : ℕ) → y ∈ bank.objects → (y ∈ done) ⊎ (y ∈ numbers waiting)
  pub sized : Every (Sized bank) waiting
  pub once_each : (n : ℕ) → times n waiting ≤ 1

-- an earlier object goes before
precedes : (bank : Bank) (c d : Candidate) → c.size ≡ bank.size c.object → d.size ≡ bank.size d.object → Earlier bank d.object c.object → lt_by_cmp order d c ≡ true
precedes bank c d s t (inl l) = rw (lt-ltb c.size d.size (omega arith)) refl
precedes bank c d s t (inr l) = rw (le-ltb c.size d.size (omega (arith, l.0)), eq-eqb c.size d.size (s ∙ sym l.0 ∙ sym t), lt-ltb d.object c.object l.1) refl

module _ (bank : Bank) where
  behind : (c : Candidate) (ds : List Candidate) → Sized bank c → Every (Sized bank) ds → Least order c ds → Every (λ (d : Candidate). d.object ≡ c.object → ⊥) ds →
      Every (λ (d : Candidate). Earlier bank c.object d.object) ds
  behind c [] s all least other = tt
  behind c (d ∷ ds) s all least other = (here (one_is_earlier bank c.object d.object), behind c ds s all.1 least.1 other.1)
    where
      here : (c.object ≡ d.object) ⊎ (Earlier bank c.object d.object ⊎ Earlier bank d.object c.object) → Earlier bank c.object d.object
      here (inl e) = absurd (other.0 (sym e))
      here (inr (inl e)) = e
      here (inr (inr e)) = absurd (both_ways (lt_by_cmp order d c) least.0 (precedes bank c d s.1 all.0.1 e))

  -- at the start
  pub due_first : (sizes : ℕ → ℕ) (homes : List ℕ) (b : ℕ) (waiting : List Candidate) → bank.size ≡ sizes → bank.objects ≡ objects_at homes b → Wait sizes (objects_at homes b) waiting → Due bank [] waiting
  due_first sizes homes b waiting sizes-are objects-are h =
      record {
        of_bank = λ y m. absurd m;
        early = λ y m. absurd m;
        all = λ y m. inr (moved_in (candidates sizes (objects_at homes b)) waiting h y (listed sizes y (objects_at homes b) (subst (λ xs. y ∈ xs) objects-are m)));
        sized =
            all_shuffled (Sized bank) (candidates sizes (objects_at homes b)) waiting h
            (candidates_all sizes (Sized bank) (objects_at homes b)
            (all_from_members (λ x. Sized bank (candidate sizes x)) (objects_at homes b) (λ x m. (subst (λ xs. x ∈ xs) (sym objects-are) m, ap (λ f. f x) (sym sizes-are)))));
        once_each = λ n. omega (arith, times_moved n (candidates sizes (objects_at homes b)) waiting h, once sizes (λ x. member (get_or homes x 0) b) 0 (length homes) n);
      }

  -- the next turn
  module _ (done : List ℕ) (waiting : List Candidate) (due : Due bank done waiting) (x : Candidate) (rest : List Candidate)
      (popped : IsPermutation waiting (x ∷ rest)) (least : Least order x waiting) where
    moved : (P : Candidate → Type 0) → Every P waiting → Every P (x ∷ rest)
    moved P a = all_shuffled P waiting (x ∷ rest) popped a

    pub next_own : Sized bank x
    next_own = (moved (Sized bank) due.sized).0

    pub next_early : (y : ℕ) → y ∈ done → Earlier bank y x.object
    next_early y m = (moved (λ (c : Candidate). Earlier bank y c.object) (due.early y m)).0

    few : (n : ℕ) → same? x.object n + times n rest ≤ 1
    few n = omega (arith, due.once_each n, times_moved n waiting (x ∷ rest) popped)

    later : Every (λ (d : Candidate). Earlier bank x.object d.object) rest
    later =
        let none : times x.object rest ≡ 0 = omega (arith, few x.object, same_one x.object x.object refl) in
        behind x rest next_own (moved (Sized bank) due.sized).1 (moved (λ (y : Candidate). lt_by_cmp order y x ≡ false) least).1 (others x.object rest none)

    pub next_before : (y : ℕ) → y ∈ bank.objects → Earlier bank y x.object → y ∈ done
    next_before y m e = by (due.all y m)
      where
        at : y ∈ numbers (x ∷ rest) → y ∈ done
        at (inl same) = absurd (never_earlier_itself bank x.object (subst (λ z. Earlier bank z x.object) same e))
        at (inr i) =
            absurd (never_earlier_itself bank x.object
            (earlier_trans bank x.object y x.object (all_at (λ z. Earlier bank x.object z) y (numbers rest) i (to_numbers (λ z. Earlier bank x.object z) rest later)) e))

        by : (y ∈ done) ⊎ (y ∈ numbers waiting) → y ∈ done
        by (inl d) = d
        by (inr w) = at (moved_in waiting (x ∷ rest) popped y w)

    pub due_next : Due bank (done ++ x.object ∷ []) rest
    due_next =
        record {
          of_bank = λ y m. by_last y m (λ d. due.of_bank y d) (λ e. subst (λ z. z ∈ bank.objects) (sym e) next_own.0);
          early = λ y m. by_last y m (λ d. (moved (λ (c : Candidate). Earlier bank y c.object) (due.early y d)).1) (λ e. subst (λ z. Every (λ (c : Candidate). Earlier bank z c.object) rest) (sym e) later);
          all = λ y m. by y (due.all y m);
          sized = (moved (Sized bank) due.sized).1;
          once_each = λ n. omega (arith, few n);
        }
      where
        by_last : {R : Type 0} (y : ℕ) → y ∈ (done ++ x.object ∷ []) → (y ∈ done → R) → (y ≡ x.object → R) → R
        by_last {R} y m first second = cases (any_cases (λ z. y ≡ z) done (x.object ∷ []) m)
          where
            cases : (y ∈ done) ⊎ (y ∈ (x.object ∷ [])) → R
            cases (inl d) = first d
            cases (inr (inl e)) = second e
            cases (inr (inr n)) = absurd n

        by : (y : ℕ) → (y ∈ done) ⊎ (y ∈ numbers waiting) → (y ∈ (done ++ x.object ∷ [])) ⊎ (y ∈ numbers rest)
        by y (inl d) = inl (any_left (λ z. y ≡ z) done (x.object ∷ []) d)
        by y (inr w) = at (moved_in waiting (x ∷ rest) popped y w)
          where
            at : y ∈ numbers (x ∷ rest) → (y ∈ (done ++ x.object ∷ [])) ⊎ (y ∈ numbers rest)
            at (inl e) = inl (any_right (λ z. y ≡ z) done (x.object ∷ []) (inl e))
            at (inr i) = inr i

  -- where none waits, all are done
  pub due_last : (done : List ℕ) → Due bank done [] → (y : ℕ) → y ∈ bank.objects → y ∈ done
  due_last done due y m = ⊎_elim (λ d. d) (λ n. absurd n) (due.all y m)
