-- Tables of rows.
use Rattle.std.proofs.Common.{◌≡◌, ℕ, ◌+◌, ◌/◌, ◌%◌, ◌^◌, ◌<◌, ◌≤◌, true, false, not, ◌&&◌, ◌||◌, eqb, ltb, ◌≢◌, ◌⊎◌, List, length, get_or, set, replicate, sym, ap, ◌∙◌, subst, inl, inr, arith, ne_eqb}
use mathlib.Core.Bool.{or_comm}
use Rattle.std.proofs.Math.Bool.{or-false}
use lib.Bits.{bit_or}
use Rattle.words.specs.Words.{bit}
use Rattle.std.proofs.lemmas.List.{length-set, length-replicate, get_or-replicate, get_or_past, get_or-set_same, get_or-set_other}
use Rattle.std.proofs.lemmas.Bool.{cases_lt, cases_eq, lt-ltb, and_parts, ltb-true, not-true}
use Rattle.words.proofs.Bits.{bit_zero, bit_of_or}
use Rattle.graph.specs.Rows.{before, joined, up_to, may_join}

-- no row, no bit
pub past_rows : (rows : List ℕ) (a b : ℕ) → length rows ≤ a → before rows a b ≡ false
past_rows rows a b l = ap (λ w. eqb (w / 2 ^ b % 2) 1) (get_or_past rows a 0 l) ∙ bit_zero b

-- empty rows
pub no_rows : (n a b : ℕ) → before (replicate n 0) a b ≡ false
no_rows n a b = ap (λ w. eqb (w / 2 ^ b % 2) 1) (zeros (cases_lt a n)) ∙ bit_zero b
  where
    zeros : (a < n) ⊎ (n ≤ a) → ◌≡◌ {A = ℕ} (get_or (replicate n 0) a 0) 0
    zeros (inl l) = get_or-replicate n a 0 0 l
    zeros (inr l) = get_or_past (replicate n 0) a 0 (subst (λ k. k ≤ a) (sym (length-replicate n 0)) l)

-- the rows below i are joined, the others as they were
pub record Growing (old rows : List ℕ) (a b i : ℕ) : Type 0 where
  pub long : length rows ≡ 64
  pub done : (x y : ℕ) → x < i → before rows x y ≡ joined (before old) a b x y
  pub rest : (x : ℕ) → i ≤ x → get_or rows x 0 ≡ get_or old x 0

-- a row that is at or before a gains b and all after it
pub row_gains : (old : List ℕ) (w gained a b x : ℕ) → b < 64 → w ≡ get_or old x 0 → ((j : ℕ) → bit gained j ≡ (bit (get_or old b 0) j || (ltb b 64 && eqb b j)))
    → up_to (before old) x a ≡ true → (y : ℕ) → bit (bit_or w gained) y ≡ joined (before old) a b x y
row_gains old w gained a b x known same bits up y =
    bit_of_or w gained y
    ∙ (ap (λ v. eqb (v / 2 ^ y % 2) 1 || bit gained y) same
    ∙ (ap (λ v. before old x y || v) (bits y ∙ (ap (λ v. before old b y || (v && eqb b y)) (lt-ltb b 64 known) ∙ or_comm (before old b y) (eqb b y)))
    ∙ ap (λ v. before old x y || (v && up_to (before old) b y)) (sym up)))

-- any other row stays
pub row_stays : (old : List ℕ) (w a b x : ℕ) → w ≡ get_or old x 0 → up_to (before old) x a ≡ false → (y : ℕ) → bit w y ≡ joined (before old) a b x y
row_stays old w a b x same up y =
    ap (λ v. eqb (v / 2 ^ y % 2) 1) same
    ∙ (sym (or-false (before old x y))
    ∙ ap (λ v. before old x y || (v && up_to (before old) b y)) (sym up))

-- a row is written
pub growing_write : (old rows : List ℕ) (a b i w : ℕ) → i < 64 → ((y : ℕ) → bit w y ≡ joined (before old) a b i y) → Growing old rows a b i → Growing old (set rows i w) a b (i + 1)
growing_write old rows a b i w l own g = record {
  long = length-set rows i w ∙ g.long;
  done = λ x y h. at_row x y h (cases_eq x i);
  rest = λ x h. let n : x ≢ i = omega arith in get_or-set_other rows i x w 0 n ∙ g.rest x (omega arith);
}
  where
    at_row : (x y : ℕ) → x < i + 1 → (x ≡ i) ⊎ (x ≡ i → ⊥) → before (set rows i w) x y ≡ joined (before old) a b x y
    at_row x y h (inl e) =
        let k : i < length rows = omega (arith, g.long) in
        let read : get_or (set rows i w) x 0 ≡ w = ap (λ j. get_or (set rows i w) j 0) e ∙ get_or-set_same rows i w 0 k in
        ap (λ v. eqb (v / 2 ^ y % 2) 1) read ∙ (own y ∙ ap (λ j. joined (before old) a b j y) (sym e))
    at_row x y h (inr n) =
        ap (λ v. eqb (v / 2 ^ y % 2) 1) (get_or-set_other rows i x w 0 n) ∙ g.done x y (omega arith)

-- every row is written: rows past the last have no bit, and no actor past the last is at or before a
pub growing_whole : (old rows : List ℕ) (a b : ℕ) → length old ≡ 64 → a < 64 → Growing old rows a b 64 → (x y : ℕ) → before rows x y ≡ joined (before old) a b x y
growing_whole old rows a b l known g x y = elim (cases_lt x 64) [ inl h ↦ g.done x y h | inr h ↦ beyond h ]
  where
    beyond : 64 ≤ x → before rows x y ≡ joined (before old) a b x y
    beyond h =
        let none : before old x y ≡ false = past_rows old x y (omega arith) in
        let far : before old x a ≡ false = past_rows old x a (omega arith) in
        let differ : eqb x a ≡ false = ne_eqb x a (λ e. omega arith) in
        past_rows rows x y (omega (arith, g.long)) ∙ rw (none, differ, far)

-- what allows a pair
pub may_join_parts : (rows : List ℕ) (a b : ℕ) → may_join rows a b ≡ true → (a < 64) × (b < 64) × (up_to (before rows) b a ≡ false)
may_join_parts rows a b t =
    let p = and_parts (ltb a 64) (ltb b 64 && not (up_to (before rows) b a)) t in
    let q = and_parts (ltb b 64) (not (up_to (before rows) b a)) p.1 in
    (ltb-true a 64 p.0, ltb-true b 64 q.0, not-true (up_to (before rows) b a) q.1)
