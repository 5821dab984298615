-- A number is read from a field exactly as it is written.
use Rattle.std.proofs.Common.{◌≡◌, ℕ, zero, suc, ◌+◌, ◌-◌, ◌*◌, ◌<◌, ◌≤◌, Bool, true, false, cond, ◌&&◌, eqb, leb, List, [], ◌∷◌, ◌++◌, get_or, Some, None, decimal, Option, sym, refl, ap, ◌∙◌, arith, rules}
use Rattle.std.specs.Str.{all_ascii_digits}
use Rattle.std.proofs.lemmas.Bool.{leb-true, eqb-true, and_parts, and_from, le-leb}
use Rattle.std.proofs.lemmas.Str.Parse.{IsNumeralModel, numerals_by_fold, tells_all_ascii_digits}
use Rattle.std.proofs.lemmas.Fmt.{decimal-digits_value, digits_value-decimal, digits_decimal, first_decimal, decimal_digit}
use Rattle.rules.specs.Numerals.{digits_on, number_on, field_on}
use Rattle.rules.specs.Spelling.{number, Short}

-- what was found is one pair
pub same_pair : {X Y : Type 0} (a c : X) (b d : Y) → ◌≡◌ {A = Option (X × Y)} (Some (a, b)) (Some (c, d)) → (a ≡ c) × (b ≡ d)
same_pair {X} {Y} a c b d e =
    let p : ◌≡◌ {A = X × Y} (a, b) (c, d) = cc in (ap (λ (q : X × Y). q.0) p, ap (λ (q : X × Y). q.1) p)

-- the number that digits write after n
abbrev pub value_on : ℕ → List ℕ → ℕ
value_on n [] = n
value_on n (c ∷ cs) = value_on (n * 10 + (c - 48)) cs

-- texts of digits, and the numbers that they write
pub own : IsNumeralModel (λ ds. all_ascii_digits ds ≡ true) (value_on 0)
own = numerals_by_fold _ tells_all_ascii_digits value_on (search rules)

-- digits that are read after n, and what follows them
record Front (n : ℕ) (s : List ℕ) (m : ℕ) (rest : List ℕ) : Type 0 where
  digits : List ℕ
  all : all_ascii_digits digits ≡ true
  is : s ≡ digits ++ rest
  value : m ≡ value_on n digits
  short : Short m

front : (n : ℕ) (s : List ℕ) (m : ℕ) (rest : List ℕ) → digits_on n s ≡ Some (m, rest) → Front n s m rest
front n [] m rest e = end (leb n 4294967295) refl e
  where
    end : (b : Bool) → leb n 4294967295 ≡ b → cond {A = Option (ℕ × List ℕ)} b (Some (n, [])) None ≡ Some (m, rest) → Front n [] m rest
    end true t e =
        let p = same_pair n m [] rest e in
        record { digits = []; all = refl; is = p.1; value = sym p.0; short = omega (arith, leb-true n 4294967295 t) }
    end false t e = let z : ◌≡◌ {A = ℕ} 0 1 = cc in absurd (omega arith)
front n (c ∷ cs) m rest e = step (leb 48 c && leb c 57) (leb n 4294967295) refl refl (front (n * 10 + (c - 48)) cs m rest) e
  where
    step : (a b : Bool) → (leb 48 c && leb c 57) ≡ a → leb n 4294967295 ≡ b →
        (digits_on (n * 10 + (c - 48)) cs ≡ Some (m, rest) → Front (n * 10 + (c - 48)) cs m rest) →
        cond a (digits_on (n * 10 + (c - 48)) cs) (cond b (Some (n, c ∷ cs)) None) ≡ Some (m, rest) → Front n (c ∷ cs) m rest
    step true b t u more e =
        let f = more e in
        record { digits = c ∷ f.digits; all = and_from (leb 48 c && leb c 57) (all_ascii_digits f.digits) t f.all; is = ap (λ xs. c ∷ xs) f.is; value = f.value; short = f.short }
    step false true t u more e =
        let p = same_pair n m (c ∷ cs) rest e in
        record { digits = []; all = refl; is = p.1; value = sym p.0; short = omega (arith, leb-true n 4294967295 u) }
    step false false t u more e = let z : ◌≡◌ {A = ℕ} 0 1 = cc in absurd (omega arith)

-- no digit comes first
abbrev pub Stops : List ℕ → Type 0
Stops s = 48 ≤ get_or s 0 0 → get_or s 0 0 ≤ 57 → ⊥

back : (n : ℕ) (ds rest : List ℕ) → all_ascii_digits ds ≡ true → value_on n ds ≤ 4294967295 → Stops rest → digits_on n (ds ++ rest) ≡ Some (value_on n ds, rest)
back n [] [] all small stop = rw (le-leb n 4294967295 small)
back n [] (c ∷ cs) all small stop = search rules
back n (c ∷ cs) rest all small stop =
    let p = and_parts (leb 48 c && leb c 57) (all_ascii_digits cs) all in
    rw p.0 (back (n * 10 + (c - 48)) cs rest p.1 small stop)

-- what is read as n is the digits of n
number_so : (s : List ℕ) (n : ℕ) (rest : List ℕ) → number_on s ≡ Some (n, rest) → Short n × (s ≡ decimal n ++ rest)
number_so [] n rest e = let z : ◌≡◌ {A = ℕ} 0 1 = cc in absurd (omega arith)
number_so (c ∷ cs) n rest e = step (eqb c 48) (leb 49 c && leb c 57) refl refl e
  where
    digit : 49 ≤ c → c ≤ 57 → digits_on 0 (c ∷ cs) ≡ Some (n, rest) → Short n × (c ∷ cs ≡ decimal n ++ rest)
    digit low high e =
        let t : (leb 48 c && leb c 57) ≡ true = and_from (leb 48 c) (leb c 57) (le-leb 48 c (omega arith)) (le-leb c 57 high) in
        let f = front (0 * 10 + (c - 48)) cs n rest (rw t at e) in
        let ds : List ℕ = c ∷ f.digits in
        let all : all_ascii_digits ds ≡ true = and_from (leb 48 c && leb c 57) (all_ascii_digits f.digits) t f.all in
        let v : value_on 0 ds ≡ n = sym f.value in
        let w : decimal (value_on 0 ds) ≡ ds = decimal-digits_value own ds all (omega arith) (λ h. absurd (omega arith)) (omega (arith, f.short)) in
        (f.short, ap (λ xs. c ∷ xs) f.is ∙ ap (λ xs. xs ++ rest) (sym w ∙ ap decimal v))

    step : (a b : Bool) → eqb c 48 ≡ a → (leb 49 c && leb c 57) ≡ b →
        cond a (Some (0, cs)) (cond b (digits_on 0 (c ∷ cs)) None) ≡ Some (n, rest) → Short n × (c ∷ cs ≡ decimal n ++ rest)
    step true b t u e =
        let p = same_pair 0 n cs rest e in
        let d : decimal n ≡ 48 ∷ [] = ap decimal (sym p.0) ∙ decimal_digit 0 (omega arith) in
        let k : c ≡ 48 = eqb-true c 48 t in
        let r = p.1 in
        (omega (arith, p.0), rw d (cc))
    step false true t u e = let p = and_parts (leb 49 c) (leb c 57) u in digit (leb-true 49 c p.0) (leb-true c 57 p.1) e
    step false false t u e = let z : ◌≡◌ {A = ℕ} 0 1 = cc in absurd (omega arith)

first_back : (n : ℕ) (ds rest : List ℕ) → all_ascii_digits ds ≡ true → 48 < get_or ds 0 0 → value_on 0 ds ≡ n → Short n → Stops rest →
    number_on (ds ++ rest) ≡ Some (n, rest)
first_back n [] rest all first v small stop = absurd (omega arith)
first_back n (c ∷ cs) rest all first v small stop =
    let p = and_parts (leb 48 c && leb c 57) (all_ascii_digits cs) all in
    let h = leb-true c 57 (and_parts (leb 48 c) (leb c 57) p.0).1 in
    let w : digits_on 0 (c ∷ (cs ++ rest)) ≡ Some (value_on 0 (c ∷ cs), rest) = back 0 (c ∷ cs) rest all (omega arith) stop in
    let a : eqb c 48 ≡ false = search rules in
    let b : (leb 49 c && leb c 57) ≡ true = search rules in
    rw (a, b) (w ∙ ap (λ k. Some (k, rest)) v)

-- the digits of n are read as n, where no digit follows
number_back : (n : ℕ) (rest : List ℕ) → Short n → Stops rest → number_on (decimal n ++ rest) ≡ Some (n, rest)
number_back zero rest small stop = rw (decimal_digit 0 (omega arith))
number_back (suc n) rest small stop =
    first_back (suc n) (decimal (suc n)) rest (digits_decimal own (suc n) (omega arith)) (first_decimal (suc n) (omega arith) (omega arith))
    (digits_value-decimal own (suc n) (omega arith)) small stop

-- what is read as n is the field of n
pub field_so : (s : List ℕ) (n : ℕ) (rest : List ℕ) → field_on s ≡ Some (n, rest) → Short n × (s ≡ number n ++ rest)
unfolding field_on
field_so [] n rest e = let z : ◌≡◌ {A = ℕ} 0 1 = cc in absurd (omega arith)
field_so (c ∷ cs) n rest e = step (eqb c 32) refl e
  where
    step : (b : Bool) → eqb c 32 ≡ b → cond b (number_on cs) None ≡ Some (n, rest) → Short n × (c ∷ cs ≡ number n ++ rest)
    step true t e = let p = number_so cs n rest e in let k = eqb-true c 32 t in let q = p.1 in (p.0, cc)
    step false t e = let z : ◌≡◌ {A = ℕ} 0 1 = cc in absurd (omega arith)

-- the field of n is read as n, where no digit follows
pub field_back : (n : ℕ) (rest : List ℕ) → Short n → Stops rest → field_on (number n ++ rest) ≡ Some (n, rest)
unfolding field_on
field_back n rest small stop = number_back n rest small stop
