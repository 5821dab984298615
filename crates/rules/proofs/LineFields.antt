-- The fields of a line, one after the other: what is read from them is what is written there.
use Rattle.std.proofs.Common.{◌≡◌, ℕ, Bool, true, false, cond, ◌&&◌, eqb, ◌⊎◌, List, [], ◌∷◌, ◌++◌, length, Some, None, Option, sym, refl, ap, ◌∙◌, inl, inr, append-nil, arith}
use Rattle.std.specs.Option.{option_map}
use Rattle.std.proofs.lemmas.Bool.{eqb-true, ne_eqb}
use Rattle.rules.specs.declared.sheet.Kind.{Kind}
use Rattle.rules.specs.declared.sheet.Kind.TheVariants.{Unified, Private, Hybrid}
use Rattle.rules.specs.declared.sheet.Fit.{Fit}
use Rattle.rules.specs.declared.sheet.Fit.TheVariants.{First, Best}
use Rattle.rules.specs.declared.sheet.Entry.{Entry}
use Rattle.rules.specs.declared.sheet.Entry.TheVariants.{ByFit}
use Rattle.rules.specs.Numerals.{field_on}
use Rattle.rules.specs.Fields.{kind_of, fit_of, ending, kind_on, with_kind, with_field, fit_line_of}
use Rattle.rules.specs.Spelling.{number, Short, kind_field, fit_field}
use Rattle.rules.proofs.NumberFields.{Stops, field_so, field_back}

-- what was not found is nothing
pub none_some : {X : Type 0} (x : X) → ◌≡◌ {A = Option X} None (Some x) → ⊥
none_some x e = let z : ◌≡◌ {A = ℕ} 0 1 = cc in omega arith

-- a choice that found something: the test held and the first found it, or the second did
pub branch : {X : Type 0} (c k : ℕ) (o p : Option X) (x : X) → cond (eqb c k) o p ≡ Some x → ((c ≡ k) × (o ≡ Some x)) ⊎ (p ≡ Some x)
branch {X} c k o p x e = go (eqb c k) refl e
  where
    go : (b : Bool) → eqb c k ≡ b → cond b o p ≡ Some x → ((c ≡ k) × (o ≡ Some x)) ⊎ (p ≡ Some x)
    go true t e = inl (eqb-true c k t, e)
    go false t e = inr e

-- what was found through a function was found
pub mapped_so : {X Y : Type 0} (f : X → Y) (o : Option X) (y : Y) → option_map f o ≡ Some y → (x : X) × (o ≡ Some x) × (f x ≡ y)
mapped_so f None y e = absurd (none_some y e)
mapped_so f (Some x) y e = (x, refl, cc)

-- the line ends there
pub ending_so : {X : Type 0} (s : List ℕ) (x y : X) → ending s x ≡ Some y → (s ≡ []) × (x ≡ y)
ending_so [] x y e = (refl, cc)
ending_so (b ∷ bs) x y e = absurd (none_some y e)

-- ---- one number, and more

-- a number and what follows it, of which f finds y
pub record Field {X : Type 0} (s : List ℕ) (f : ℕ → List ℕ → Option X) (y : X) : Type 0 where
  pub value : ℕ
  pub rest : List ℕ
  pub short : Short value
  pub is : s ≡ number value ++ rest
  pub found : f value rest ≡ Some y

-- what is found behind a number was written behind it
pub with_so : {X : Type 0} (s : List ℕ) (f : ℕ → List ℕ → Option X) (y : X) → with_field s f ≡ Some y → Field s f y
with_so {X} s f y e = go (field_on s) refl e
  where
    go : (o : Option (ℕ × List ℕ)) → field_on s ≡ o → (elim o as (λ _. Option X) [ None ↦ None | Some p ↦ f p.0 p.1 ]) ≡ Some y → Field s f y
    go None t e = absurd (none_some y e)
    go (Some p) t e = let q = field_so s p.0 p.1 t in record { value = p.0; rest = p.1; short = q.0; is = q.1; found = e }

-- what is written behind a number is found
pub with_back : {X : Type 0} (n : ℕ) (rest : List ℕ) (f : ℕ → List ℕ → Option X) → Short n → Stops rest → with_field (number n ++ rest) f ≡ f n rest
with_back {X} n rest f small stop =
    ap (λ o. elim o as (λ _. Option X) [ None ↦ None | Some p ↦ f p.0 p.1 ]) (field_back n rest small stop)

-- the last number of a line is found
pub last_back : {X : Type 0} (n : ℕ) (make : ℕ → X) → Short n → with_field (number n) (λ a r. ending r (make a)) ≡ Some (make n)
last_back n make small =
    ap (λ s. with_field s (λ a r. ending r (make a))) (sym (append-nil (number n)))
    ∙ with_back n [] (λ a r. ending r (make a)) small (λ l h. omega arith)

-- no digit comes first in a field
pub field_stops : (n : ℕ) (rest : List ℕ) → Stops (number n ++ rest)
field_stops n rest l h = omega arith

-- what is found at the last number of a line
pub last_so : {X : Type 0} (s : List ℕ) (make : ℕ → X) (y : X) → with_field s (λ a r. ending r (make a)) ≡ Some y →
    (a : ℕ) × Short a × (s ≡ number a) × (make a ≡ y)
last_so s make y e =
    let f = with_so s (λ a r. ending r (make a)) y e in
    let q = ending_so f.rest (make f.value) y f.found in
    (f.value, f.short, f.is ∙ ap (λ r. number f.value ++ r) q.0 ∙ append-nil (number f.value), q.1)

-- ---- two numbers and three

-- two numbers, and no more
abbrev pub two : {X : Type 0} → (ℕ → ℕ → X) → List ℕ → Option X
two make s = with_field s (λ a r. with_field r (λ b r₁. ending r₁ (make a b)))

-- what is found of two numbers
pub two_so : {X : Type 0} (s : List ℕ) (make : ℕ → ℕ → X) (y : X) → two make s ≡ Some y →
    (a : ℕ) × (b : ℕ) × (Short a × Short b) × (s ≡ number a ++ number b) × (make a b ≡ y)
two_so s make y e =
    let f = with_so s (λ a r. with_field r (λ b r₁. ending r₁ (make a b))) y e in
    let q = last_so f.rest (make f.value) y f.found in
    (f.value, q.0, (f.short, q.1), f.is ∙ ap (λ r. number f.value ++ r) q.2, q.3)

-- two numbers are found
pub two_back : {X : Type 0} (a b : ℕ) (make : ℕ → ℕ → X) → Short a → Short b → two make (number a ++ number b) ≡ Some (make a b)
two_back a b make s t =
    with_back a (number b) (λ a r. with_field r (λ b r₁. ending r₁ (make a b))) s (λ l h. omega arith) ∙ last_back b (make a) t

-- three numbers, and no more
abbrev pub three : {X : Type 0} → (ℕ → ℕ → ℕ → X) → List ℕ → Option X
three make s = with_field s (λ a r. two (make a) r)

-- what is found of three numbers
pub three_so : {X : Type 0} (s : List ℕ) (make : ℕ → ℕ → ℕ → X) (y : X) → three make s ≡ Some y →
    (a : ℕ) × (b : ℕ) × (c : ℕ) × (Short a × Short b × Short c) × (s ≡ number a ++ (number b ++ number c)) × (make a b c ≡ y)
three_so s make y e =
    let f = with_so s (λ a r. two (make a) r) y e in
    let q = two_so f.rest (make f.value) y f.found in
    (f.value, q.0, q.1, (f.short, q.2.0, q.2.1), f.is ∙ ap (λ r. number f.value ++ r) q.3, q.4)

-- three numbers are found
pub three_back : {X : Type 0} (a b c : ℕ) (make : ℕ → ℕ → ℕ → X) → Short a → Short b → Short c →
    three make (number a ++ (number b ++ number c)) ≡ Some (make a b c)
three_back a b c make s t u =
    with_back a (number b ++ number c) (λ a r. two (make a) r) s (field_stops b (number c)) ∙ two_back b c (make a) t u

-- ---- letters

kind_so : (c : ℕ) (k : Kind) → kind_of c ≡ Some k → 32 ∷ c ∷ [] ≡ kind_field k
kind_so c k e = v (branch c 85 (Some Unified) (cond (eqb c 86) (Some Private) (cond (eqb c 72) (Some Hybrid) None)) k e)
  where
    is : (b : ℕ) (l : Kind) → c ≡ b → 32 ∷ b ∷ [] ≡ kind_field l → Some l ≡ Some k → 32 ∷ c ∷ [] ≡ kind_field k
    is b l p q r = let m : l ≡ k = cc in ap (λ (x : ℕ). 32 ∷ x ∷ []) p ∙ q ∙ ap kind_field m

    h : ((c ≡ 72) × (Some Hybrid ≡ Some k)) ⊎ (None ≡ Some k) → 32 ∷ c ∷ [] ≡ kind_field k
    h (inl p) = is 72 Hybrid p.0 refl p.1
    h (inr n) = absurd (none_some k n)

    u : ((c ≡ 86) × (Some Private ≡ Some k)) ⊎ (cond (eqb c 72) (Some Hybrid) None ≡ Some k) → 32 ∷ c ∷ [] ≡ kind_field k
    u (inl p) = is 86 Private p.0 refl p.1
    u (inr n) = h (branch c 72 (Some Hybrid) None k n)

    v : ((c ≡ 85) × (Some Unified ≡ Some k)) ⊎ (cond (eqb c 86) (Some Private) (cond (eqb c 72) (Some Hybrid) None) ≡ Some k) → 32 ∷ c ∷ [] ≡ kind_field k
    v (inl p) = is 85 Unified p.0 refl p.1
    v (inr n) = u (branch c 86 (Some Private) (cond (eqb c 72) (Some Hybrid) None) k n)

fit_so : (c : ℕ) (f : Fit) → fit_of c ≡ Some f → 32 ∷ c ∷ [] ≡ fit_field f
fit_so c f e = u (branch c 70 (Some First) (cond (eqb c 66) (Some Best) None) f e)
  where
    is : (b : ℕ) (g : Fit) → c ≡ b → 32 ∷ b ∷ [] ≡ fit_field g → Some g ≡ Some f → 32 ∷ c ∷ [] ≡ fit_field f
    is b g p q r = let m : g ≡ f = cc in ap (λ (x : ℕ). 32 ∷ x ∷ []) p ∙ q ∙ ap fit_field m

    h : ((c ≡ 66) × (Some Best ≡ Some f)) ⊎ (None ≡ Some f) → 32 ∷ c ∷ [] ≡ fit_field f
    h (inl p) = is 66 Best p.0 refl p.1
    h (inr n) = absurd (none_some f n)

    u : ((c ≡ 70) × (Some First ≡ Some f)) ⊎ (cond (eqb c 66) (Some Best) None ≡ Some f) → 32 ∷ c ∷ [] ≡ fit_field f
    u (inl p) = is 70 First p.0 refl p.1
    u (inr n) = h (branch c 66 (Some Best) None f n)

-- the kind's field and what follows it, of which f finds y
pub with_kind_so : {X : Type 0} (s : List ℕ) (f : Kind → List ℕ → Option X) (y : X) → with_kind s f ≡ Some y →
    (k : Kind) × (rest : List ℕ) × (s ≡ kind_field k ++ rest) × (f k rest ≡ Some y)
unfolding kind_on
with_kind_so [] f y e = absurd (none_some y e)
with_kind_so {X} (c ∷ []) f y e = go (eqb c 32) e
  where
    go : (b : Bool) → (elim (cond {A = Option (Kind × List ℕ)} b None None) as (λ _. Option X) [ None ↦ None | Some p ↦ f p.0 p.1 ]) ≡ Some y →
        (k : Kind) × (rest : List ℕ) × (c ∷ [] ≡ kind_field k ++ rest) × (f k rest ≡ Some y)
    go true e = absurd (none_some y e)
    go false e = absurd (none_some y e)
with_kind_so {X} (c ∷ (d ∷ ds)) f y e = go (eqb c 32) refl (kind_of d) refl e
  where
    go : (b : Bool) → eqb c 32 ≡ b → (o : Option Kind) → kind_of d ≡ o →
        (elim (cond {A = Option (Kind × List ℕ)} b (option_map (λ k. (k, ds)) o) None) as (λ _. Option X) [ None ↦ None | Some p ↦ f p.0 p.1 ]) ≡ Some y →
        (k : Kind) × (rest : List ℕ) × (c ∷ (d ∷ ds) ≡ kind_field k ++ rest) × (f k rest ≡ Some y)
    go false t o u e = absurd (none_some y e)
    go true t None u e = absurd (none_some y e)
    go true t (Some k) u e =
        (k, ds, ap (λ (x : ℕ). x ∷ (d ∷ ds)) (eqb-true c 32 t) ∙ ap (λ (xs : List ℕ). xs ++ ds) (kind_so d k u), e)

-- the kind's field is found
pub with_kind_back : {X : Type 0} (k : Kind) (rest : List ℕ) (f : Kind → List ℕ → Option X) → with_kind (kind_field k ++ rest) f ≡ f k rest
unfolding kind_on
with_kind_back Unified rest f = refl
with_kind_back Private rest f = refl
with_kind_back Hybrid rest f = refl

-- the fit's field, and no more
pub fit_line_so : (s : List ℕ) (e : Entry) → fit_line_of s ≡ Some e → (f : Fit) × (s ≡ fit_field f) × (ByFit f ≡ e)
fit_line_so [] e h = absurd (none_some e h)
fit_line_so (c ∷ []) e h = go (eqb c 32) h
  where
    go : (b : Bool) → cond (b && false) (option_map (λ f. ByFit f) (fit_of 0)) None ≡ Some e → (f : Fit) × (c ∷ [] ≡ fit_field f) × (ByFit f ≡ e)
    go true h = absurd (none_some e h)
    go false h = absurd (none_some e h)
fit_line_so (c ∷ (d ∷ [])) e h = go (eqb c 32) refl h
  where
    go : (b : Bool) → eqb c 32 ≡ b → cond (b && true) (option_map (λ f. ByFit f) (fit_of d)) None ≡ Some e → (f : Fit) × (c ∷ (d ∷ []) ≡ fit_field f) × (ByFit f ≡ e)
    go true t h =
        let q = mapped_so (λ f. ByFit f) (fit_of d) e h in
        (q.0, ap (λ (x : ℕ). x ∷ (d ∷ [])) (eqb-true c 32 t) ∙ fit_so d q.0 q.1, q.2)
    go false t h = absurd (none_some e h)
fit_line_so (c ∷ (d ∷ (b ∷ bs))) e h = absurd (none_some e (sym (short (eqb c 32)) ∙ h))
  where
    short : (t : Bool) → cond (t && eqb (length (c ∷ (d ∷ (b ∷ bs)))) 2) (option_map (λ f. ByFit f) (fit_of d)) None ≡ None
    short true = rw (ne_eqb (length (c ∷ (d ∷ (b ∷ bs)))) 2 (omega arith))
    short false = refl

-- the fit's field is found
pub fit_line_back : (f : Fit) → fit_line_of (fit_field f) ≡ Some (ByFit f)
fit_line_back First = refl
fit_line_back Best = refl
