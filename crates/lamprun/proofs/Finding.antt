-- The calls that are found in lines that begin with their words.
use Rattle.std.proofs.Common.{◌≡◌, ℕ, List, ◌++◌, get_or, Some, codes, ap, ◌∙◌, subst, arith}
use Rattle.std.specs.Option.{option_map}
use Rattle.rules.specs.Fields.{lone_of}
use Rattle.rules.specs.Spelling.{number, Short}
use Rattle.rules.proofs.LineFields.{mapped_so, last_so, last_back, two_so, two_back}
use Rattle.run.specs.declared.call.Call.{Call}
use Rattle.run.specs.declared.call.Call.TheVariants.{Start, Finish, Order, Round}
use Rattle.lamprun.specs.Calls.{Spells, Finds, pair_of}

-- the first byte of a line
abbrev first : List ℕ → ℕ
first s = get_or s 0 0

-- the call that was made is the one that was found
made : (line : List ℕ) (d c : Call) → d ≡ c → Spells line d → Spells line c
made line d c e h = subst (Spells line) e h

-- a line is a start's exactly where its field is the number
pub start_found : (fields : List ℕ) → Finds (codes "start" ++ fields) (option_map (λ a. Start a) (lone_of fields))
start_found fields c = (so, back c)
  where
    so : option_map (λ a. Start a) (lone_of fields) ≡ Some c → Spells (codes "start" ++ fields) c
    so e =
        let q = mapped_so (λ a. Start a) (lone_of fields) c e in
        let t = last_so fields (λ a. a) q.0 q.1 in
        made (codes "start" ++ fields) (Start q.0) c q.2 (subst Short t.3 t.1, ap (λ xs. codes "start" ++ xs) (t.2 ∙ ap number t.3))

    back : (d : Call) → Spells (codes "start" ++ fields) d → option_map (λ a. Start a) (lone_of fields) ≡ Some d
    back (Start a) h =
        let e : fields ≡ number a = let p = h.1 in cc in
        ap (λ s. option_map (λ a. Start a) (lone_of s)) e ∙ ap (option_map (λ a. Start a)) (last_back a (λ n. n) h.0)
    back (Finish a) h = let z : ◌≡◌ {A = ℕ} 115 102 = ap first h.1 in absurd (omega arith)
    back (Order a b) h = let z : ◌≡◌ {A = ℕ} 115 111 = ap first h.1 in absurd (omega arith)
    back Round h = let z : ◌≡◌ {A = ℕ} 115 114 = ap first h.1 in absurd (omega arith)

-- a line is a finish's exactly where its field is the number
pub finish_found : (fields : List ℕ) → Finds (codes "finish" ++ fields) (option_map (λ a. Finish a) (lone_of fields))
finish_found fields c = (so, back c)
  where
    so : option_map (λ a. Finish a) (lone_of fields) ≡ Some c → Spells (codes "finish" ++ fields) c
    so e =
        let q = mapped_so (λ a. Finish a) (lone_of fields) c e in
        let t = last_so fields (λ a. a) q.0 q.1 in
        made (codes "finish" ++ fields) (Finish q.0) c q.2 (subst Short t.3 t.1, ap (λ xs. codes "finish" ++ xs) (t.2 ∙ ap number t.3))

    back : (d : Call) → Spells (codes "finish" ++ fields) d → option_map (λ a. Finish a) (lone_of fields) ≡ Some d
    back (Finish a) h =
        let e : fields ≡ number a = let p = h.1 in cc in
        ap (λ s. option_map (λ a. Finish a) (lone_of s)) e ∙ ap (option_map (λ a. Finish a)) (last_back a (λ n. n) h.0)
    back (Start a) h = let z : ◌≡◌ {A = ℕ} 102 115 = ap first h.1 in absurd (omega arith)
    back (Order a b) h = let z : ◌≡◌ {A = ℕ} 102 111 = ap first h.1 in absurd (omega arith)
    back Round h = let z : ◌≡◌ {A = ℕ} 102 114 = ap first h.1 in absurd (omega arith)

-- a line is an ordering's exactly where its fields are the two numbers
pub order_found : (fields : List ℕ) → Finds (codes "order" ++ fields) (option_map (λ p. Order p.0 p.1) (pair_of fields))
order_found fields c = (so, back c)
  where
    so : option_map (λ p. Order p.0 p.1) (pair_of fields) ≡ Some c → Spells (codes "order" ++ fields) c
    so e =
        let q = mapped_so (λ p. Order p.0 p.1) (pair_of fields) c e in
        let t = two_so fields (λ a b. (a, b)) q.0 q.1 in
        made (codes "order" ++ fields) (Order t.0 t.1) c (ap (λ p. Order p.0 p.1) t.4 ∙ q.2) (t.2, ap (λ xs. codes "order" ++ xs) t.3)

    back : (d : Call) → Spells (codes "order" ++ fields) d → option_map (λ p. Order p.0 p.1) (pair_of fields) ≡ Some d
    back (Order a b) h =
        let e : fields ≡ number a ++ number b = let p = h.1 in cc in
        ap (λ s. option_map (λ p. Order p.0 p.1) (pair_of s)) e ∙ ap (option_map (λ p. Order p.0 p.1)) (two_back a b (λ x y. (x, y)) h.0.0 h.0.1)
    back (Start a) h = let z : ◌≡◌ {A = ℕ} 111 115 = ap first h.1 in absurd (omega arith)
    back (Finish a) h = let z : ◌≡◌ {A = ℕ} 111 102 = ap first h.1 in absurd (omega arith)
    back Round h = let z : ◌≡◌ {A = ℕ} 111 114 = ap first h.1 in absurd (omega arith)
