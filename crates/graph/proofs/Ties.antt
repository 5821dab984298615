-- A table holds the order of links with one link more.
use Rattle.std.proofs.Common.{◌≡◌, ℕ, ◌+◌, Bool, true, false, ◌&&◌, eqb, List, [], ◌∷◌, ◌++◌, sym, refl, ap, ◌∙◌, subst, inl, inr, ⊎_elim, arith}
use Rattle.std.proofs.lemmas.Bool.{or_cases, or_left, or_right, and_parts, and_from, eqb-true, eq-eqb}
use Rattle.rules.specs.declared.sheet.Link.{Link}
use Rattle.rules.specs.declared.sheet.Sequence.{Sequence}
use Rattle.rules.specs.Order.{Linked, UpTo, edges}
use Rattle.rules.specs.declared.sheet.Link.TheVariants.{Plain, Delayed, Ordered}
use Rattle.rules.specs.Drafts.{Orders, from, to, fifo_count}
use Rattle.rules.proofs.Chains.{closes}
use Rattle.rules.proofs.Orderings.{linked}
use Rattle.rules.proofs.Joining.{link_adds_a_pair, other_link_adds_none}
use Rattle.graph.specs.Rows.{before, up_to, joined}
use Rattle.graph.specs.Orders.{Heard, Meant}

-- where the bit is set a chain leads
pub told : (rows : List ℕ) (links : List Link) → Meant rows links → (x y : ℕ) → before rows x y ≡ true → Linked (edges links) x y
told rows links meant x y set = ⊎_elim (λ h. h) (λ no. let clear = meant x y no in absurd (cc)) (linked (edges links) x y)

-- at or before, by rows and by chains
up_heard : (rows : List ℕ) (links : List Link) → Heard rows links → (x a : ℕ) → UpTo (edges links) x a → up_to (before rows) x a ≡ true
up_heard rows links heard x a = ⊎_elim (λ e. or_left (eqb x a) (before rows x a) (eq-eqb x a e)) (λ h. or_right (eqb x a) (before rows x a) (heard x a h))

up_told : (rows : List ℕ) (links : List Link) → Meant rows links → (x a : ℕ) → up_to (before rows) x a ≡ true → UpTo (edges links) x a
up_told rows links meant x a t =
    ⊎_elim (λ e. inl (eqb-true x a e)) (λ h. inr (told rows links meant x a h)) (or_cases (eqb x a) (before rows x a) t)

-- rows that are joined with the ends of a link hold the order with the link
pub heard_more : (rows grown : List ℕ) (links : List Link) (k : Link) → Orders k → ((x y : ℕ) → before grown x y ≡ joined (before rows) (from k) (to k) x y) →
    Heard rows links → Meant rows links → Heard grown (links ++ k ∷ [])
heard_more rows grown links k orders same heard meant x y h =
    same x y
    ∙ ⊎_elim
    (λ old. or_left (before rows x y) (up_to (before rows) x (from k) && up_to (before rows) (to k) y) (heard x y old))
    (λ via. or_right (before rows x y) (up_to (before rows) x (from k) && up_to (before rows) (to k) y)
    (and_from (up_to (before rows) x (from k)) (up_to (before rows) (to k) y) (up_heard rows links heard x (from k) via.0) (up_heard rows links heard (to k) y via.1)))
    ((closes (edges (links ++ k ∷ [])) (edges links) (from k) (to k) (link_adds_a_pair links k orders) x y).0 h)

pub meant_more : (rows grown : List ℕ) (links : List Link) (k : Link) → Orders k → ((x y : ℕ) → before grown x y ≡ joined (before rows) (from k) (to k) x y) →
    Heard rows links → Meant rows links → Meant grown (links ++ k ∷ [])
meant_more rows grown links k orders same heard meant x y none = same x y ∙ clear (joined (before rows) (from k) (to k) x y) refl
  where
    leads : joined (before rows) (from k) (to k) x y ≡ true → Linked (edges (links ++ k ∷ [])) x y
    leads t =
        (closes (edges (links ++ k ∷ [])) (edges links) (from k) (to k) (link_adds_a_pair links k orders) x y).1
        (⊎_elim
        (λ old. inl (told rows links meant x y old))
        (λ via. let v = and_parts (up_to (before rows) x (from k)) (up_to (before rows) (to k) y) via in
        inr (up_told rows links meant x (from k) v.0, up_told rows links meant (to k) y v.1))
        (or_cases (before rows x y) (up_to (before rows) x (from k) && up_to (before rows) (to k) y) t))

    clear : (u : Bool) → joined (before rows) (from k) (to k) x y ≡ u → u ≡ false
    clear true e = absurd (none (leads e))
    clear false e = refl

-- a link that orders nothing leaves the order as it is
pub heard_delayed : (rows : List ℕ) (links : List Link) (k : Link) → (Orders k → ⊥) → Heard rows links → Heard rows (links ++ k ∷ [])
heard_delayed rows links k idle heard x y h = heard x y (subst (λ es. Linked es x y) (other_link_adds_none links k idle) h)

pub meant_delayed : (rows : List ℕ) (links : List Link) (k : Link) → (Orders k → ⊥) → Meant rows links → Meant rows (links ++ k ∷ [])
meant_delayed rows links k idle meant x y none = meant x y (λ h. none (subst (λ es. Linked es x y) (sym (other_link_adds_none links k idle)) h))

-- how many FIFOs there are with one link more
pub fifo_count_more : (ks : List Link) (k : Link) → fifo_count (ks ++ k ∷ []) ≡ fifo_count ks + fifo_count (k ∷ [])
fifo_count_more [] k = omega arith
fifo_count_more (Plain f ∷ ks) k = let more = fifo_count_more ks k in omega arith
fifo_count_more (Delayed f ∷ ks) k = let more = fifo_count_more ks k in omega arith
fifo_count_more (Ordered q ∷ ks) k = fifo_count_more ks k

-- a list with a link more whose ordering was joined
pub order_pushed : (rows grown : List ℕ) (ks more : List Link) (k : Link) (q : Sequence) → more ≡ ks ++ k ∷ [] → Orders k × (q.first ≡ from k) × (q.second ≡ to k) →
    ((x y : ℕ) → before grown x y ≡ joined (before rows) q.first q.second x y) → Heard rows ks → Meant rows ks → Heard grown more × Meant grown more
order_pushed rows grown ks more k q added is same heard meant =
    let ends : (x y : ℕ) → before grown x y ≡ joined (before rows) (from k) (to k) x y = λ x y. same x y ∙ (ap (λ a. joined (before rows) a q.second x y) is.1 ∙ ap (λ b. joined (before rows) (from k) b x y) is.2) in
    (subst (Heard grown) (sym added) (heard_more rows grown ks k is.0 ends heard meant), subst (Meant grown) (sym added) (meant_more rows grown ks k is.0 ends heard meant))

-- and with one that makes none
pub order_kept : (rows : List ℕ) (ks more : List Link) (k : Link) → more ≡ ks ++ k ∷ [] → (Orders k → ⊥) → Heard rows ks → Meant rows ks → Heard rows more × Meant rows more
order_kept rows ks more k added idle heard meant =
    (subst (Heard rows) (sym added) (heard_delayed rows ks k idle heard), subst (Meant rows) (sym added) (meant_delayed rows ks k idle meant))
