-- Links whose ends are actors.
use Rattle.std.proofs.Common.{◌≡◌, ℕ, ◌<◌, true, ◌&&◌, ltb, List, [], ◌∷◌, ◌++◌, refl, ap, ◌∙◌}
use Rattle.std.proofs.lemmas.Bool.{and_parts, and_from, lt-ltb, ltb-true}
use Rattle.rules.specs.declared.sheet.Link.{Link}
use Rattle.rules.specs.declared.sheet.Link.TheVariants.{Plain, Delayed, Ordered}
use Rattle.rules.specs.Drafts.{from, to}
use Rattle.rules.specs.Lists.{Every}
use Rattle.rules.specs.Order.{Ends}
use Rattle.graph.specs.Seats.{all_known}

known_appended : (n : ℕ) (links : List Link) (k : Link) → all_known n links ≡ true → from k < n → to k < n → all_known n (links ++ k ∷ []) ≡ true
known_appended n [] k all l m = and_from (ltb (from k) n && ltb (to k) n) true (and_from (ltb (from k) n) (ltb (to k) n) (lt-ltb (from k) n l) (lt-ltb (to k) n m)) refl
known_appended n (j ∷ js) k all l m =
    let p = and_parts (ltb (from j) n && ltb (to j) n) (all_known n js) all in
    and_from (ltb (from j) n && ltb (to j) n) (all_known n (js ++ k ∷ [])) p.0 (known_appended n js k p.1 l m)

-- a link more between known actors
pub link_more : (n : ℕ) (links more : List Link) (k : Link) → all_known n links ≡ true → from k < n → to k < n → more ≡ links ++ k ∷ [] → all_known n more ≡ true
link_more n links more k all l m e = ap (λ ks. all_known n ks) e ∙ known_appended n links k all l m

ends_of : (n : ℕ) (k : Link) → from k < n → to k < n → Ends n k
ends_of n (Plain f) l m = (l, m)
ends_of n (Delayed f) l m = (l, m)
ends_of n (Ordered q) l m = (l, m)

-- all links join actors
pub all_ends : (n : ℕ) (links : List Link) → all_known n links ≡ true → Every (Ends n) links
all_ends n [] all = tt
all_ends n (k ∷ ks) all =
    let p = and_parts (ltb (from k) n && ltb (to k) n) (all_known n ks) all in
    let q = and_parts (ltb (from k) n) (ltb (to k) n) p.0 in
    (ends_of n k (ltb-true (from k) n q.0) (ltb-true (to k) n q.1), all_ends n ks p.1)
