-- The order of a sheet: whether one actor is before another, what a link more changes, and induction along it.
use Rattle.std.proofs.Common.{◌≡◌, ℕ, List, [], ◌∷◌, ◌++◌, sym, refl, ap, ◌∙◌, subst, inl, inr, append-nil}
use Rattle.std.proofs.ByRecursion.{All-push}
use Rattle.rules.specs.declared.sheet.Link.{Link}
use Rattle.rules.specs.declared.sheet.Link.TheVariants.{Plain, Delayed, Ordered}
use Rattle.rules.specs.Sheets.{Sheet, actor_count}
use Rattle.rules.specs.Order.{edges, Before, Ends, OrderedSheet}
use Rattle.rules.specs.Drafts.{Orders, by_fifo, by_sequence, from, to}
use Rattle.rules.specs.OrderLaws.{with_link, MayJoin, LinkTestsExact, BeforeIsDecided}
use Rattle.rules.proofs.Members.{all_at}
use Rattle.rules.proofs.Joined.{any_right}
use Rattle.rules.proofs.Chains.{OneMore, one_behind}
use Rattle.rules.proofs.Deciding.{Decided, turned, both, all_decided, below}
use Rattle.rules.proofs.Orderings.{linked, NoCircle, no_circle_decided, still_no_circle, ends_differ, ends_agree, linked_induction, Induction}

-- whether actor a is before actor b
unfoldable pub before : (s : Sheet) (a b : ℕ) → Decided (Before s a b)
unfolding linked
before s a b = linked (edges s.links) a b

-- which is a law of order
pub before_is_decided : BeforeIsDecided
before_is_decided s a b = before s a b

-- whether both ends of a link are actors
unfoldable pub ends : (count : ℕ) (k : Link) → Decided (Ends count k)
unfolding both below
ends count (Plain f) = both (below f.from count) (λ l. below f.to count)
ends count (Delayed f) = both (below f.from count) (λ l. below f.to count)
ends count (Ordered q) = both (below q.first count) (λ l. below q.second count)

-- whether the order of a sheet can be kept
unfoldable pub ordered_sheet : (s : Sheet) → Decided (OrderedSheet s)
unfolding turned both all_decided ends no_circle_decided
ordered_sheet s =
    turned
    (λ p. record { ends = p.0; no_circle = p.1 })
    (λ o. (o.ends, o.no_circle))
    (both (all_decided (Ends (actor_count s)) (ends (actor_count s)) s.links) (λ e. no_circle_decided (edges s.links)))

-- what holds of an actor where it holds of all before it holds of every actor
pub before_induction : (s : Sheet) → OrderedSheet s → Induction (edges s.links)
before_induction s sound = linked_induction (edges s.links) sound.no_circle

-- joined links order what both order
pub edges_append : (ks ls : List Link) → edges (ks ++ ls) ≡ edges ks ++ edges ls
edges_append [] ls = refl
edges_append (Plain f ∷ ks) ls = ap (λ (es : List (ℕ × ℕ)). (f.from, f.to) ∷ es) (edges_append ks ls)
edges_append (Delayed f ∷ ks) ls = edges_append ks ls
edges_append (Ordered q ∷ ks) ls = ap (λ (es : List (ℕ × ℕ)). (q.first, q.second) ∷ es) (edges_append ks ls)

-- a link that orders its ends adds one pair
pub link_adds_a_pair : (ks : List Link) (k : Link) → Orders k → OneMore (edges (ks ++ k ∷ [])) (edges ks) (from k) (to k)
link_adds_a_pair ks k (by_fifo f) =
    subst (λ (es : List (ℕ × ℕ)). OneMore es (edges ks) f.from f.to) (sym (edges_append ks (Plain f ∷ []))) (one_behind (edges ks) f.from f.to)
link_adds_a_pair ks k (by_sequence q) =
    subst (λ (es : List (ℕ × ℕ)). OneMore es (edges ks) q.first q.second) (sym (edges_append ks (Ordered q ∷ []))) (one_behind (edges ks) q.first q.second)

-- any other link adds none
pub other_link_adds_none : (ks : List Link) (k : Link) → (Orders k → ⊥) → edges (ks ++ k ∷ []) ≡ edges ks
other_link_adds_none ks (Plain f) none = absurd (none (by_fifo f))
other_link_adds_none ks (Delayed f) none = edges_append ks (Delayed f ∷ []) ∙ append-nil (edges ks)
other_link_adds_none ks (Ordered q) none = absurd (none (by_sequence q))

-- whether a link orders its ends
unfoldable pub orders : (k : Link) → Decided (Orders k)
orders (Plain f) = inl (by_fifo f)
orders (Delayed f) = inr (λ o. elim o [ ])
orders (Ordered q) = inl (by_sequence q)

-- the tests of a link keep the order, and none of them is needless
pub link_tests_exact : LinkTestsExact
link_tests_exact s sound k = (λ m. record { ends = All-push (Ends (actor_count s)) s.links k sound.ends m.ends; no_circle = open_still m (orders k) }, back)
  where
    open_still : MayJoin s k → Decided (Orders k) → NoCircle (edges (s.links ++ k ∷ []))
    open_still m (inl o) =
        still_no_circle (edges (s.links ++ k ∷ [])) (edges s.links) (from k) (to k) (link_adds_a_pair s.links k o) sound.no_circle
        (m.different o) (m.not_against o)
    open_still m (inr none) = subst NoCircle (sym (other_link_adds_none s.links k none)) sound.no_circle

    back : OrderedSheet (with_link s k) → MayJoin s k
    back t =
        record {
          ends = all_at (Ends (actor_count s)) k (s.links ++ k ∷ []) (any_right (λ l. k ≡ l) s.links (k ∷ []) (inl refl)) t.ends;
          different = λ o. ends_differ (edges (s.links ++ k ∷ [])) (edges s.links) (from k) (to k) (link_adds_a_pair s.links k o) t.no_circle;
          not_against = λ o c. ends_agree (edges (s.links ++ k ∷ [])) (edges s.links) (from k) (to k) (link_adds_a_pair s.links k o) t.no_circle c;
        }
