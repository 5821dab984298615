-- Whether two objects are apart, and whether they exclude each other.
use Rattle.std.proofs.Common.{ℕ, sym, refl, inl, inr}
use Rattle.rules.specs.Sheets.{Sheet}
use Rattle.rules.specs.Objects.{object_count, first, last, always_live}
use Rattle.rules.specs.Exclusion.{Apart, Excludes}
use Rattle.rules.specs.OrderLaws.{ApartOrExcluding, ExclusionIsAGraph}
use Rattle.rules.proofs.Deciding.{Decided, turned, both, either, not, by_decision, is_false, below, same_number}
use Rattle.rules.proofs.Joining.{before}

-- whether two objects are apart
unfoldable pub apart : (s : Sheet) (x y : ℕ) → Decided (Apart s x y)
unfolding turned both either is_false before
apart s x y =
    turned
    (λ p. record { passes = p.0.0; passes_too = p.0.1; ordered = p.1 })
    (λ a. ((a.passes, a.passes_too), a.ordered))
    (both (both (is_false (always_live s x)) (λ p. is_false (always_live s y)))
    (λ p. either (before s (last s x) (first s y)) (λ n. before s (last s y) (first s x))))

-- whether two objects exclude each other
unfoldable pub excludes : (s : Sheet) (x y : ℕ) → Decided (Excludes s x y)
unfolding turned both not below same_number apart
excludes s x y =
    turned
    (λ p. record { known = p.0.0; known_too = p.0.1; different = p.1.0; not_apart = p.1.1 })
    (λ e. ((e.known, e.known_too), (e.different, e.not_apart)))
    (both (both (below x (object_count s)) (λ p. below y (object_count s))) (λ p. both (not (same_number x y)) (λ q. not (apart s x y))))

-- of two different objects: apart, exactly when they do not exclude each other
pub apart_or_excluding : ApartOrExcluding
apart_or_excluding s x y known known_too different = (
  λ none. by_decision (apart s x y) (λ n. none (record { known = known; known_too = known_too; different = different; not_apart = n })),
  λ a e. e.not_apart a,
)

-- apart goes both ways
turned_round : (s : Sheet) (x y : ℕ) → Apart s y x → Apart s x y
turned_round s x y a = record { passes = a.passes_too; passes_too = a.passes; ordered = elim a.ordered [ inl b ↦ inr b | inr b ↦ inl b ] }

-- no object excludes itself, and exclusion goes both ways
pub exclusion_is_a_graph : ExclusionIsAGraph
exclusion_is_a_graph =
    record {
      never_itself = λ s x e. e.different refl;
      both_ways = λ s x y e. record { known = e.known_too; known_too = e.known; different = λ p. e.different (sym p); not_apart = λ a. e.not_apart (turned_round s x y a) };
    }
