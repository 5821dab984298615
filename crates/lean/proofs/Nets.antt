-- Net changes, link by link.
use Rattle.std.proofs.Common.{◌≡◌, ℕ, zero, suc, ◌+◌, ◌<◌, ◌≤◌, List, [], ◌∷◌, ◌++◌, length, get_or, take, ap, ◌∙◌, arith}
use Rattle.std.proofs.lemmas.List.{take_more}
use Rattle.rules.specs.declared.sheet.Link.{Link}
use Rattle.rules.specs.declared.sheet.Link.TheVariants.{Plain, Delayed, Ordered}
use Rattle.rules.specs.Drafts.{fifo_count}
use Rattle.rules.specs.Lean.{produced, consumed}

produced_push : (ks : List Link) (k : Link) (a : ℕ) → produced (ks ++ k ∷ []) a ≡ produced ks a + produced (k ∷ []) a
produced_push [] k a = omega arith
produced_push (Plain f ∷ ks) k a = let more = produced_push ks k a in omega arith
produced_push (Delayed f ∷ ks) k a = produced_push ks k a
produced_push (Ordered q ∷ ks) k a = produced_push ks k a

consumed_push : (ks : List Link) (k : Link) (a : ℕ) → consumed (ks ++ k ∷ []) a ≡ consumed ks a + consumed (k ∷ []) a
consumed_push [] k a = omega arith
consumed_push (Plain f ∷ ks) k a = let more = consumed_push ks k a in omega arith
consumed_push (Delayed f ∷ ks) k a = consumed_push ks k a
consumed_push (Ordered q ∷ ks) k a = consumed_push ks k a

fifos_push : (ks : List Link) (k : Link) → fifo_count (ks ++ k ∷ []) ≡ fifo_count ks + fifo_count (k ∷ [])
fifos_push [] k = omega arith
fifos_push (Plain f ∷ ks) k = let more = fifos_push ks k in omega arith
fifos_push (Delayed f ∷ ks) k = let more = fifos_push ks k in omega arith
fifos_push (Ordered q ∷ ks) k = fifos_push ks k

-- the first links have no more FIFOs than all
pub fifos_of_front : (n : ℕ) (ks : List Link) → fifo_count (take n ks) ≤ fifo_count ks
fifos_of_front zero ks = omega arith
fifos_of_front (suc n) [] = omega arith
fifos_of_front (suc n) (Plain f ∷ ks) = let less = fifos_of_front n ks in omega arith
fifos_of_front (suc n) (Delayed f ∷ ks) = let less = fifos_of_front n ks in omega arith
fifos_of_front (suc n) (Ordered q ∷ ks) = fifos_of_front n ks

module _ (links : List Link) (i : ℕ) (d : Link) (known : i < length links) where
  -- one link more
  pub produced_more : (a : ℕ) → produced (take (i + 1) links) a ≡ produced (take i links) a + produced (get_or links i d ∷ []) a
  produced_more a = ap (λ ks. produced ks a) (take_more links i d known) ∙ produced_push (take i links) (get_or links i d) a

  pub consumed_more : (a : ℕ) → consumed (take (i + 1) links) a ≡ consumed (take i links) a + consumed (get_or links i d ∷ []) a
  consumed_more a = ap (λ ks. consumed ks a) (take_more links i d known) ∙ consumed_push (take i links) (get_or links i d) a

  pub fifos_more : fifo_count (take (i + 1) links) ≡ fifo_count (take i links) + fifo_count (get_or links i d ∷ [])
  fifos_more = ap fifo_count (take_more links i d known) ∙ fifos_push (take i links) (get_or links i d)
