-- Placing turn by turn: what stands when some objects have had their turn, and what one turn more does.
use Rattle.std.proofs.Common.{◌≡◌, ℕ, ◌+◌, ◌⊎◌, ◌↔◌, List, [], ◌∷◌, ◌++◌, Some, None, Option, sym, refl, ap, ◌∙◌, subst, inl, inr, ⊎_elim, arith}
use Rattle.std.proofs.lemmas.Bool.{cases_eq}
use Rattle.rules.specs.declared.memory.Stretch.{Stretch}
use Rattle.rules.specs.Lists.{◌∈◌, Every, Any}
use Rattle.rules.specs.Stretches.{Covers, Gaps, Blocked}
use Rattle.rules.specs.Fitting.{Rule}
use Rattle.rules.specs.Standings.{InTurn, Standing, Answered}
use Rattle.rules.specs.Placing.{Bank, Places, Earlier, Taken, ByTheRule, Placing, Full, LacksSpace}
use Rattle.rules.proofs.Members.{any_at, all_at}
use Rattle.rules.proofs.Joined.{some_one, any_cases, any_left, any_right}
use Rattle.rules.proofs.GapLists.{gaps_to}
use Rattle.rules.proofs.Turns.{earlier_trans, never_earlier_itself}
use Rattle.rules.proofs.Rounds.{absent?}
use Rattle.rules.proofs.Agreeing.{seen_alike, by_the_rule_alike}

module _ (bank : Bank) where
  -- those listed before x are earlier
  pub earlier_in_front : (front : List ℕ) (x : ℕ) (back : List ℕ) → InTurn bank (front ++ x ∷ back) → (y : ℕ) → y ∈ front → Earlier bank y x
  earlier_in_front [] x back t y i = absurd i
  earlier_in_front (z ∷ front) x back t y (inl e) =
      subst (λ w. Earlier bank w x) (sym e) (all_at (λ w. Earlier bank z w) x (front ++ x ∷ back) (any_right (λ w. x ≡ w) front (x ∷ back) (inl refl)) t.0)
  earlier_in_front (z ∷ front) x back t y (inr i) = earlier_in_front front x back t.1 y i

  -- those listed behind x are later
  later_behind : (front : List ℕ) (x : ℕ) (back : List ℕ) → InTurn bank (front ++ x ∷ back) → (y : ℕ) → y ∈ back → Earlier bank x y
  later_behind [] x back t y i = all_at (λ w. Earlier bank x w) y back i t.0
  later_behind (z ∷ front) x back t y i = later_behind front x back t.1 y i

  -- those of the list that are earlier than x are listed before it
  pub front_has_the_earlier : (front : List ℕ) (x : ℕ) (back : List ℕ) → InTurn bank (front ++ x ∷ back) →
      (y : ℕ) → y ∈ (front ++ x ∷ back) → Earlier bank y x → y ∈ front
  front_has_the_earlier front x back t y i e = by (any_cases (λ w. y ≡ w) front (x ∷ back) i)
    where
      by : y ∈ front ⊎ y ∈ (x ∷ back) → y ∈ front
      by (inl j) = j
      by (inr (inl same)) = absurd (never_earlier_itself bank x (subst (λ w. Earlier bank w x) same e))
      by (inr (inr j)) = absurd (never_earlier_itself bank x (earlier_trans bank x y x (later_behind front x back t y j) e))

  -- items that say where the objects with a place lie
  module _ {I : Type 0} (object : I → ℕ) (on : I → Stretch) (places : Places) (items : List I) where
    -- each lies where it is placed
    abbrev pub Rightly : I → Type 0
    Rightly it = (places (object it) ≡ Some (on it).start) × ((on it).end ≡ (on it).start + bank.size (object it))

    -- the bytes of the items that exclude x are those that are taken at its turn, where all items are earlier
    pub gaps_seen : (x : ℕ) → Every Rightly items → ((y p : ℕ) → places y ≡ Some p → Any (λ it. object it ≡ y) items) →
        Every (λ it. (object it ∈ bank.objects) × Earlier bank (object it) x) items →
        (blocked : List Stretch) → ((b : ℕ) → Blocked blocked b ↔ Any (λ it. bank.Excludes (object it) x × Covers (on it) b) items) →
        (gs : List Stretch) → Gaps bank.capacity (Blocked blocked) gs → Gaps bank.capacity (Taken bank places x) gs
    gaps_seen x rightly found early blocked same gs G = gaps_to bank.capacity (Blocked blocked) (Taken bank places x) to back gs G
      where
        to : (b : ℕ) → Blocked blocked b → Taken bank places x b
        to b t =
            let r = some_one (λ it. bank.Excludes (object it) x × Covers (on it) b) items ((same b).0 t) in
            let it = r.0 in
            let right = all_at Rightly it items r.1 rightly in
            let e = all_at (λ it. (object it ∈ bank.objects) × Earlier bank (object it) x) it items r.1 early in
            let c = r.2.1 in
            (object it, e.0, e.1, r.2.0, ((on it).start, right.0, c.0, omega (arith, right.1)))

        back : (b : ℕ) → Taken bank places x b → Blocked blocked b
        back b (y, m, e, k, (p, q, l, h)) =
            let r = some_one (λ it. object it ≡ y) items (found y p q) in
            let it = r.0 in
            let right = all_at Rightly it items r.1 rightly in
            let start : (on it).start ≡ p = same_place (places y) (on it).start p (sym (ap places r.2) ∙ right.0) q in
            let size : bank.size (object it) ≡ bank.size y = ap bank.size r.2 in
            (same b).1 (any_at (λ it. bank.Excludes (object it) x × Covers (on it) b) it items r.1
            (subst (λ z. bank.Excludes z x) (sym r.2) k, (omega arith, omega (arith, right.1))))
          where
            same_place : (o : Option ℕ) (s p : ℕ) → o ≡ Some s → o ≡ Some p → s ≡ p
            same_place o s p e f = cc

  module _ (rule : Rule) where
    -- before the first turn
    pub standing_none : Standing bank rule [] (λ y. None)
    standing_none =
        record {
          placed = λ y i. absurd i;
          by_the_rule = λ y i. absurd i;
          nothing_else = λ y p e. let z : ◌≡◌ {A = ℕ} 0 1 = cc in absurd (omega arith);
        }

    module _ (done : List ℕ) (places : Places) (standing : Standing bank rule done places) where
      -- what is not done has no place
      pub no_place_yet : (x : ℕ) → (x ∈ done → ⊥) → places x ≡ None
      no_place_yet x n = ⊎_elim (λ none. none) (λ p. absurd (n (standing.nothing_else x p.0 p.1))) (absent? (places x))

      -- one turn more, that places x
      pub standing_more : (x p : ℕ) (next : Places) → ((y : ℕ) → y ∈ done → Earlier bank y x) → Answered bank rule places x (Some p) →
          next x ≡ Some p → ((y : ℕ) → (y ≡ x → ⊥) → next y ≡ places y) → Standing bank rule (done ++ x ∷ []) next
      standing_more x p next early answered here others =
          record {
            placed = λ y i. ⊎_elim (λ j. kept_place y j) (⊎_elim (λ e. (p, ap next e ∙ here)) absurd) (cases y i);
            by_the_rule = λ y i. ⊎_elim (λ j. kept_rule y j) (⊎_elim (λ e. subst (ByTheRule bank rule next) (sym e) own) absurd) (cases y i);
            nothing_else = only;
          }
        where
          cases : (y : ℕ) → y ∈ (done ++ x ∷ []) → y ∈ done ⊎ y ∈ (x ∷ [])
          cases y i = any_cases (λ z. y ≡ z) done (x ∷ []) i

          not_x : (y : ℕ) → Earlier bank y x → y ≡ x → ⊥
          not_x y e same = never_earlier_itself bank x (subst (λ z. Earlier bank z x) same e)

          kept_place : (y : ℕ) → y ∈ done → (q : ℕ) × (next y ≡ Some q)
          kept_place y i = let r = standing.placed y i in (r.0, others y (not_x y (early y i)) ∙ r.1)

          kept_rule : (y : ℕ) → y ∈ done → ByTheRule bank rule next y
          kept_rule y i =
              by_the_rule_alike bank rule places next y
              (λ z j e. sym (others z (not_x z (earlier_trans bank z y x e (early y i))))) (sym (others y (not_x y (early y i)))) (standing.by_the_rule y i)

          own : ByTheRule bank rule next x
          own = (
            answered.gaps,
            seen_alike bank places next x (λ z i e. sym (others z (not_x z e))) answered.gaps answered.are_gaps,
            here ∙ answered.says,
          )

          only : (y q : ℕ) → next y ≡ Some q → y ∈ (done ++ x ∷ [])
          only y q e =
              ⊎_elim
              (λ same. any_right (λ z. y ≡ z) done (x ∷ []) (inl same))
              (λ different. any_left (λ z. y ≡ z) done (x ∷ []) (standing.nothing_else y q (sym (others y different) ∙ e)))
              (cases_eq y x)

      -- a turn that finds no gap
      pub standing_lacks : (x : ℕ) → x ∈ bank.objects → (x ∈ done → ⊥) → ((y : ℕ) → y ∈ bank.objects → Earlier bank y x → y ∈ done) →
          Answered bank rule places x None → LacksSpace bank rule places x
      standing_lacks x m not_done all answered =
          let none = no_place_yet x not_done in
          record {
            of_the_bank = m;
            by_the_rule = (answered.gaps, answered.are_gaps, none ∙ answered.says);
            absent = none;
            earlier_by_the_rule = λ y i e. standing.by_the_rule y (all y i e);
            earlier_placed = λ y i e. standing.placed y (all y i e);
          }

      -- after the last turn
      pub standing_placing : ((x : ℕ) → x ∈ bank.objects → x ∈ done) → Placing bank rule places
      standing_placing all x m = standing.by_the_rule x (all x m)

      -- and then every object has its place
      pub standing_full : ((x : ℕ) → x ∈ bank.objects → x ∈ done) → Full bank places
      standing_full all x m = standing.placed x (all x m)
