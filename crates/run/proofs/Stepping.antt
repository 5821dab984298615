-- Each way of a call is a step of the law of runs.
use Rattle.std.proofs.Common.{◌≡◌, ℕ, ◌<◌, ◌≤◌, true, false, ◌&&◌, eqb, ◌≢◌, ◌⊎◌, ◌↔◌, List, length, get_or, set, replicate, sym, ap, ◌∙◌, inl, inr, ⊎_elim, arith}
use Rattle.std.proofs.lemmas.Bool.{or_cases, or_left, or_right, and_parts, and_from, eqb-true, eq-eqb}
use Rattle.rules.specs.Lists.{Lowest}
use Rattle.rules.specs.Sheets.{Sheet, actor_count}
use Rattle.rules.specs.Order.{Before}
use Rattle.rules.specs.Runs.{Phase, waiting, running, finished, State, phase, Started, Finished, Ahead, Call, start, finish, order, round, Meets, start_unknown, start_again, start_early, finish_unknown, finish_idle, order_unknown, order_equal, order_against, order_late, round_early, granted, refused, after, grants, refuses, fresh}
use Rattle.rules.proofs.Answered.{Early, Unready}
use Rattle.rules.proofs.Orderly.{added_ordering_closes}
use Rattle.graph.specs.Rows.{before, joined, up_to}
use Rattle.run.specs.declared.phase.ActorRecord.{ActorRecord}
use Rattle.run.specs.Records.{as_phase, begun, ended, idle, phases_of, phase_in}
use Rattle.run.specs.Views.{Shows, Steps, Over, Free, Late}
use Rattle.run.proofs.Recorded.{phases_set, phases_length, phases_idle}
use Rattle.run.proofs.Least.{least_start, least_finish, least_order, least_round, allowed}

-- a fresh run
pub shows_fresh : (s : Sheet) (rows : List ℕ) → actor_count s ≤ 64 → ((a b : ℕ) → (before rows a b ≡ true) ↔ Before s a b) →
    Shows s (replicate 64 idle) rows (fresh s)
shows_fresh s rows few same = record { phases = sym (phases_idle (actor_count s) 64 few); order = same }

module _ (s : Sheet) (rs : List ActorRecord) (rows : List ℕ) where
  -- a state that is shown has the phases of the records
  pub shown_phase : (st : State) → Shows s rs rows st → (a : ℕ) → phase st a ≡ phase_in s rs a
  shown_phase st sh a = ap (λ (ps : List Phase). get_or ps a waiting) sh.phases

  -- a refused call leaves the state
  stays : (c : Call) (n : ℕ) → ((st : State) → Shows s rs rows st → Lowest (Meets s st c) n) → Steps s c (refused n) rs rows rs rows
  stays c n low st sh = (st, refuses (low st sh), sh)

  pub start_unknown_steps : (a : ℕ) → actor_count s ≤ a → Steps s (start a) (refused 6) rs rows rs rows
  start_unknown_steps a l =
      stays (start a) 6 (λ st sh. record {
        holds = start_unknown l;
        least = least_start s st a 6 (λ u. omega arith) (λ u. omega arith) (λ u. omega arith);
      })

  pub start_again_steps : (a : ℕ) → a < actor_count s → phase_in s rs a ≢ waiting → Steps s (start a) (refused 12) rs rows rs rows
  start_again_steps a l on =
      stays (start a) 12 (λ st sh. record {
        holds = start_again (λ w. on (sym (shown_phase st sh a) ∙ w));
        least = least_start s st a 12 (λ u. absurd (omega arith)) (λ u. omega arith) (λ u. omega arith);
      })

  pub start_early_steps : (a : ℕ) → a < actor_count s → phase_in s rs a ≡ waiting → Free s rs rows a false → Steps s (start a) (refused 13) rs rows rs rows
  start_early_steps a l idle early =
      let b = early.0 in
      stays (start a) 13 (λ st sh. record {
        holds = start_early ((sh.order b a).0 early.1) (λ done. early.2 (sym (shown_phase st sh b) ∙ done));
        least = least_start s st a 13 (λ u. absurd (omega arith)) (λ u. absurd (u (shown_phase st sh a ∙ idle))) (λ u. omega arith);
      })

  -- a granted start or finish writes one record
  writes : (st : State) (a : ℕ) (r : ActorRecord) (p : Phase) → as_phase r.phase ≡ p → Shows s rs rows st →
      Shows s (set rs a r) rows (record { phases = set st.phases a p; added = st.added })
  writes st a r p e sh =
      record {
        phases = ap (λ (ps : List Phase). set ps a p) sh.phases
            ∙ (ap (λ (q : Phase). set (phases_of (actor_count s) rs) a q) (sym e) ∙ sym (phases_set (actor_count s) rs a r));
        order = sh.order;
      }

  pub start_steps : (a : ℕ) (r : ActorRecord) → r ≡ begun → a < actor_count s → phase_in s rs a ≡ waiting → Free s rs rows a true →
      Steps s (start a) granted rs rows (set rs a r) rows
  start_steps a r e l idle free st sh = (
    after st (start a),
    grants (allowed s st (start a) (least_start s st a 16 (λ u. absurd (omega arith)) (λ u. absurd (u (shown_phase st sh a ∙ idle))) unfree)),
    writes st a r running (ap (λ (q : ActorRecord). as_phase q.phase) e) sh,
  )
    where
      unfree : Early s st a → 16 ≤ 13
      unfree u = absurd (u.2 (shown_phase st sh u.0 ∙ free u.0 ((sh.order u.0 a).1 u.1)))

  pub finish_unknown_steps : (a : ℕ) → actor_count s ≤ a → Steps s (finish a) (refused 6) rs rows rs rows
  finish_unknown_steps a l =
      stays (finish a) 6 (λ st sh. record { holds = finish_unknown l; least = least_finish s st a 6 (λ u. omega arith) (λ u. omega arith) })

  pub finish_idle_steps : (a : ℕ) → a < actor_count s → phase_in s rs a ≢ running → Steps s (finish a) (refused 12) rs rows rs rows
  finish_idle_steps a l off =
      stays (finish a) 12 (λ st sh. record {
        holds = finish_idle (λ on. off (sym (shown_phase st sh a) ∙ on));
        least = least_finish s st a 12 (λ u. absurd (omega arith)) (λ u. omega arith);
      })

  pub finish_steps : (a : ℕ) (r : ActorRecord) → r ≡ ended → a < actor_count s → phase_in s rs a ≡ running → Steps s (finish a) granted rs rows (set rs a r) rows
  finish_steps a r e l on st sh = (
    after st (finish a),
    grants (allowed s st (finish a) (least_finish s st a 16 (λ u. absurd (omega arith)) (λ u. absurd (u (shown_phase st sh a ∙ on))))),
    writes st a r finished (ap (λ (q : ActorRecord). as_phase q.phase) e) sh,
  )

  pub order_unknown_steps : (a b : ℕ) → (actor_count s ≤ a) ⊎ (actor_count s ≤ b) → Steps s (order a b) (refused 6) rs rows rs rows
  order_unknown_steps a b l =
      stays (order a b) 6 (λ st sh. record {
        holds = order_unknown l;
        least = least_order s st a b 6 (λ u. omega arith) (λ u. omega arith) (λ u. omega arith) (λ u v. omega arith);
      })

  module _ (a b : ℕ) (known : a < actor_count s) (known' : b < actor_count s) where
    known_both : (k : ℕ) → (actor_count s ≤ a) ⊎ (actor_count s ≤ b) → k ≤ 6
    known_both k (inl l) = absurd (omega arith)
    known_both k (inr l) = absurd (omega arith)

    pub order_equal_steps : a ≡ b → Steps s (order a b) (refused 8) rs rows rs rows
    order_equal_steps e =
        stays (order a b) 8 (λ st sh. record {
          holds = order_equal e;
          least = least_order s st a b 8 (known_both 8) (λ u. omega arith) (λ u. omega arith) (λ u v. omega arith);
        })

    pub order_against_steps : a ≢ b → before rows b a ≡ true → Steps s (order a b) (refused 10) rs rows rs rows
    order_against_steps differ against =
        stays (order a b) 10 (λ st sh. record {
          holds = order_against ((sh.order b a).0 against);
          least = least_order s st a b 10 (known_both 10) (λ e. absurd (differ e)) (λ u. omega arith) (λ u v. omega arith);
        })

    -- the rows do not put b before a
    module _ (differ : a ≢ b) (with_it : before rows b a ≡ true → ⊥) where
      pub order_late_steps : Late (phase_in s rs a) (phase_in s rs b) true → Steps s (order a b) (refused 14) rs rows rs rows
      order_late_steps late =
          stays (order a b) 14 (λ st sh. record {
            holds = order_late (λ w. late.0 (sym (shown_phase st sh b) ∙ w)) (λ done. late.1 (sym (shown_phase st sh a) ∙ done));
            least = least_order s st a b 14 (known_both 14) (λ e. absurd (differ e)) (λ u. absurd (with_it ((sh.order b a).1 u))) (λ u v. omega arith);
          })

      pub order_steps : (rows' : List ℕ) → ((x y : ℕ) → before rows' x y ≡ joined (before rows) a b x y) → Late (phase_in s rs a) (phase_in s rs b) false →
          Steps s (order a b) granted rs rows rs rows'
      order_steps rows' same early st sh = (
        after st (order a b),
        grants (allowed s st (order a b) (least_order s st a b 16 (known_both 16) (λ e. absurd (differ e)) (λ u. absurd (with_it ((sh.order b a).1 u))) in_time)),
        record { phases = sh.phases; order = λ x y. (there x y, back x y) },
      )
        where
          in_time : Started st b → (Finished st a → ⊥) → 16 ≤ 14
          in_time on off = absurd (early (λ w. on (shown_phase st sh b ∙ w)) (λ done. off (shown_phase st sh a ∙ done)))

          up : (x y : ℕ) → up_to (before rows) x y ≡ true → (x ≡ y) ⊎ Ahead s st x y
          up x y t = ⊎_elim (λ e. inl (eqb-true x y e)) (λ h. inr ((sh.order x y).0 h)) (or_cases (eqb x y) (before rows x y) t)

          down : (x y : ℕ) → (x ≡ y) ⊎ Ahead s st x y → up_to (before rows) x y ≡ true
          down x y = ⊎_elim (λ e. or_left (eqb x y) (before rows x y) (eq-eqb x y e)) (λ h. or_right (eqb x y) (before rows x y) ((sh.order x y).1 h))

          there : (x y : ℕ) → before rows' x y ≡ true → Ahead s (after st (order a b)) x y
          there x y t =
              (added_ordering_closes s st a b x y).1
              (⊎_elim (λ old. inl ((sh.order x y).0 old))
              (λ via. let v = and_parts (up_to (before rows) x a) (up_to (before rows) b y) via in inr (up x a v.0, up b y v.1))
              (or_cases (before rows x y) (up_to (before rows) x a && up_to (before rows) b y) (sym (same x y) ∙ t)))

          back : (x y : ℕ) → Ahead s (after st (order a b)) x y → before rows' x y ≡ true
          back x y h =
              same x y
              ∙ ⊎_elim (λ old. or_left (before rows x y) (up_to (before rows) x a && up_to (before rows) b y) ((sh.order x y).1 old))
              (λ via. or_right (before rows x y) (up_to (before rows) x a && up_to (before rows) b y)
              (and_from (up_to (before rows) x a) (up_to (before rows) b y) (down x a via.0) (down b y via.1)))
              ((added_ordering_closes s st a b x y).0 h)

  pub round_early_steps : Over s rs false → Steps s round (refused 15) rs rows rs rows
  round_early_steps early =
      stays round 15 (λ st sh. record {
        holds = round_early early.1 (λ done. early.2 (sym (shown_phase st sh early.0) ∙ done));
        least = least_round s st 15 (λ u. omega arith);
      })

  pub round_steps : actor_count s ≤ length rs → actor_count s ≤ 64 → Over s rs true → Steps s round granted rs rows (replicate 64 idle) rows
  round_steps long few over st sh = (
    after st round,
    grants (allowed s st round (least_round s st 16 unready)),
    record {
      phases = ap (λ (n : ℕ). replicate n waiting) (ap (λ (ps : List Phase). length ps) sh.phases ∙ phases_length (actor_count s) rs long)
          ∙ sym (phases_idle (actor_count s) 64 few);
      order = sh.order;
    },
  )
    where
      unready : Unready s st → 16 ≤ 15
      unready u = absurd (u.2 (shown_phase st sh u.0 ∙ over u.0 u.1))
