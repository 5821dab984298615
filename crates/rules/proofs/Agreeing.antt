-- Places that agree: what the rule says of an object depends on the earlier objects alone.
use Rattle.std.proofs.Common.{◌≡◌, ℕ, ◌⊎◌, List, Some, sym, ap, ◌∙◌, inl, inr}
use Rattle.std.specs.Option.{option_map}
use Rattle.rules.specs.declared.memory.Stretch.{Stretch}
use Rattle.rules.specs.Lists.{◌∈◌}
use Rattle.rules.specs.Stretches.{Gaps}
use Rattle.rules.specs.Fitting.{Rule}
use Rattle.rules.specs.Placing.{Bank, Places, Earlier, Taken, ByTheRule, Placing, Full, LacksSpace}
use Rattle.rules.proofs.GapLists.{gaps_alike, gaps_to}
use Rattle.rules.proofs.Turns.{by_turns, one_is_earlier, earlier_trans}
use Rattle.rules.proofs.Placed.{some_or_none}

module _ (bank : Bank) where
  -- two places agree on the objects earlier than x
  abbrev pub AgreeBefore : Places → Places → ℕ → Type 0
  AgreeBefore one other x = (y : ℕ) → y ∈ bank.objects → Earlier bank y x → one y ≡ other y

  -- then what one takes for x the other takes
  pub taken_alike : (one other : Places) (x : ℕ) → AgreeBefore one other x → (b : ℕ) → Taken bank one x b → Taken bank other x b
  taken_alike one other x same b (y, m, e, k, (p, q, l, h)) = (y, m, e, k, (p, sym (same y m e) ∙ q, l, h))

  -- the gaps that x sees are the same
  pub same_gaps : (one other : Places) (x : ℕ) → AgreeBefore one other x → (gs hs : List Stretch) →
      Gaps bank.capacity (Taken bank one x) gs → Gaps bank.capacity (Taken bank other x) hs → gs ≡ hs
  same_gaps one other x same =
      gaps_alike bank.capacity (Taken bank one x) (Taken bank other x) (taken_alike one other x same)
      (taken_alike other one x (λ y m e. sym (same y m e)))

  -- gaps that x sees beside the one it sees beside the other
  pub seen_alike : (one other : Places) (x : ℕ) → AgreeBefore one other x → (gs : List Stretch) →
      Gaps bank.capacity (Taken bank one x) gs → Gaps bank.capacity (Taken bank other x) gs
  seen_alike one other x same =
      gaps_to bank.capacity (Taken bank one x) (Taken bank other x) (taken_alike one other x same)
      (taken_alike other one x (λ y m e. sym (same y m e)))

  -- places that agree on x too go by the rule alike
  pub by_the_rule_alike : (rule : Rule) (one other : Places) (x : ℕ) → AgreeBefore one other x → one x ≡ other x →
      ByTheRule bank rule one x → ByTheRule bank rule other x
  by_the_rule_alike rule one other x same here (gs, G, e) = (gs, seen_alike one other x same gs G, sym here ∙ e)

  module _ (rule : Rule) where
    -- places that agree before x, and go by the rule at x, agree at x
    pub same_turn : (one other : Places) (x : ℕ) → AgreeBefore one other x → ByTheRule bank rule one x → ByTheRule bank rule other x →
        one x ≡ other x
    same_turn one other x same (gs, G, e) (hs, H, f) =
        e ∙ ap (λ ks. option_map (λ a. a.0) (rule ks (bank.size x) bank.grain)) (same_gaps one other x same gs hs G H) ∙ sym f

    -- x and all that are earlier go by the rule
    abbrev pub ByTheRuleTo : Places → ℕ → Type 0
    ByTheRuleTo places x = ByTheRule bank rule places x × ((y : ℕ) → y ∈ bank.objects → Earlier bank y x → ByTheRule bank rule places y)

    -- places that go by the rule up to x agree at x
    pub agree : (one other : Places) (x : ℕ) → x ∈ bank.objects → ByTheRuleTo one x → ByTheRuleTo other x → one x ≡ other x
    agree one other =
        by_turns bank (λ x. ByTheRuleTo one x → ByTheRuleTo other x → one x ≡ other x)
        (λ x m before up_one up-other. same_turn one other x
        (λ y i e. before y i e
        (up_one.1 y i e, λ z j f. up_one.1 z j (earlier_trans bank z y x f e))
        (up-other.1 y i e, λ z j f. up-other.1 z j (earlier_trans bank z y x f e)))
        up_one.0 up-other.0)

    -- two placings of one bank agree on each of its objects
    pub one_placing : (one other : Places) → Placing bank rule one → Placing bank rule other → (x : ℕ) → x ∈ bank.objects → one x ≡ other x
    one_placing one other P Q x m = agree one other x m (P x m, λ y i e. P y i) (Q x m, λ y i e. Q y i)

    -- places that agree with a placing on the objects of the bank are a placing
    pub placing_alike : (one other : Places) → ((x : ℕ) → x ∈ bank.objects → one x ≡ other x) → Placing bank rule one → Placing bank rule other
    placing_alike one other same P x m = by_the_rule_alike rule one other x (λ y i e. same y i) (same x m) (P x m)

    -- an object that has its place by the rule does not lack space
    pub never_placed : (one other : Places) (x : ℕ) → x ∈ bank.objects → ByTheRuleTo one x → ((p : ℕ) × (one x ≡ Some p)) →
        LacksSpace bank rule other x → ⊥
    never_placed one other x m up (p, placed) lacks =
        some_or_none (one x) p placed (agree one other x m up (lacks.by_the_rule, lacks.earlier_by_the_rule) ∙ lacks.absent)

    -- where all are placed none lacks space
    pub none_lacks : (one other : Places) (x : ℕ) → Placing bank rule one → Full bank one → LacksSpace bank rule other x → ⊥
    none_lacks one other x P full lacks =
        let m = lacks.of_the_bank in never_placed one other x m (P x m, λ y i e. P y i) (full x m) lacks

    -- at most one object lacks space
    pub one_lacks : (one other : Places) (x y : ℕ) → LacksSpace bank rule one x → LacksSpace bank rule other y → x ≡ y
    one_lacks one other x y lacks lacks-too = by (one_is_earlier bank x y)
      where
        never : (one other : Places) (x y : ℕ) → LacksSpace bank rule one x → LacksSpace bank rule other y → Earlier bank x y → ⊥
        never one other x y lacks later e =
            let m = lacks.of_the_bank in
            never_placed other one x m
            (later.earlier_by_the_rule x m e, λ z j f. later.earlier_by_the_rule z j (earlier_trans bank z x y f e)) (later.earlier_placed x m e) lacks

        by : (x ≡ y) ⊎ (Earlier bank x y ⊎ Earlier bank y x) → x ≡ y
        by (inl same) = same
        by (inr (inl e)) = absurd (never one other x y lacks lacks-too e)
        by (inr (inr e)) = absurd (never other one y x lacks-too lacks e)
