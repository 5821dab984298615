-- A bank whose objects have all had their turn, and the spots.

use Rattle.std.proofs.Common.{◌≡◌, ℕ, ◌<◌, ◌≤◌, Bool, List, [], ◌∷◌, ◌++◌, length, sym, refl, ◌∙◌, inl, inr, ⊎_elim}
use Rattle.rules.specs.Lists.{◌∈◌}
use Rattle.rules.specs.Fitting.{Rule}
use Rattle.rules.specs.Placing.{Bank, Places, Footprint}
use Rattle.rules.proofs.Agreeing.{placing_alike}
use Rattle.layout.specs.declared.items.Item.{Item}
use Rattle.layout.specs.declared.spots.Spot.{Spot}
use Rattle.layout.specs.declared.plan_layout.BankUse.{BankUse}
use Rattle.layout.specs.Items.{place_of}
use Rattle.layout.specs.Banks.{bank_over, Filled}
use Rattle.layout.specs.Spots.{homes_of, place_in}
use Rattle.layout.specs.Turns.{objects_at}
use Rattle.layout.specs.Worlds.{Settled, Next}
use Rattle.layout.proofs.Noted.{Noted, spots_agree, other_banks}

-- a footprint stays where the places stay
footprint_alike : (bank : Bank) (places others : Places) (f : ℕ) → ((x : ℕ) → x ∈ bank.objects → places x ≡ others x) → Footprint bank places f → Footprint bank others f
footprint_alike bank places others f alike F =
    record {
      no_end_above = λ x p m e. F.no_end_above x p m (alike x m ∙ e);
      an_end_or_nothing = ⊎_elim (λ t. inl (t.0, t.1, t.2, sym (alike t.0 t.2) ∙ t.3, t.4)) (λ z. inr (z.0, λ x m. sym (alike x m) ∙ z.1 x m)) F.an_end_or_nothing;
    }

-- tables that agree
pub settled_alike : (bank : Bank) (rule : Rule) (one other : Places) (used : BankUse) → ((x : ℕ) → x ∈ bank.objects → one x ≡ other x) → Settled bank rule one used → Settled bank rule other used
settled_alike bank rule one other used alike S =
    record {
      placing = placing_alike bank rule one other alike S.placing;
      full = λ x m. let r = S.full x m in (r.0, sym (alike x m) ∙ r.1);
      footprint = footprint_alike bank one other used.footprint alike S.footprint;
      capacity = S.capacity;
    }

-- the next bank
pub next_settled : (sizes : ℕ → ℕ) (excluding : ℕ → ℕ → Bool) (capacity grain room b : ℕ) (rule : Rule) (before now : List Spot) (items : List Item) (f : ℕ) (banks more : List BankUse) → b < 16 →
    Filled (bank_over sizes excluding capacity grain (objects_at (homes_of before) b)) rule items f → Noted b before now items →
    more ≡ banks ++ record { capacity = capacity; footprint = f } ∷ [] → length (objects_at (homes_of before) b) ≤ room →
    Next (bank_over sizes excluding capacity grain (objects_at (homes_of before) b)) rule room b banks before more now
next_settled sizes excluding capacity grain room b rule before now items f banks more l F h pushed fits =
    let bank = bank_over sizes excluding capacity grain (objects_at (homes_of before) b) in
    record {
      used = record { capacity = capacity; footprint = f };
      pushed = pushed;
      settled =
          settled_alike bank rule (place_of items) (place_in now b) (record { capacity = capacity; footprint = f }) (λ x m. spots_agree b before now items l h x m (F.full x m))
          (record { placing = F.placing; full = F.full; footprint = F.footprint; capacity = refl });
      homes = h.homes;
      others = λ c n x. other_banks b before now items h c n x;
      fits = fits;
    }
