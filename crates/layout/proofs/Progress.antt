-- What stands while the objects of a bank have their turns.

use Rattle.std.proofs.Common.{◌≡◌, ℕ, ◌<◌, Bool, List, [], ◌∷◌, ◌++◌, length, None, refl, subst}
use Rattle.std.specs.List.Sorted.{IsPermutation, IsNonDecreasingBy}
use Rattle.rules.specs.Lists.{◌∈◌}
use Rattle.rules.specs.Fitting.{Rule}
use Rattle.rules.specs.Placing.{Bank, LacksSpace}
use Rattle.rules.proofs.Turns.{never_earlier_itself}
use Rattle.rules.proofs.Standing.{no_place_yet}
use Rattle.queue.specs.Heaps.{Least}
use Rattle.layout.specs.declared.items.Item.{Item}
use Rattle.layout.specs.declared.spots.Spot.{Spot}
use Rattle.layout.specs.declared.turns.Candidate.{Candidate}
use Rattle.layout.specs.Items.{place_of}
use Rattle.layout.specs.Banks.{bank_over, Asked, Laid, Turn, Highest, Filled}
use Rattle.layout.specs.Spots.{homes_of}
use Rattle.layout.specs.Turns.{objects_at, Wait}
use Rattle.layout.proofs.Starting.{in_order}
use Rattle.layout.proofs.Turning.{laid_none, turn_lacks, turn_more, laid_filled}
use Rattle.layout.proofs.Dues.{order, Due, due_first, due_next, due_last, next_own, next_early, next_before}
use Rattle.layout.proofs.Noted.{Noted, noted_none, noted_more}

module _ (sizes : ℕ → ℕ) (excluding : ℕ → ℕ → Bool) (capacity grain b : ℕ) (rule : Rule) (before : List Spot) where
  abbrev bank : Bank
  bank = bank_over sizes excluding capacity grain (objects_at (homes_of before) b)

  -- some have had their turn: they lie where the rule puts them, and the spots say so; the others wait
  pub record Progress (now : List Spot) (items : List Item) (waiting : List Candidate) : Type 0 where
    pub done : List ℕ
    pub laid : Laid (bank_over sizes excluding capacity grain (objects_at (homes_of before) b)) rule done items
    pub due : Due (bank_over sizes excluding capacity grain (objects_at (homes_of before) b)) done waiting
    pub noted : Noted b before now items

  pub progress_first : (waiting : List Candidate) → Wait sizes (objects_at (homes_of before) b) waiting → Progress before [] waiting
  progress_first waiting h =
      record {
        done = [];
        laid = laid_none sizes excluding capacity grain (objects_at (homes_of before) b) rule;
        due = due_first bank sizes (homes_of before) b waiting refl refl h;
        noted = noted_none b before;
      }

  module _ (now : List Spot) (items : List Item) (waiting : List Candidate) (p : Progress now items waiting) where
    module _ (x : Candidate) (rest : List Candidate) (popped : IsPermutation waiting (x ∷ rest)) (least : Least order x waiting) where
      -- the next is an object of the bank
      pub progress_own : x.object ∈ objects_at (homes_of before) b
      progress_own = (next_own bank p.done waiting p.due x rest popped least).0

      -- it finds no gap
      pub progress_lacks : Asked excluding rule capacity grain (sizes x.object) x.object items None → LacksSpace bank rule (place_of items) x.object
      progress_lacks a =
          turn_lacks sizes excluding capacity grain (objects_at (homes_of before) b) rule p.done items p.laid p.due.of_bank x.object progress_own
          (next_early bank p.done waiting p.due x rest popped least) (next_before bank p.done waiting p.due x rest popped least) a

      -- or has its place
      pub progress_more : (more : List Item) (table : List Spot) → Turn excluding rule capacity grain (sizes x.object) b x.object items more now table → b < 16 → x.object < length now →
          IsNonDecreasingBy (λ (it : Item). it.on.start) more → Progress table more rest
      progress_more more table turn within known sorted =
          let early = next_early bank p.done waiting p.due x rest popped least in
          record {
            done = p.done ++ x.object ∷ [];
            laid =
                turn_more sizes excluding capacity grain (objects_at (homes_of before) b) rule p.done items p.laid p.due.of_bank x.object progress_own
                early (next_before bank p.done waiting p.due x rest popped least) turn.item more turn.at turn.object turn.asked turn.bytes turn.put (in_order more sorted);
            due = due_next bank p.done waiting p.due x rest popped least;
            noted =
                noted_more excluding rule capacity grain (sizes x.object) b x.object items more now table turn within known
                (no_place_yet bank rule p.done (place_of items) p.laid.standing x.object (λ m. never_earlier_itself bank x.object (early x.object m))) before p.noted;
          }

  -- none waits
  pub progress_last : (now : List Spot) (items : List Item) (waiting : List Candidate) → waiting ≡ [] → Progress now items waiting → (f : ℕ) → Highest items f → Filled bank rule items f
  progress_last now items waiting none p f high =
      laid_filled sizes excluding capacity grain (objects_at (homes_of before) b) rule p.done items p.laid p.due.of_bank
      (due_last bank p.done (subst (Due bank p.done) none p.due)) f high
