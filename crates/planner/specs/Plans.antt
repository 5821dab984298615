-- What a plan holds, and what reading and placing answer.
use Rattle.std.specs.Prelude.{◌≡◌, ℕ, ◌<◌, ◌≤◌, true, false, List, length, Ok, Err, vec_items, Result}
use Rattle.rules.specs.Sheets.{Sheet}
use Rattle.rules.specs.Objects.{object_count, touching}
use Rattle.rules.specs.Fitting.{Rule}
use Rattle.rules.specs.Fabrics.{Meaning, fabric_of}
use Rattle.rules.specs.Reading.{Gives, accepted}
use Rattle.rules.specs.Placing.{Footprint}
use Rattle.rules.specs.Layouts.{Layout, LaidOut, NoRoom, RunsOn, bank_of}
use Rattle.rules.specs.Maps.{MapOf}
use Rattle.rules.specs.Promises.{Promised}
use Rattle.rules.specs.Refusals.{OwnRule}
use Rattle.graph.specs.declared.faults.GraphFault.{GraphFault}
use Rattle.graph.specs.Readings.{Holds, reported}
use Rattle.layout.specs.Spots.{place_in, spot_at}
use Rattle.layout.specs.Worlds.{use_at}
use Rattle.map.specs.Maps.{map_of}
use Rattle.planner.specs.declared.faults.JobFault.{JobFault}
use Rattle.planner.specs.declared.faults.JobFault.TheVariants.{Graph, Empty, LacksCore, NoGap, ShortMemory}
use Rattle.planner.specs.declared.plan.Plan.{Plan}

-- the plan holds the sheet s
abbrev pub HasRead : Plan → Sheet → Type 0
HasRead p s = Holds p.graph.sheet s

-- the plan holds no sheet
abbrev pub HasNone : Plan → Type 0
HasNone p = (s : Sheet) → HasRead p s → ⊥

-- where the plan has object x in bank b
abbrev pub places_of : Plan → Layout
places_of p = place_in (vec_items p.layout.spots)

-- the footprint of bank b
abbrev pub footprint_of : Plan → ℕ → ℕ
footprint_of p b = (use_at (vec_items p.layout.banks) b).footprint

-- the plan is placed as the rules say of the sheet, the fabric and the rule
pub record PlacedAs (s : Sheet) (m : Meaning) (rule : Rule) (p : Plan) : Type 0 where
  pub placed : p.layout.placed ≡ true
  pub laid_out : LaidOut s m rule (places_of p)
  pub objects : length (vec_items p.layout.spots) ≡ object_count s
  pub homes : (x : ℕ) → x < object_count s → (spot_at (vec_items p.layout.spots) x).homes ≡ m.homes (touching s x)
  pub banks : length (vec_items p.layout.banks) ≡ m.banks
  pub capacities : (b : ℕ) → b < m.banks → (use_at (vec_items p.layout.banks) b).capacity ≡ m.capacity b
  pub footprints : (b : ℕ) → b < m.banks → Footprint (bank_of s m b) (places_of p b) (footprint_of p b)
  pub map : MapOf s m rule (map_of p.layout)
  pub promised : Promised s m (places_of p)

-- a text is read into a plan, or refused, and then the plan holds none
pub data ReadsInto (text : List ℕ) (after : Plan) : Result Unit JobFault → Type 0 where
  reads : (s : Sheet) → HasRead after s → Gives text (accepted s) → ReadsInto text after (Ok tt)
  refuses : {f : GraphFault} → Gives text (reported f) → HasNone after → ReadsInto text after (Err (Graph f))

-- a plan is placed by a rule on a fabric, with memory for so many candidates, or refused for the reason that comes first
pub data PlacesBy (m : Meaning) (rule : Rule) (memory : ℕ) (before after : Plan) : Result Unit JobFault → Type 0 where
  none_read : HasNone before → after ≡ before → PlacesBy m rule memory before after (Err Empty)
  short_memory : (s : Sheet) → HasRead before s → memory < object_count s → after ≡ before →
      PlacesBy m rule memory before after (Err ShortMemory)
  lacks_core : (s : Sheet) → HasRead before s → object_count s ≤ memory → (RunsOn s m → ⊥) → after ≡ before →
      PlacesBy m rule memory before after (Err LacksCore)
  no_gap : {x b : ℕ} (s : Sheet) → HasRead before s → object_count s ≤ memory → RunsOn s m → NoRoom s m rule b x →
      after.graph ≡ before.graph → after.layout.placed ≡ false → PlacesBy m rule memory before after (Err (NoGap x b))
  places : (s : Sheet) → HasRead before s → object_count s ≤ memory → RunsOn s m → PlacedAs s m rule after →
      after.graph ≡ before.graph → PlacesBy m rule memory before after (Ok tt)

-- the fabric and the rule are the sheet's own
pub record Own (s : Sheet) (m : Meaning) (rule : Rule) : Type 0 where
  pub fabric : m ≡ fabric_of s.machine
  pub fit : OwnRule s rule

-- a plan is placed by its sheet's own rule on its own fabric
pub record PlacesOwn (memory : ℕ) (before after : Plan) (r : Result Unit JobFault) : Type 0 where
  pub fabric : Meaning
  pub rule : Rule
  pub own : (s : Sheet) → HasRead before s → Own s fabric rule
  pub outcome : PlacesBy fabric rule memory before after r

-- a text is read and placed by a rule on a fabric: the whole promise holds of the sheet that it spells,
-- or the text or the placing is refused for the reason that comes first
pub data PlansBy (text : List ℕ) (m : Meaning) (rule : Rule) (memory : ℕ) (after : Plan) : Result Unit JobFault → Type 0 where
  badly_read : {f : GraphFault} → Gives text (reported f) → HasNone after → after.layout.placed ≡ false → PlansBy text m rule memory after (Err (Graph f))
  short_memory : (s : Sheet) → Gives text (accepted s) → HasRead after s → memory < object_count s → after.layout.placed ≡ false →
      PlansBy text m rule memory after (Err ShortMemory)
  lacks_core : (s : Sheet) → Gives text (accepted s) → HasRead after s → object_count s ≤ memory → (RunsOn s m → ⊥) →
      after.layout.placed ≡ false → PlansBy text m rule memory after (Err LacksCore)
  no_gap : {x b : ℕ} (s : Sheet) → Gives text (accepted s) → HasRead after s → object_count s ≤ memory → RunsOn s m → NoRoom s m rule b x →
      after.layout.placed ≡ false → PlansBy text m rule memory after (Err (NoGap x b))
  planned : (s : Sheet) → Gives text (accepted s) → HasRead after s → object_count s ≤ memory → RunsOn s m → PlacedAs s m rule after →
      PlansBy text m rule memory after (Ok tt)

-- the same by the sheet's own rule on its own fabric
pub record PlansOwn (text : List ℕ) (memory : ℕ) (after : Plan) (r : Result Unit JobFault) : Type 0 where
  pub fabric : Meaning
  pub rule : Rule
  pub own : (s : Sheet) → HasRead after s → Own s fabric rule
  pub outcome : PlansBy text fabric rule memory after r
