-- Lists of gaps that grow at their end.

use Rattle.std.proofs.Common.{◌≡◌, ℕ, ◌<◌, ◌≤◌, true, List, [], ◌∷◌, ◌++◌, arith, rules}
use Rattle.std.proofs.ByRecursion.{All-push, All-weaker}
use Rattle.rules.specs.declared.memory.Stretch.{Stretch}
use Rattle.rules.specs.Fitting.{ascend_from}
use Rattle.rules.specs.Stretches.{Every}

-- one gap behind gaps that end before it
ascend_push : (low : ℕ) (gs : List Stretch) (g : Stretch) → ascend_from low gs ≡ true → Every (λ h. h.end ≤ g.start) gs → low ≤ g.start → g.start < g.end → g.end ≤ 4294967295
    → ascend_from low (gs ++ g ∷ []) ≡ true
ascend_push low [] g up all l f w = search rules
ascend_push low (h ∷ hs) g up all l f w =
    let more = ascend_push h.end hs g (search rules) all.1 all.0 f w in search rules

-- the gaps found so far ascend, end at or below the capacity, and end at or below `free`
pub record Found (capacity free : ℕ) (gs : List Stretch) : Type 0 where
  pub ascending : ascend_from 0 gs ≡ true
  pub within : Every (λ g. g.end ≤ capacity) gs
  pub behind : Every (λ g. g.end ≤ free) gs

-- the bytes behind the gaps grow
pub found_skip : (capacity free next : ℕ) (gs : List Stretch) → free ≤ next → Found capacity free gs → Found capacity next gs
found_skip capacity free next gs l f = record {
  ascending = f.ascending;
  within = f.within;
  behind = All-weaker (λ (g : Stretch). g.end ≤ free) (λ (g : Stretch). g.end ≤ next) (λ g h. omega arith) gs f.behind;
}

-- one gap more
pub found_push : (capacity free end next : ℕ) (gs : List Stretch) → free < end → end ≤ capacity → capacity ≤ 4294967295 → end ≤ next → Found capacity free gs
    → Found capacity next (gs ++ record { start = free; end = end } ∷ [])
found_push capacity free end next gs some fits small past f =
    let g : Stretch = record { start = free; end = end } in
    record {
      ascending = ascend_push 0 gs g f.ascending f.behind (omega arith) some (omega arith);
      within = All-push (λ (h : Stretch). h.end ≤ capacity) gs g f.within fits;
      behind = All-push (λ (h : Stretch). h.end ≤ next) gs g (found_skip capacity free next gs (omega arith) f).behind past;
    }
