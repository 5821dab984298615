-- The tests of ranges say what the rules say.
use Rattle.std.proofs.Common.{◌≡◌, ℕ, Bool, true, false, ◌&&◌, eqb, leb, refl}
use Rattle.std.proofs.lemmas.Bool.{and_parts, and_from, leb-true, le-leb, eqb-true, eq-eqb}
use Rattle.rules.specs.declared.sheet.Kind.{Kind}
use Rattle.rules.specs.declared.sheet.Kind.TheVariants.{Unified, Private, Hybrid}
use Rattle.rules.specs.declared.sheet.Machine.{Machine}
use Rattle.rules.specs.declared.sheet.Layer.{Layer}
use Rattle.rules.specs.declared.sheet.Layer.TheVariants.{LowLine, SnugLimit}
use Rattle.rules.specs.declared.sheet.Entry.TheVariants.{OnMachine, WithLayer}
use Rattle.rules.specs.Fitting.{is_grain}
use Rattle.rules.specs.Drafts.{InRange, Lacking, Size}
use Rattle.rules.proofs.Questions.{table_from_test, test_from_table}
use Rattle.graph.specs.Ranges.{lacking, machine_in_range, size_in_range}
use Rattle.graph.specs.Judging.{layer_in_range}

-- a test that came out false refutes what it tests
pub refuted : {A : Type 0} (b : Bool) → (A → b ≡ true) → b ≡ false → A → ⊥
refuted b so clear a = let set = so a in cc

lacking_told : (k : Kind) (shared private : ℕ) → eqb (lacking k shared private) 0 ≡ true → Lacking k shared private
lacking_told Unified shared private t = eqb-true private 0 t
lacking_told Private shared private t = eqb-true shared 0 t
lacking_told Hybrid shared private t = tt

lacking_heard : (k : Kind) (shared private : ℕ) → Lacking k shared private → eqb (lacking k shared private) 0 ≡ true
lacking_heard Unified shared private h = eq-eqb private 0 h
lacking_heard Private shared private h = eq-eqb shared 0 h
lacking_heard Hybrid shared private h = refl

pub machine_told : (m : Machine) → machine_in_range m ≡ true → InRange (OnMachine m)
machine_told m t =
    let none = eqb (lacking m.kind m.shared m.private) 0 in
    let a = and_parts (leb 1 m.cores) (leb m.cores 8 && (is_grain m.grain && none)) t in
    let b = and_parts (leb m.cores 8) (is_grain m.grain && none) a.1 in
    let c = and_parts (is_grain m.grain) none b.1 in
    (leb-true 1 m.cores a.0, leb-true m.cores 8 b.0, table_from_test m.grain c.0, lacking_told m.kind m.shared m.private c.1)

pub machine_heard : (m : Machine) → InRange (OnMachine m) → machine_in_range m ≡ true
machine_heard m h =
    let none = eqb (lacking m.kind m.shared m.private) 0 in
    and_from (leb 1 m.cores) (leb m.cores 8 && (is_grain m.grain && none)) (le-leb 1 m.cores h.0)
    (and_from (leb m.cores 8) (is_grain m.grain && none) (le-leb m.cores 8 h.1)
    (and_from (is_grain m.grain) none (test_from_table m.grain h.2) (lacking_heard m.kind m.shared m.private h.3)))

pub size_told : (n : ℕ) → size_in_range n ≡ true → Size n
size_told n t = let a = and_parts (leb 1 n) (leb n 16777216) t in (leb-true 1 n a.0, leb-true n 16777216 a.1)

pub size_heard : (n : ℕ) → Size n → size_in_range n ≡ true
size_heard n h = and_from (leb 1 n) (leb n 16777216) (le-leb 1 n h.0) (le-leb n 16777216 h.1)

pub layer_told : (l : Layer) → layer_in_range l ≡ true → InRange (WithLayer l)
layer_told (LowLine n) t = leb-true 1 n t
layer_told (SnugLimit n) t = tt

pub layer_heard : (l : Layer) → InRange (WithLayer l) → layer_in_range l ≡ true
layer_heard (LowLine n) h = le-leb 1 n h
layer_heard (SnugLimit n) h = refl
