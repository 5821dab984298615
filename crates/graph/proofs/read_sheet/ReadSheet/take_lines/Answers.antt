use Rattle.std.proofs.Common.{◌≡◌, ℕ, ◌+◌, ◌<◌, List, [], length, Some, Ok, is_ok, true, vec_len, ap, subst, arith, rules}
use Rattle.std.specs.Prelude.{MatchResult}
use Rattle.std.specs.Result.{IsErrAnd}
use Rattle.std.proofs.lemmas.Result.{err_from_is_err_and}
use Rattle.rules.specs.Drafts.{Draft}
use Rattle.rules.specs.Reading.{fault, Reads, whole, missing, badly, refused, taken}
use Rattle.std.proofs.lemmas.List.{nil_from_length}
use Rattle.text.proofs.Lengths.{goes_spends}
use Rattle.graph.specs.declared.faults.GraphFault.TheVariants.{Refused}
use Rattle.graph.specs.Taking.{refusal_number, draft_of}
use Rattle.graph.proofs.Took.{accepted, rejected}
use Rattle.graph.proofs.Counted.{links_after}
use Rattle.graph.proofs.Endings.{incomplete, complete}
use Rattle.graph.proofs.read_sheet.ReadSheet.take_lines.Goals as goal

some : (xs : List ℕ) → 0 < length xs → xs ≡ [] → ⊥
some xs h e = let z = ap length e in omega arith

pub returns-in_err-entry : goal.returns-in_err-entry
returns-in_err-entry c =
    let p = err_from_is_err_and c.from_residual.result c.from_residual.ensures.1 in
    let e = c.in_err-entry.ensures in
    let more : 0 < length c.loop-rest.rest.now = search rules in
    rw (p.1, p.2, e.0) (c.loop-rest.invariant.2 (fault 3 (Some c.loop-rest.at)) (badly (some _ more) e.1))

pub take-requires : goal.take-requires
take-requires c =
    let spent = goes_spends c.loop-rest.rest.now c.in_ok-entry.entry c.in_ok-entry.more.now c.in_ok-entry.ensures in
    omega (arith, c.loop-rest.invariant.1)

pub returns-in_err-map_err : goal.returns-in_err-map_err
returns-in_err-map_err c =
    let p = err_from_is_err_and c.from_residual-in_err-map_err.result c.from_residual-in_err-map_err.ensures.1 in
    let mapped : MatchResult c.take.result (λ u. c.map_err.result ≡ Ok u) (λ e. IsErrAnd c.map_err.result (λ f. f ≡ Refused e c.loop-rest.at)) = search rules in
    let r = rejected (draft_of c.loop-rest.self) c.in_ok-entry.entry (draft_of c.take.new.self) c.take.result c.map_err.result c.loop-rest.at c.in_err-map_err.field-0.0 c.take.ensures.took mapped c.in_err-map_err.was in
    rw (p.1, p.2, r.2) (c.loop-rest.invariant.2 (fault (refusal_number r.0) (Some c.loop-rest.at)) (refused c.in_ok-entry.entry c.in_ok-entry.more.now (refusal_number r.0) c.in_ok-entry.ensures r.1))

pub loop-rest-preserved : goal.loop-rest-preserved
loop-rest-preserved c =
    let goes = c.in_ok-entry.ensures in
    let spent = goes_spends c.loop-rest.rest.now c.in_ok-entry.entry c.in_ok-entry.more.now goes in
    let ok : is_ok c.take.result ≡ true = search rules in
    let t = accepted (draft_of c.loop-rest.self) c.in_ok-entry.entry (draft_of c.take.new.self) c.take.result ok c.take.ensures.took in
    let links = links_after c.loop-rest.self c.take.new.self c.in_ok-entry.entry t.1 in (
      omega arith,
      omega (arith, c.loop-rest.invariant.1),
      λ o r. c.loop-rest.invariant.2 o
          (taken c.in_ok-entry.entry c.in_ok-entry.more.now goes t.0
          (subst (λ (d : Draft). Reads d (c.loop-rest.at + 1) c.in_ok-entry.more.now o) t.1 r)),
    )

pub returns-then-is_empty : goal.returns-then-is_empty
returns-then-is_empty c =
    let z : length c.loop-rest.rest.now ≡ 0 = search rules in
    let n : vec_len c.loop-rest.self.actors ≡ 0 = search rules in
    c.loop-rest.invariant.2 _ (missing (nil_from_length _ z) (incomplete c.loop-rest.self n))

pub returns : goal.returns
returns c =
    let z : length c.loop-rest.rest.now ≡ 0 = search rules in
    let n : vec_len c.loop-rest.self.actors ≡ 0 → ⊥ = search rules in
    let d = complete c.loop-rest.self n in
    (d.0, d.1.0, c.loop-rest.invariant.2 _ (whole d.0 (nil_from_length _ z) d.1))
