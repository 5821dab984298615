use Rattle.std.proofs.Common.{sym, refl, ◌∙◌}
use Rattle.planner.specs.Replies.{MapsInto}
use Rattle.planner.proofs.Mapped.{maps_into}
use Rattle.planner.proofs.plan.Plan.write_map.Goals as goal

pub returns-then-not-is_placed-clause-map : goal.returns-then-not-is_placed-clause-map
returns-then-not-is_placed-clause-map c = MapsInto.unplaced (sym c.is_placed.ensures ∙ c.if-not-is_placed.true) refl

pub returns-clause-map : goal.returns-clause-map
returns-clause-map c =
    maps_into c.args.self.now c.args.out.now c.write_map.new.out c.write_map.result c.ok_or.result (sym c.is_placed.ensures ∙ c.if-not-is_placed.false) c.write_map.ensures.map c.ok_or.ensures.value
