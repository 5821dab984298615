use Rattle.std.proofs.Common.{length, sym, ◌∙◌}
use Rattle.map.specs.Maps.{map_of}
use Rattle.planner.specs.Replies.{RepliesPlaced}
use Rattle.planner.proofs.Replying.{placed_told}
use Rattle.planner.proofs.plan.Plan.map_len.Goals as goal

pub returns-then-not-is_placed : goal.returns-then-not-is_placed
returns-then-not-is_placed c = RepliesPlaced.unplaced (sym c.is_placed.ensures ∙ c.if-not-is_placed.true)

pub returns : goal.returns
returns c =
    placed_told c.args.self.now (Unit {0}) (length (map_of c.args.self.now.layout)) c.map_len.result c.map_len.ensures.exact
    (sym c.is_placed.ensures ∙ c.if-not-is_placed.false) tt
