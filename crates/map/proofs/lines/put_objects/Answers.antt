use Rattle.std.proofs.Common.{length, vec_items, arith}
use Rattle.map.specs.Maps.{home_lines}
use Rattle.map.proofs.Rows.{line_more}
use Rattle.map.proofs.lines.put_objects.Goals as goal

pub loop-x-preserved : goal.loop-x-preserved
loop-x-preserved c =
    let l = c.args.layout.now in (
      line_more (λ x. home_lines l x (length (vec_items l.banks))) c.loop-x.x c.args.map.now.bytes c.loop-x.map.bytes c.put_homes.new.map.bytes
          c.loop-x.invariant.0 c.put_homes.ensures.bytes,
      omega (arith, c.loop-x.invariant.1, c.put_homes.ensures.few),
    )
