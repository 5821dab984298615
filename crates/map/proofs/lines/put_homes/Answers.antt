use Rattle.std.proofs.Common.{arith}
use Rattle.map.specs.Maps.{home_line}
use Rattle.map.proofs.Rows.{line_more}
use Rattle.map.proofs.lines.put_homes.Goals as goal

pub loop-bank-preserved : goal.loop-bank-preserved
loop-bank-preserved c = (
  line_more (home_line c.args.layout.now c.args.x) c.loop-bank.bank c.args.map.now.bytes c.loop-bank.map.bytes c.put_home.new.map.bytes
      c.loop-bank.invariant.0 c.put_home.ensures.bytes,
  omega (arith, c.loop-bank.invariant.1, c.put_home.ensures.few),
)
