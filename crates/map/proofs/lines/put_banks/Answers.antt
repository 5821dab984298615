use Rattle.std.proofs.Common.{arith}
use Rattle.rules.specs.Maps.{bank_line}
use Rattle.layout.specs.Worlds.{use_at}
use Rattle.map.proofs.Rows.{line_more}
use Rattle.map.proofs.lines.put_banks.Goals as goal

pub loop-number-preserved : goal.loop-number-preserved
loop-number-preserved c =
    let banks = c.args.banks.now in (
      line_more (λ b. bank_line b (use_at banks b).footprint (use_at banks b).capacity) c.loop-number.number c.args.map.now.bytes c.loop-number.map.bytes c.put_bank.new.map.bytes
          c.loop-number.invariant.0 c.put_bank.ensures.bytes,
      omega (arith, c.loop-number.invariant.1, c.put_bank.ensures.few),
    )
