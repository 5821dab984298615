use Rattle.std.proofs.Common.{◌≡◌, ◌+◌, length, ap, ◌∙◌, arith, rules}
use Rattle.std.proofs.lemmas.List.{length-append}
use Rattle.rules.specs.Maps.{bank_line}
use Rattle.map.proofs.Lengths.{bank_short}
use Rattle.map.proofs.lines.put_bank.Goals as goal

pub put_line-requires : goal.put_line-requires
put_line-requires c =
    let short = bank_short c.args.number c.args.bank.footprint c.args.bank.capacity c.requires.bank (search rules) (search rules) in omega (arith, c.requires.room)

pub returns-clause-few : goal.returns-clause-few
returns-clause-few c =
    let b = c.args.bank in
    let line = bank_line c.args.number b.footprint b.capacity in
    let short = bank_short c.args.number b.footprint b.capacity c.requires.bank (search rules) (search rules) in
    let long : length c.put_line.new.map.bytes ≡ length c.args.map.now.bytes + length line = ap length c.put_line.ensures ∙ length-append c.args.map.now.bytes line in
    omega arith
