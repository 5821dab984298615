use Rattle.std.proofs.Common.{◌≡◌, ◌+◌, ◌<◌, ◌∷◌, length, ap, ◌∙◌, arith, rules}
use Rattle.std.proofs.lemmas.List.{length-append}
use Rattle.map.specs.Maps.{fields}
use Rattle.map.proofs.Lengths.{home_short}
use Rattle.map.proofs.lines.put_home.Goals as goal

pub put_line-requires : goal.put_line-requires
put_line-requires c =
    let small : c.in-Some.place < 4294967296 = search rules in
    let short = home_short c.args.x c.args.bank c.in-Some.place c.requires.object c.requires.bank small in omega (arith, c.requires.room)

pub returns-in-Some-clause-few : goal.returns-in-Some-clause-few
returns-in-Some-clause-few c =
    let small : c.in-Some.place < 4294967296 = search rules in
    let line = 79 ∷ fields c.args.x c.args.bank c.in-Some.place in
    let short = home_short c.args.x c.args.bank c.in-Some.place c.requires.object c.requires.bank small in
    let long : length c.put_line.new.map.bytes ≡ length c.args.map.now.bytes + length line = ap length c.put_line.ensures ∙ length-append c.args.map.now.bytes line in
    omega arith
