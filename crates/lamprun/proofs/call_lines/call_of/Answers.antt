use Rattle.std.proofs.Common.{◌≡◌, ◌++◌, codes, rules}
use Rattle.std.specs.Option.{option_map}
use Rattle.rules.specs.Fields.{lone_of}
use Rattle.run.specs.declared.call.Call.TheVariants.{Start, Finish, Order}
use Rattle.lamprun.specs.Calls.{pair_of}
use Rattle.lamprun.proofs.Finding.{start_found, finish_found, order_found}
use Rattle.lamprun.proofs.call_lines.call_of.Goals as goal

pub returns-in-Some : goal.returns-in-Some
returns-in-Some c =
    let line : c.args.line.now ≡ codes "start" ++ c.in-Some.fields.now = search rules in
    let found : c.map.result ≡ option_map (λ a. Start a) (lone_of c.in-Some.fields.now) = search rules in
    rw (line, found) (start_found c.in-Some.fields.now)

pub returns-in-Some-strip_prefix : goal.returns-in-Some-strip_prefix
returns-in-Some-strip_prefix c =
    let line : c.args.line.now ≡ codes "finish" ++ c.in-Some-strip_prefix.fields.now = search rules in
    let found : c.map-in-Some-strip_prefix.result ≡ option_map (λ a. Finish a) (lone_of c.in-Some-strip_prefix.fields.now) = search rules in
    rw (line, found) (finish_found c.in-Some-strip_prefix.fields.now)

pub returns-in-Some-strip_prefix-2 : goal.returns-in-Some-strip_prefix-2
returns-in-Some-strip_prefix-2 c =
    let line : c.args.line.now ≡ codes "order" ++ c.in-Some-strip_prefix-2.fields.now = search rules in
    let found : c.map-in-Some-strip_prefix-2.result ≡ option_map (λ p. Order p.0 p.1) (pair_of c.in-Some-strip_prefix-2.fields.now) = search rules in
    rw (line, found) (order_found c.in-Some-strip_prefix-2.fields.now)
