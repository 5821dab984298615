use Rattle.std.proofs.Common.{◌≡◌, None, arith}
use Rattle.std.proofs.lemmas.Result.{err_from_is_err_and}
use Rattle.rules.specs.Fields.{entry_of}
use Rattle.rules.proofs.Cuts.{good_line, bad_line}
use Rattle.text.specs.declared.faults.TextFault.TheVariants.{Malformed}
use Rattle.text.proofs.lines.next_entry.Goals as goal

pub returns-in_err-entry : goal.returns-in_err-entry
returns-in_err-entry c =
    let p = err_from_is_err_and c.from_residual.result c.from_residual.ensures.1 in
    let none : entry_of c.in-Some.line.now ≡ None = grind arith in
    let fault : c.in_err-entry.field-0.0 ≡ Malformed c.args.at = grind arith in
    rw (p.1, p.2) (fault, bad_line c.args.text.now c.in-Some.line.now c.in-Some.rest.now c.in-Some.ensures none)

pub returns : goal.returns
returns c = good_line c.args.text.now c.in-Some.line.now c.in-Some.rest.now c.in_ok-entry.entry c.in-Some.ensures.0 (grind arith)
