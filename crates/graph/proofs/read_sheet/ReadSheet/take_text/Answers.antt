use Rattle.std.proofs.lemmas.Result.{err_from_is_err_and}
use Rattle.rules.specs.Reading.{too_long}
use Rattle.graph.proofs.Texts.{behind_header, without_header}
use Rattle.graph.proofs.read_sheet.ReadSheet.take_text.Goals as goal

pub returns-in_err-within_limit : goal.returns-in_err-within_limit
returns-in_err-within_limit c =
    let p = err_from_is_err_and c.from_residual.result c.from_residual.ensures.1 in
    let e = c.in_err-within_limit.ensures in
    rw (p.1, p.2, e.0) (too_long e.1)

pub returns-in_err-lines : goal.returns-in_err-lines
returns-in_err-lines c =
    let p = err_from_is_err_and c.from_residual-in_err-lines.result c.from_residual-in_err-lines.ensures.1 in
    rw (p.1, p.2) (without_header c.args.text.now c.in_err-lines.field-0.0 c.in_ok-within_limit.ensures c.in_err-lines.ensures)

pub returns : goal.returns
returns c =
    behind_header c.args.text.now c.in_ok-lines.lines.now c.take_lines.new.self c.take_lines.result
    c.in_ok-within_limit.ensures c.in_ok-lines.ensures c.take_lines.ensures
