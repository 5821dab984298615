use Rattle.rules.specs.declared.sheet.Link.TheVariants.{Plain, Delayed, Ordered}
use Rattle.graph.proofs.Took.{allowed, sheet_plain, sheet_delayed, sheet_sequence}
use Rattle.graph.proofs.read_sheet.ReadSheet.judge.Goals as goal

pub returns-in-Plain : goal.returns-in-Plain
returns-in-Plain c =
    let s = c.args.self.now in
    let f = c.in-Plain.fifo in
    allowed s c.args.link (Plain f) _ c.judge_plain.result c.in-Plain.is (sheet_plain s f) c.judge_plain.ensures

pub returns-in-Delayed : goal.returns-in-Delayed
returns-in-Delayed c =
    let s = c.args.self.now in
    let f = c.in-Delayed.fifo in
    allowed s c.args.link (Delayed f) _ c.judge_fifo.result c.in-Delayed.is (sheet_delayed s f) c.judge_fifo.ensures

pub returns-in-Ordered : goal.returns-in-Ordered
returns-in-Ordered c =
    let s = c.args.self.now in
    let q = c.in-Ordered.sequence in
    allowed s c.args.link (Ordered q) _ c.judge_sequence.result c.in-Ordered.is (sheet_sequence s q) c.judge_sequence.ensures
