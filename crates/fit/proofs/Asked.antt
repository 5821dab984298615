-- What a question keeps.
use Rattle.rules.specs.Fitting.{Proper}
use Rattle.rules.proofs.Questions.{proper_from_tests}
use Rattle.fit.specs.declared.question.Question.{Question}

-- every question is proper
pub question_proper : (q : Question) → Proper q.gaps.now q.size q.grain
question_proper q =
    proper_from_tests q.gaps.now q.size q.grain q.sized q.limited q.grained q.few q.ascending
