use Rattle.n2_top.proofs.Drawn.{refused_as}
use Rattle.n2_top.proofs.run.answer_words.Goals as goal

pub returns-in_ok-refused-in-Err-Refused-clause-answer : goal.returns-in_ok-refused-in-Err-Refused-clause-answer
returns-in_ok-refused-in-Err-Refused-clause-answer g c =
    refused_as _ _ _ _ _ c.in-Err-Refused.field-0-is c.in-Err-Refused.ensures.asked c.in_ok-refused-in-Err-Refused.ensures
