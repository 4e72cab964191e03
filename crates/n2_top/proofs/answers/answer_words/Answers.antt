use Rattle.std.proofs.Common.{subst}
use Rattle.n2_top.specs.Commands.{Command}
use Rattle.n2_top.specs.Written.{IsStepped}
use Rattle.n2_top.proofs.Giving.{settled_refusal}
use Rattle.n2_top.proofs.Written.{refused_status}
use Rattle.n2_top.proofs.answers.answer_words.Goals as goal

pub returns-in_ok-refused-in-Err-Refused-clause-answer : goal.returns-in_ok-refused-in-Err-Refused-clause-answer
returns-in_ok-refused-in-Err-Refused-clause-answer g c =
    settled_refusal _ _ _ _ _ _ c.command_in.ensures.command c.in-Err-Refused.field-0-is c.in-Err-Refused.ensures.answer c.in_ok-refused-in-Err-Refused.ensures

pub returns-in-Ok-clause-stepped : goal.returns-in-Ok-clause-stepped
returns-in-Ok-clause-stepped g c = λ small. subst (λ (command : Command). IsStepped (g.F.Folder.files c.args.folder.now) command c.in-Ok.answer) c.command_in.ensures.command c.in-Ok.ensures.stepped

pub returns-in_ok-refused-in-Err-Refused-clause-stepped : goal.returns-in_ok-refused-in-Err-Refused-clause-stepped
returns-in_ok-refused-in-Err-Refused-clause-stepped g c = λ small. absurd (refused_status _ _ c.in_ok-refused-in-Err-Refused.ensures small)
