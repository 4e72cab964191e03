use Rattle.std.proofs.Common.{refl}
use Rattle.n2_top.specs.Commands.{Flat}
use Rattle.n2_top.specs.Asked.{FlatRun}
use Rattle.n2_top.proofs.Replaying.{told_given, without_reading}
use Rattle.n2_top.proofs.flat.answer_flat.Goals as goal

pub returns-clause-answer : goal.returns-clause-answer
returns-clause-answer g c = λ files told.
    told_given files c.args.board.now c.args.journal.now (Flat c.args.board.now c.args.journal.now) FlatRun c.in_ok-inputs.inputs c.in_ok-inputs.journal.content c.answer.result refl (c.in_ok-inputs.ensures.asked files told) c.answer.ensures.answer

pub returns-clause-folder : goal.returns-clause-folder
returns-clause-folder g c =
    without_reading _ _ _ _ (c.in_ok-inputs.inputs, c.in_ok-inputs.journal) c.answer.result c.in_ok-inputs.ensures.folder c.answer.ensures.unread
