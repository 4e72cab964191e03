use Rattle.std.proofs.Common.{◌≡◌, ◌≢◌, ◌⊎◌, inl, inr, subst, ap, ◌∙◌, arith}
use Rattle.n2_inputs.specs.Asked.{asked_run}
use Rattle.n2_top.specs.Commands.{Command}
use Rattle.n2_top.specs.Written.{IsStepped, board_of}
use Rattle.n2_top.proofs.Carried.{carried}
use Rattle.n2_top.proofs.tool_top.Goals as goal

wider : {A B C : Type 0} → A ⊎ B → A ⊎ (B ⊎ C)
wider (inl a) = inl a
wider (inr b) = inr (inl b)

pub returns-in-Ok-clause-prefix : goal.returns-in-Ok-clause-prefix
returns-in-Ok-clause-prefix g c = λ files known. let e = c.in-Ok.ensures.answer files known in rw (← e) (λ seven. wider (c.put_answer.ensures.prefix seven))

pub returns-in-Ok-clause-headline : goal.returns-in-Ok-clause-headline
returns-in-Ok-clause-headline g c = λ files board order told is small.
    let put = c.put_answer.ensures.put (λ seven. absurd (omega arith)) in
    let status = put.0 in
    let stepped = subst (λ (command : Command). IsStepped (g.F.Folder.files c.args.folder.now) command c.in-Ok.answer) is (c.in-Ok.ensures.stepped (omega arith)) in
    carried (board_of (asked_run files board order)) c.in-Ok.answer c.put_answer.result _ _ _ _ (stepped files told) small status put.2 put.1
