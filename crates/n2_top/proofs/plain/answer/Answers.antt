use Rattle.std.proofs.Common.{◌≡◌, ◌∷◌, [], List, ap, ◌∙◌}
use Rattle.std.specs.Prelude.{replicate}
use Rattle.n2_elf.specs.declared.image.Image.{Image}
use Rattle.n2_parts.specs.declared.board.Board.{Board}
use Rattle.n2_parts.specs.declared.stops.Act.TheVariants.{Retire}
use Rattle.n2_board.specs.AddressMap.{AddressMap}
use Rattle.n2_runs.specs.FlatRun.{Flat, flat, flat_start}
use Rattle.n2_flat.specs.PlainBoard.{plain_board}
use Rattle.n2_flat.specs.State.{machine_of}
use Rattle.n2_report.proofs.RunEnds.{if_ok}
use Rattle.n2_top.specs.declared.answers.Answer.{Answer}
use Rattle.n2_top.specs.Flat.{flat_answer}
use Rattle.n2_top.specs.Plain.{plain_start, plain_run, plain_answer}
use Rattle.n2_top.proofs.Acts.{plain_begins}
use Rattle.n2_top.proofs.plain.answer.Goals as goal

pub returns-clause-answer : goal.returns-clause-answer
returns-clause-answer c =
    let image = c.args.asked.now.image in
    let s = c.run.new.flat in
    let images : c.from_ref.result.now ≡ image ∷ [] = c.from_ref.ensures.value in
    let start : machine_of c.in_ok-flat.flat ≡ plain_start image =
    c.in_ok-flat.ensures.start ∙ ap (λ (b : Board). flat_start b c.from_ref.result.now) c.in_ok-board.ensures.board ∙ ap (λ (l : List Image). flat_start plain_board l) images ∙ plain_begins image in
    let machine : machine_of s ≡ plain_run image c.args.steps =
    c.in_ok-run.ensures.acts ∙ ap (λ (m : Flat). flat plain_board c.args.asked.now.layout m (replicate c.args.steps (Retire 0))) start
    ∙ ap (λ (l : AddressMap). flat plain_board l (plain_start image) (replicate c.args.steps (Retire 0))) c.requires.opened in
    if_ok _ (λ (a : Answer). a ≡ plain_answer (plain_run image c.args.steps)) c.answer_of.result
    (λ a h. h ∙ ap (λ (b : Board). flat_answer b (machine_of s)) c.in_ok-board.ensures.board ∙ ap plain_answer machine) c.answer_of.ensures.answer
