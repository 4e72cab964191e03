use Rattle.std.proofs.Common.{length, sym, ◌∙◌, subst}
use Rattle.std.proofs.lemmas.Result.{on_ok_weaker}
use Rattle.n2_parts.specs.declared.board.Board.{Board}
use Rattle.n2_runs.specs.Machine.{start}
use Rattle.n2_runs.specs.Recorded.{actors_of, HasCounts}
use Rattle.n2_flat.specs.State.{machine_of}
use Rattle.n2_top.proofs.Replaying.{opened_kept}
use Rattle.n2_top.proofs.Beside.{flat_ends}
use Rattle.n2_top.proofs.flat.run_flat.Goals as goal

pub run_beside-requires-clause-board : goal.run_beside-requires-clause-board
run_beside-requires-clause-board c = c.requires.board ∙ sym c.in_ok-machine.ensures.board

pub run_beside-requires-clause-map : goal.run_beside-requires-clause-map
run_beside-requires-clause-map c = sym c.in_ok-machine.ensures.map

pub run_beside-requires-clause-stands : goal.run_beside-requires-clause-stands
run_beside-requires-clause-stands c =
    let inputs = c.args.inputs.now in
    let s = start inputs.board inputs.images in
    let o = c.in_ok-machine.ensures in
    (s, (o.stands, opened_kept inputs c.in_ok-machine.machine s o.board o.map o.kept))

pub run_beside-requires-clause-counts : goal.run_beside-requires-clause-counts
run_beside-requires-clause-counts c =
    subst (λ (b : Board). HasCounts (length b.core) c.args.journal.now.content) (sym c.in_ok-machine.ensures.board) c.requires.counts

pub returns-clause-flat : goal.returns-clause-flat
returns-clause-flat c =
    let inputs = c.args.inputs.now in
    let s = start inputs.board inputs.images in
    let o = c.in_ok-machine.ensures in
    let v = c.in_ok-machine.machine in
    on_ok_weaker c.run_beside.result
    (λ made.
    flat_ends s (actors_of c.args.journal.now.content) v.board inputs.board v.map inputs.layout (machine_of c.args.flat.now) (machine_of c.run_beside.new.flat) o.board o.map
    (made s o.stands (opened_kept inputs v s o.board o.map o.kept)))
    c.run_beside.ensures.flat
