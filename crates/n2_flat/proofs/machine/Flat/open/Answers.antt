use Rattle.std.proofs.Common.{sym, subst}
use Rattle.n2_parts.specs.declared.board.Board.{Board}
use Rattle.n2_flat.specs.State.{IsWhole}
use Rattle.n2_flat.proofs.Started.{started_whole, started_machine}
use Rattle.n2_flat.proofs.machine.Flat.open.Goals as goal

pub returns-clause-start : goal.returns-clause-start
returns-clause-start c =
    let b = c.args.board.now in
    (started_machine b c.args.images.now c.args.layout.now c.in_ok-common.common c.in_ok-cores.cores.items c.requires.images c.in_ok-common.ensures c.in_ok-cores.ensures.count c.in_ok-cores.ensures.each)

pub returns-clause-whole : goal.returns-clause-whole
returns-clause-whole c =
    let b = c.args.board.now in
    let l = c.args.layout.now in
    subst (λ (x : Board). IsWhole l (record { board = x; common = c.in_ok-common.common; cores = c.in_ok-cores.cores.items; recent = 4294967295 })) (sym c.in_ok-board.ensures)
    (started_whole b c.args.images.now l c.in_ok-common.common c.in_ok-cores.cores.items c.requires.valid c.requires.images c.requires.sized c.requires.fits c.requires.layout c.in_ok-common.ensures c.in_ok-cores.ensures.count c.in_ok-cores.ensures.each
    (c.start.ensures.world b c.args.images.now c.requires.valid (c.fitting_images.ensures b c.args.images.now c.requires.fits) c.requires.sized) (c.start.ensures.kept b l))
