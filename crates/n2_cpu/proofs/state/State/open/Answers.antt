use Rattle.std.proofs.Common.{◌∙◌, ap, ℕ}
use Rattle.n2_exec.specs.Registers.{reset_regs}
use Rattle.n2_cpu.proofs.Starting.{opened_sound, opened_stands}
use Rattle.n2_cpu.proofs.state.State.open.Goals as goal

pub open-requires-2 : goal.open-requires-2
open-requires-2 c = (c.valid_boards.ensures.caches c.args.board.now c.requires.map.valid c.args.core c.row_of-row.result.now c.row_of-row.ensures).1

pub returns-clause-sound : goal.returns-clause-sound
returns-clause-sound c =
    opened_sound c.args.board.now c.args.layout.now c.args.core c.requires.core c.row_of-row.result.now c.row_of-row.ensures c.requires.map c.first_clock-clock.result c.first_clock-clock.ensures c.in_ok-watch.watch c.in_ok-watch.ensures.stands
    c.at_reset-regs.result c.in_ok-dcache.dcache c.in_ok-icache.icache c.in_ok-watch.ensures.clock

pub returns-clause-stands : goal.returns-clause-stands
returns-clause-stands c =
    opened_stands c.args.board.now c.args.layout.now c.args.core c.requires.core c.row_of-row.result.now c.row_of-row.ensures c.requires.map c.first_clock-clock.result c.first_clock-clock.ensures c.in_ok-watch.watch c.in_ok-watch.ensures.stands
    c.args.image.now c.at_reset-regs.result c.first_pc.result c.first_pc.ensures (c.at_reset-regs.ensures ∙ ap (λ (x : ℕ). reset_regs c.first_pc.result x c.row_of-row.result.now.exception) c.from.ensures) c.in_ok-dcache.dcache c.in_ok-icache.icache c.in_ok-dcache.ensures c.in_ok-icache.ensures
