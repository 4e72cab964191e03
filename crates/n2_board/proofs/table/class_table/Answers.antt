use Rattle.std.proofs.Common.{◌/◌, List, map, arith}
use Rattle.std.specs.List.{range_with_len}
use Rattle.n2_parts.specs.declared.board.MemoryRow.{MemoryRow}
use Rattle.n2_board.specs.declared.classes.Class.{Class}
use Rattle.n2_board.specs.declared.classes.LineZone.{LineZone}
use Rattle.n2_board.specs.Classes.{class_in}
use Rattle.n2_board.proofs.Tables.{memories-more, memories-done}
use Rattle.n2_board.proofs.table.class_table.Goals as goal

abbrev classes_of : List LineZone → MemoryRow → List Class
classes_of zones row = map (λ line. class_in zones line) (range_with_len (row.base / 32) (row.size / 32))

pub loop-row-preserved : goal.loop-row-preserved
loop-row-preserved c = memories-more (classes_of c.args.zones.now) c.loop-row.table c.put_memory.new.table _ c.args.memories.now c.loop-row.row-index _ c.loop-row-test.true c.in_ok-put_memory.ensures c.loop-row.invariant

pub returns : goal.returns
returns c = memories-done (classes_of c.args.zones.now) c.loop-row.table _ c.args.memories.now c.loop-row.row-index (omega arith) c.loop-row.invariant
