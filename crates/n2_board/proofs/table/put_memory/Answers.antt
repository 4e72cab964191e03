use Rattle.std.proofs.Common.{◌+◌, ◌/◌, arith}
use Rattle.n2_board.specs.Classes.{class_in}
use Rattle.n2_board.proofs.Joining.{later}
use Rattle.n2_board.proofs.Tables.{lines-more, class_at}
use Rattle.n2_board.proofs.table.put_memory.Goals as goal

pub loop-line-preserved : goal.loop-line-preserved
loop-line-preserved c = record {
  so_far = lines-more (class_in c.args.zones.now) c.args.table.now c.loop-line.table c.push.new.self (c.args.row.now.base / 32) c.loop-line.line c.class_found.result (omega arith) c.loop-line.invariant.so_far c.in_ok-push.ensures
      (class_at c.args.zones.now c.args.finder.now.0 c.loop-line.line _ _ c.class_found.result c.requires.finder c.from.ensures c.find_from-n.ensures.found c.class_found.ensures);
  passed = λ lt. later c.args.finder.now.1 _ _ (c.loop-line.line + 1) (omega arith) c.find_from-n.ensures.up_to;
}
