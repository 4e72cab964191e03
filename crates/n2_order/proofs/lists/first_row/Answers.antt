use Rattle.n2_order.proofs.Rows.{glued_none}
use Rattle.n2_order.proofs.lists.first_row.Goals as goal

pub loop-at-init : goal.loop-at-init
loop-at-init c = glued_none c.args.bytes.now
