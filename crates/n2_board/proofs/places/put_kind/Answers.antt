use Rattle.std.proofs.Common.{arith}
use Rattle.n2_board.proofs.Zones.{kind-more, kind-done}
use Rattle.n2_board.proofs.places.put_kind.Goals as goal

pub loop-index-preserved : goal.loop-index-preserved
loop-index-preserved c = kind-more c.args.board.now c.args.kind c.loop-index.index c.args.count c.loop-index.out.items c.put_part.new.out.items _ c.loop-index-test.true c.in_ok-put_part.ensures c.loop-index.invariant

pub returns : goal.returns
returns c = kind-done c.args.board.now c.args.kind c.loop-index.index c.args.count c.loop-index.out.items _ (omega arith) c.loop-index.invariant
