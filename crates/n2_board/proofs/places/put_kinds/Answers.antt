use Rattle.std.proofs.Common.{◌++◌, get_or, ap, ◌∙◌, arith}
use Rattle.n2_parts.specs.declared.board.PartKind.TheVariants.{Top}
use Rattle.n2_board.specs.Places.{kind_zones}
use Rattle.n2_board.proofs.Zones.{kinds-more, kinds-done}
use Rattle.n2_board.proofs.places.put_kinds.Goals as goal

pub loop-kind-preserved : goal.loop-kind-preserved
loop-kind-preserved c = kinds-more c.args.board.now c.loop-kind.out.items c.put_kind.new.out.items _ c.args.kinds.now c.loop-kind.kind-index Top c.loop-kind-test.true
    (c.in_ok-put_kind.ensures ∙ ap (λ n. c.loop-kind.out.items ++ kind_zones c.args.board.now (get_or c.args.kinds.now c.loop-kind.kind-index Top) 0 n) c.count_of.ensures) c.loop-kind.invariant

pub returns : goal.returns
returns c = kinds-done c.args.board.now c.loop-kind.out.items _ c.args.kinds.now c.loop-kind.kind-index (omega arith) c.loop-kind.invariant
