use Rattle.std.proofs.Common.{arith}
use Rattle.std.proofs.lemmas.List.FromFn.{map-range_with_len_more}
use Rattle.n2_parts.proofs.Small.{valid_small}
use Rattle.n2_devices.specs.Wires.{wires_to}
use Rattle.n2_devices.proofs.wires.wires_of.Goals as goal

pub overflow_cast-core-end : goal.overflow_cast-core-end
overflow_cast-core-end c = omega (arith, valid_small c.args.board.now c.requires)

pub loop-core-preserved : goal.loop-core-preserved
loop-core-preserved c =
    let more = map-range_with_len_more (wires_to c.args.board.now) 0 c.loop-core.core c.loop-core.core (omega arith) in
    grind (arith, more)
