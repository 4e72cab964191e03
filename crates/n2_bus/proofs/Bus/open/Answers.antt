use Rattle.n2_parts.proofs.Small.{valid_small}
use Rattle.n2_board.proofs.Fitting.{fitting_inside}
use Rattle.n2_bus.proofs.Sound.{opened_sound}
use Rattle.n2_bus.proofs.Bus.open.Goals as goal

pub open-requires-clause-inside : goal.open-requires-clause-inside
open-requires-clause-inside c = fitting_inside c.args.board.now c.args.images.now c.requires.fits

pub open-requires-3 : goal.open-requires-3
open-requires-3 c = valid_small c.args.board.now c.requires.valid

pub invariant_of-result : goal.invariant_of-result
invariant_of-result c = opened_sound c.args.board.now c.in_ok-memory.memory c.in_ok-devices.devices c.in_ok-places.places c.requires.valid c.in_ok-memory.ensures.memories c.in_ok-memory.ensures.full c.in_ok-devices.ensures c.in_ok-places.ensures

pub returns-clause-sound : goal.returns-clause-sound
returns-clause-sound c = opened_sound c.args.board.now c.in_ok-memory.memory c.in_ok-devices.devices c.in_ok-places.places c.requires.valid c.in_ok-memory.ensures.memories c.in_ok-memory.ensures.full c.in_ok-devices.ensures c.in_ok-places.ensures
