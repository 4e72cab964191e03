use Rattle.n2_devices.proofs.Shown.{shown_listed, shown_bits, lines_same}
use Rattle.n2_devices.proofs.laws.lines_are_their_wires.Goals as goal

pub returns-clause-listed : goal.returns-clause-listed
returns-clause-listed c = shown_listed

pub returns-clause-bits : goal.returns-clause-bits
returns-clause-bits c = shown_bits

pub returns-clause-depend : goal.returns-clause-depend
returns-clause-depend c = lines_same
