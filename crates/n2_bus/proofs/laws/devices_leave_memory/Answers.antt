use Rattle.std.proofs.Common.{ap}
use Rattle.n2_board.specs.declared.places.Place.{Place}
use Rattle.n2_bus.specs.Transfer.{read_served, write_served, served}
use Rattle.n2_bus.proofs.laws.devices_leave_memory.Goals as goal

pub returns-clause-read : goal.returns-clause-read
unfolding served
returns-clause-read c = λ w actor s address width part offset e. ap (λ (p : Place). (read_served w actor s p address width).shared.memory) e

pub returns-clause-write : goal.returns-clause-write
unfolding served
returns-clause-write c = λ w actor s address width value part offset e. ap (λ (p : Place). (write_served w actor s p address width value).shared.memory) e
