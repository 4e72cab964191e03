use Rattle.std.proofs.Common.{ap}
use Rattle.n2_board.specs.declared.places.Place.{Place}
use Rattle.n2_bus.specs.Transfer.{read_served, served}
use Rattle.n2_bus.proofs.laws.reads_change_nothing.Goals as goal

pub returns-clause-read : goal.returns-clause-read
unfolding served
returns-clause-read c = λ w actor s address width e. ap (λ (p : Place). (read_served w actor s p address width).shared) e
