use Rattle.n2_front.proofs.Stops.{retired_stops}
use Rattle.n2_front.proofs.laws.only_the_stop.Goals as goal

pub returns : goal.returns
returns c = retired_stops
