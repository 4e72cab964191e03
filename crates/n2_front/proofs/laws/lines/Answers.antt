use Rattle.n2_front.proofs.Others.{retired_line}
use Rattle.n2_front.proofs.laws.lines.Goals as goal

pub returns : goal.returns
returns c = retired_line
