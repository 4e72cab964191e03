use Rattle.n2_dis.proofs.LineSteps.{line_read}
use Rattle.n2_dis.proofs.laws.every_line.Goals as goal

pub returns : goal.returns
returns c = record { again = line_read }
