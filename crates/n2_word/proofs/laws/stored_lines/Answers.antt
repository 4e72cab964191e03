use Rattle.n2_word.proofs.Stores.{read-written, read-other_lane}
use Rattle.n2_word.proofs.laws.stored_lines.Goals as goal

pub returns-clause-there : goal.returns-clause-there
returns-clause-there c = read-written

pub returns-clause-other_lane : goal.returns-clause-other_lane
returns-clause-other_lane c = read-other_lane
