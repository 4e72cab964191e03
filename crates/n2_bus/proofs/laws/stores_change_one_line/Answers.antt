use Rattle.std.proofs.Common.{ap, ◌∙◌}
use Rattle.n2_board.specs.declared.places.Place.{Place}
use Rattle.n2_memory.specs.Memories.{line_at}
use Rattle.n2_memory.proofs.Writes.{same_line, other_line, read_other_line}
use Rattle.n2_bus.specs.Transfer.{write_served, served}
use Rattle.n2_bus.proofs.laws.stores_change_one_line.Goals as goal

pub returns-clause-line : goal.returns-clause-line
unfolding served
returns-clause-line c = λ w actor l s words full here long. same_line s.memory l words full here long

pub returns-clause-other_lines : goal.returns-clause-other_lines
unfolding served
returns-clause-other_lines c = λ w actor l k s words full here there apart long. other_line s.memory l k words full here there apart long

pub returns-clause-written : goal.returns-clause-written
unfolding served
returns-clause-written c = λ w actor s address width value e. ap (λ (p : Place). (write_served w actor s p address width value).shared) e

pub returns-clause-beside : goal.returns-clause-beside
unfolding served
returns-clause-beside c = λ w actor s address width value k full here there apart e.
    ap (λ (p : Place). line_at (write_served w actor s p address width value).shared.memory k) e ∙ read_other_line s.memory address width value k full here there apart
