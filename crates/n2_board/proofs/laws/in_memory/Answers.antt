use Rattle.n2_board.proofs.Reached.{line_of_memory, memory_of_line, data_line, fetch_line}
use Rattle.n2_board.proofs.laws.in_memory.Goals as goal

pub returns-clause-place : goal.returns-clause-place
returns-clause-place c = λ b images valid address lt. (line_of_memory b images valid address lt, memory_of_line b images valid address lt)

pub returns-clause-data : goal.returns-clause-data
returns-clause-data c = data_line

pub returns-clause-fetch : goal.returns-clause-fetch
returns-clause-fetch c = fetch_line
