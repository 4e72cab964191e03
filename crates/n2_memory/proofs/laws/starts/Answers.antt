use Rattle.n2_parts.proofs.WholeLines.{whole_lines, few_lines}
use Rattle.n2_memory.proofs.Starts.{start_read, start_full}
use Rattle.n2_memory.proofs.WordRanges.{start_memories}
use Rattle.n2_memory.proofs.laws.starts.Goals as goal

pub returns-clause-byte : goal.returns-clause-byte
returns-clause-byte c = λ b images address valid inside sized lt here. start_read b.memory images address (whole_lines b valid) (few_lines b valid) inside sized lt here

pub returns-clause-full : goal.returns-clause-full
returns-clause-full c = λ b images valid inside sized. start_full b.memory images (whole_lines b valid) (few_lines b valid) inside sized

pub returns-clause-memories : goal.returns-clause-memories
returns-clause-memories c = start_memories
