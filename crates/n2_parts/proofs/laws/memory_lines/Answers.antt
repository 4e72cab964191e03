use Rattle.std.proofs.Common.{subst, arith}
use Rattle.n2_word.specs.Lines.{line}
use Rattle.n2_parts.specs.MemoryLines.{HasLine}
use Rattle.n2_parts.proofs.WholeLines.{whole_lines, few_lines}
use Rattle.n2_parts.proofs.LinePlaces.{inside_address, inside_end, address_inside, one_place}
use Rattle.n2_parts.proofs.laws.memory_lines.Goals as goal

pub returns-clause-whole : goal.returns-clause-whole
returns-clause-whole c = whole_lines

pub returns-clause-few : goal.returns-clause-few
returns-clause-few c = few_lines

pub returns-clause-byte : goal.returns-clause-byte
returns-clause-byte c = λ rows a w lt. (λ h. subst (λ x. HasLine rows (line x)) (omega arith) (inside_address rows a 1 0 w h (omega arith)), address_inside rows a w lt)

pub returns-clause-bytes : goal.returns-clause-bytes
returns-clause-bytes c = inside_address

pub returns-clause-below : goal.returns-clause-below
returns-clause-below c = inside_end

pub returns-clause-apart : goal.returns-clause-apart
returns-clause-apart c = one_place
