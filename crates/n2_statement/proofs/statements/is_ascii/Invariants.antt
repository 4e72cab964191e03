use Rattle.std.proofs.Common.{◌≡◌, drop}
use Rattle.n2_statement.specs.Statements.{is_ascii}
use Rattle.n2_statement.proofs.statements.is_ascii.Given as goal

abbrev pub invariant-loop-c : goal.invariant-loop-c
invariant-loop-c l = is_ascii (drop l.c-index l.bytes) ≡ is_ascii l.bytes
