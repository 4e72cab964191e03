use Rattle.std.proofs.Common.{◌≡◌, ◌-◌, length}
use Rattle.n2_statement.specs.Statements.{behind_labels_within}
use Rattle.n2_statement.proofs.statements.behind_labels.Given as goal

abbrev pub invariant-loop-i : goal.invariant-loop-i
invariant-loop-i l = behind_labels_within (length l.row - l._i) l.rest ≡ behind_labels_within (length l.row) l.row
