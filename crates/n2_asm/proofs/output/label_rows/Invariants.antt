use Rattle.std.proofs.Common.{◌≡◌, ◌-◌, length}
use Rattle.std.specs.BTreeMap.{get_by_text}
use Rattle.n2_statement.specs.Statements.{labels_within}
use Rattle.n2_asm.specs.Sources.{labelled}
use Rattle.n2_asm.proofs.output.label_rows.Given as goal

abbrev pub invariant-loop-i : goal.invariant-loop-i
invariant-loop-i l = labelled (labels_within (length l.row - l._i) l.rest) l.here (get_by_text l.labels) ≡ labelled (labels_within (length l.row) l.row) l.here (get_by_text l.initial.labels)
