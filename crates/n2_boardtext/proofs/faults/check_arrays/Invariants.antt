use Rattle.std.proofs.Common.{◌≡◌, None, drop}
use Rattle.toml.specs.View.{table_view}
use Rattle.n2_boardtext.specs.Faults.{arrays_fault, lengths_fault}
use Rattle.n2_boardtext.proofs.faults.check_arrays.Given as goal

abbrev pub invariant-loop-kind : goal.invariant-loop-kind
invariant-loop-kind l = record {
  same : arrays_fault (table_view l.document.tree.now) (drop l.kind-index l.kinds) ≡ arrays_fault (table_view l.document.tree.now) l.kinds;
  few : lengths_fault (table_view l.document.tree.now) (drop l.kind-index l.kinds) ≡ None;
}
