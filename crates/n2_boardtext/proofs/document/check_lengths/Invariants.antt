use Rattle.std.proofs.Common.{◌≡◌, drop}
use Rattle.toml.specs.View.{table_view}
use Rattle.n2_boardtext.specs.Faults.{lengths_fault}
use Rattle.n2_boardtext.proofs.document.check_lengths.Given as goal

abbrev pub invariant-loop-kind : goal.invariant-loop-kind
invariant-loop-kind l = lengths_fault (table_view l.tree) (drop l.kind-index l.kinds) ≡ lengths_fault (table_view l.tree) l.kinds
