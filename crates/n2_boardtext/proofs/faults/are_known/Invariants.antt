use Rattle.std.proofs.Common.{◌≡◌}
use Rattle.toml.specs.View.{members_view}
use Rattle.n2_boardtext.specs.Faults.{are_known}
use Rattle.n2_boardtext.proofs.faults.are_known.Given as goal

abbrev pub invariant-loop-name : goal.invariant-loop-name
invariant-loop-name l = are_known l.kind l.word (members_view l.name-iterator) ≡ are_known l.kind l.word (members_view l.table.entries)
