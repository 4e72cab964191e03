use Rattle.std.proofs.Common.{◌≡◌, ◌-◌, length}
use Rattle.std.specs.Prelude.{replicate}
use Rattle.n2_parts.specs.declared.stops.Act.TheVariants.{Retire}
use Rattle.n2_runs.specs.FlatRun.{flat}
use Rattle.n2_flat.specs.PlainBoard.{plain_board}
use Rattle.n2_flat.specs.State.{IsWhole, machine_of}
use Rattle.n2_top.proofs.plain.run.Given as goal

abbrev pub invariant-loop-step : goal.invariant-loop-step
invariant-loop-step l = record {
  whole : IsWhole l.layout l.flat;
  board : l.flat.board ≡ plain_board;
  core : length l.flat.cores ≡ 1;
  acts : flat plain_board l.layout (machine_of l.flat) (replicate (l.steps - l.step) (Retire 0)) ≡ flat plain_board l.layout (machine_of l.fn.flat) (replicate l.steps (Retire 0));
}
