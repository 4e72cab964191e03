use Rattle.std.proofs.Common.{refl}
use Rattle.n2_exec.specs.Effect.{effect_of, effect_of_word}
use Rattle.n2_insn.specs.Table.{table_insn}
use Rattle.n2_elf.specs.Reading.{raw_image}
use Rattle.n2_memory.specs.Start as first
use Rattle.n2_memory.specs.Start.{stored, bytes_of_segment, loaded, segments_of, zeros}
use Rattle.n2_bus.specs.Transfer.{served}
use Rattle.n2_board.specs.Access.{data_target, fetch_violation}
use Rattle.n2_board.specs.AddressMap.{address_map}
use Rattle.n2_board.specs.Classes.{region_zones, line_zones, class_in}
use Rattle.n2_board.specs.Places.{kind_zones, place_zones, place_in}
use Rattle.n2_board.specs.Segments.{segments_from}
use Rattle.n2_watch.specs.Discipline.{breach}
use Rattle.n2_watch.specs.World.{transferred}
use Rattle.n2_front.specs.Turn.{executes, steps, core_turn}
use Rattle.n2_runs.specs.Machine.{turn, run}
use Rattle.n2_runs.proofs.laws.examples.run.Goals as goal

pub returns-clause-journal : goal.returns-clause-journal
unfolding raw_image turn run core_turn steps executes breach data_target fetch_violation address_map line_zones region_zones class_in place_zones kind_zones place_in segments_from transferred served effect_of effect_of_word table_insn stored bytes_of_segment loaded segments_of zeros first.start
returns-clause-journal c = refl

pub returns-clause-finished : goal.returns-clause-finished
unfolding raw_image turn run core_turn steps executes breach data_target fetch_violation address_map line_zones region_zones class_in place_zones kind_zones place_in segments_from transferred served effect_of effect_of_word table_insn stored bytes_of_segment loaded segments_of zeros first.start
returns-clause-finished c = refl

pub returns-clause-bytes : goal.returns-clause-bytes
unfolding raw_image turn run core_turn steps executes breach data_target fetch_violation address_map line_zones region_zones class_in place_zones kind_zones place_in segments_from transferred served effect_of effect_of_word table_insn stored bytes_of_segment loaded segments_of zeros first.start
returns-clause-bytes c = refl
