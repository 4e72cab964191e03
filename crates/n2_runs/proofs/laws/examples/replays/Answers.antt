use Rattle.std.proofs.Common.{refl}
use Rattle.n2_exec.specs.Effect.{effect_of, effect_of_word}
use Rattle.n2_insn.specs.Table.{table_insn}
use Rattle.n2_elf.specs.Reading.{raw_image}
use Rattle.n2_memory.specs.Start as first
use Rattle.n2_memory.specs.Start.{stored, bytes_of_segment, loaded, segments_of, zeros}
use Rattle.n2_bus.specs.Transfer.{served}
use Rattle.n2_board.specs.Access.{data_target, fetch_violation}
use Rattle.n2_board.specs.AddressMap.{address_map}
use Rattle.n2_board.specs.Classes.{region_zones, line_zones, class_in}
use Rattle.n2_board.specs.Places.{kind_zones, place_zones, place_in}
use Rattle.n2_board.specs.Segments.{segments_from}
use Rattle.n2_watch.specs.Discipline.{breach}
use Rattle.n2_watch.specs.World.{transferred}
use Rattle.n2_front.specs.Turn.{executes, steps, core_turn}
use Rattle.n2_runs.specs.Machine.{turn}
use Rattle.n2_runs.specs.Replay.{quiet_turn, quiet_turns, entry_turn, entry_rows, tail_rows}
use Rattle.n2_runs.proofs.laws.examples.replays.Goals as goal

pub returns-clause-whole : goal.returns-clause-whole
unfolding raw_image turn core_turn steps executes breach data_target fetch_violation address_map line_zones region_zones class_in place_zones kind_zones place_in segments_from transferred served effect_of effect_of_word table_insn stored bytes_of_segment loaded segments_of zeros first.start quiet_turn quiet_turns entry_turn entry_rows tail_rows
returns-clause-whole c = refl

pub returns-clause-another_word : goal.returns-clause-another_word
unfolding raw_image turn core_turn steps executes breach data_target fetch_violation address_map line_zones region_zones class_in place_zones kind_zones place_in segments_from transferred served effect_of effect_of_word table_insn stored bytes_of_segment loaded segments_of zeros first.start quiet_turn quiet_turns entry_turn entry_rows tail_rows
returns-clause-another_word c = refl

pub returns-clause-another_count : goal.returns-clause-another_count
unfolding raw_image turn core_turn steps executes breach data_target fetch_violation address_map line_zones region_zones class_in place_zones kind_zones place_in segments_from transferred served effect_of effect_of_word table_insn stored bytes_of_segment loaded segments_of zeros first.start quiet_turn quiet_turns entry_turn entry_rows tail_rows
returns-clause-another_count c = refl

pub returns-clause-another_byte : goal.returns-clause-another_byte
unfolding raw_image turn core_turn steps executes breach data_target fetch_violation address_map line_zones region_zones class_in place_zones kind_zones place_in segments_from transferred served effect_of effect_of_word table_insn stored bytes_of_segment loaded segments_of zeros first.start quiet_turn quiet_turns entry_turn entry_rows tail_rows
returns-clause-another_byte c = refl

pub returns-clause-entry_missing : goal.returns-clause-entry_missing
unfolding raw_image turn core_turn steps executes breach data_target fetch_violation address_map line_zones region_zones class_in place_zones kind_zones place_in segments_from transferred served effect_of effect_of_word table_insn stored bytes_of_segment loaded segments_of zeros first.start quiet_turn quiet_turns entry_turn entry_rows tail_rows
returns-clause-entry_missing c = refl

pub returns-clause-tail_too_short : goal.returns-clause-tail_too_short
unfolding raw_image turn core_turn steps executes breach data_target fetch_violation address_map line_zones region_zones class_in place_zones kind_zones place_in segments_from transferred served effect_of effect_of_word table_insn stored bytes_of_segment loaded segments_of zeros first.start quiet_turn quiet_turns entry_turn entry_rows tail_rows
returns-clause-tail_too_short c = refl

pub returns-clause-tail_too_long : goal.returns-clause-tail_too_long
unfolding raw_image turn core_turn steps executes breach data_target fetch_violation address_map line_zones region_zones class_in place_zones kind_zones place_in segments_from transferred served effect_of effect_of_word table_insn stored bytes_of_segment loaded segments_of zeros first.start quiet_turn quiet_turns entry_turn entry_rows tail_rows
returns-clause-tail_too_long c = refl

pub returns-clause-tail_missing : goal.returns-clause-tail_missing
unfolding raw_image turn core_turn steps executes breach data_target fetch_violation address_map line_zones region_zones class_in place_zones kind_zones place_in segments_from transferred served effect_of effect_of_word table_insn stored bytes_of_segment loaded segments_of zeros first.start quiet_turn quiet_turns entry_turn entry_rows tail_rows
returns-clause-tail_missing c = refl

pub returns-clause-tail_surplus : goal.returns-clause-tail_surplus
unfolding raw_image turn core_turn steps executes breach data_target fetch_violation address_map line_zones region_zones class_in place_zones kind_zones place_in segments_from transferred served effect_of effect_of_word table_insn stored bytes_of_segment loaded segments_of zeros first.start quiet_turn quiet_turns entry_turn entry_rows tail_rows
returns-clause-tail_surplus c = refl
