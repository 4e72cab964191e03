-- The board of workloads is valid.
use Rattle.std.proofs.Common.{◌≡◌, None, refl}
use Rattle.std.specs.Int.RustNames.{count_ones}
use Rattle.n2_parts.specs.Parts.{first_from, first_part}
use Rattle.n2_parts.specs.Numbers.{top_numbers, memory_numbers, core_numbers, mutex_numbers, dump_numbers, region_numbers, number_fault}
use Rattle.n2_parts.specs.Rules.{name_fault, same_name, same_cpuid, core_fault, part_fault, overlap, inside_fault}
use Rattle.n2_parts.specs.Valid.{counts, totals, name_faults, place_faults, early_faults, late_faults, first_fault, IsValid}
use Rattle.n2_make.specs.Boards.{work_board}

pub work_valid : IsValid work_board
unfolding work_board first_fault counts early_faults late_faults totals name_faults place_faults first_part first_from top_numbers memory_numbers core_numbers mutex_numbers dump_numbers region_numbers number_fault name_fault same_name same_cpuid core_fault part_fault overlap inside_fault count_ones
work_valid = refl
