use Rattle.std.proofs.Common.{refl}
use Rattle.n2_board.specs.Access.{data_target, fetch_violation}
use Rattle.n2_board.specs.AddressMap.{address_map}
use Rattle.n2_board.specs.Classes.{region_zones, line_zones, class_in}
use Rattle.n2_board.specs.Places.{kind_zones, place_zones, place_in}
use Rattle.n2_board.specs.Segments.{segments_from}
use Rattle.n2_watch.specs.Discipline.{breach}
use Rattle.n2_watch.proofs.laws.examples.lock.Goals as goal

pub returns-clause-without_the_mutex : goal.returns-clause-without_the_mutex
unfolding breach data_target fetch_violation address_map line_zones region_zones class_in place_zones kind_zones place_in segments_from
returns-clause-without_the_mutex c = refl

pub returns-clause-before_it_is_received : goal.returns-clause-before_it_is_received
unfolding breach data_target fetch_violation address_map line_zones region_zones class_in place_zones kind_zones place_in segments_from
returns-clause-before_it_is_received c = refl

pub returns-clause-with_another_cpuid : goal.returns-clause-with_another_cpuid
unfolding breach data_target fetch_violation address_map line_zones region_zones class_in place_zones kind_zones place_in segments_from
returns-clause-with_another_cpuid c = refl

pub returns-clause-other_side : goal.returns-clause-other_side
unfolding breach data_target fetch_violation address_map line_zones region_zones class_in place_zones kind_zones place_in segments_from
returns-clause-other_side c = refl
