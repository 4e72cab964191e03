use Rattle.std.proofs.Common.{refl}
use Rattle.n2_board.specs.Access.{data_target, fetch_violation}
use Rattle.n2_board.specs.AddressMap.{address_map}
use Rattle.n2_board.specs.Classes.{region_zones, line_zones, class_in}
use Rattle.n2_board.specs.Places.{kind_zones, place_zones, place_in}
use Rattle.n2_board.specs.Segments.{segments_from}
use Rattle.n2_watch.specs.Discipline.{breach}
use Rattle.n2_watch.proofs.laws.examples.separate.Goals as goal

pub returns-clause-device_through_the_cache : goal.returns-clause-device_through_the_cache
unfolding breach data_target fetch_violation address_map line_zones region_zones class_in place_zones kind_zones place_in segments_from
returns-clause-device_through_the_cache c = refl

pub returns-clause-own_line_past_the_cache : goal.returns-clause-own_line_past_the_cache
unfolding breach data_target fetch_violation address_map line_zones region_zones class_in place_zones kind_zones place_in segments_from
returns-clause-own_line_past_the_cache c = refl

pub returns-clause-another_core : goal.returns-clause-another_core
unfolding breach data_target fetch_violation address_map line_zones region_zones class_in place_zones kind_zones place_in segments_from
returns-clause-another_core c = refl

pub returns-clause-absent : goal.returns-clause-absent
unfolding breach data_target fetch_violation address_map line_zones region_zones class_in place_zones kind_zones place_in segments_from
returns-clause-absent c = refl

pub returns-clause-store_to_code : goal.returns-clause-store_to_code
unfolding breach data_target fetch_violation address_map line_zones region_zones class_in place_zones kind_zones place_in segments_from
returns-clause-store_to_code c = refl

pub returns-clause-fetch : goal.returns-clause-fetch
unfolding breach data_target fetch_violation address_map line_zones region_zones class_in place_zones kind_zones place_in segments_from
returns-clause-fetch c = refl
