use Rattle.std.proofs.Common.{refl}
use Rattle.n2_board.specs.Access.{data_target, fetch_violation}
use Rattle.n2_board.specs.AddressMap.{address_map}
use Rattle.n2_board.specs.Classes.{region_zones, line_zones, class_in}
use Rattle.n2_board.specs.Places.{kind_zones, place_zones, place_in}
use Rattle.n2_board.specs.Segments.{segments_from}
use Rattle.n2_watch.specs.Discipline.{breach}
use Rattle.n2_watch.proofs.laws.examples.flush.Goals as goal

pub returns-clause-at_the_release : goal.returns-clause-at_the_release
unfolding breach data_target fetch_violation address_map line_zones region_zones class_in place_zones kind_zones place_in segments_from
returns-clause-at_the_release c = refl

pub returns-clause-once_flushed : goal.returns-clause-once_flushed
unfolding breach data_target fetch_violation address_map line_zones region_zones class_in place_zones kind_zones place_in segments_from
returns-clause-once_flushed c = refl

pub returns-clause-set_dropped : goal.returns-clause-set_dropped
unfolding breach data_target fetch_violation address_map line_zones region_zones class_in place_zones kind_zones place_in segments_from
returns-clause-set_dropped c = refl
