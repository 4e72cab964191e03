use Rattle.std.proofs.Common.{length}
use Rattle.n2_board.specs.Segments.{loaded_segments}
use Rattle.n2_board.specs.Classes.{line_zones, NamesParts}
use Rattle.n2_board.specs.AddressMap.{address_map}
use Rattle.n2_board.proofs.Named.{named, class_among, cores_of}
use Rattle.n2_board.proofs.laws.classes.Goals as goal

pub returns : goal.returns
unfolding address_map
returns c = λ b images valid long number. class_among (NamesParts b) (line_zones b (loaded_segments images)) number tt (named b valid (loaded_segments images) (cores_of images (length b.core) long))
