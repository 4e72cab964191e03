use Rattle.std.proofs.Common.{List, sym, subst}
use Rattle.std.specs.List.{AllByRecursion}
use Rattle.n2_elf.specs.declared.image.Segment.{Segment}
use Rattle.n2_elf.specs.Reading.{HoldsItsBytes, count_of}
use Rattle.n2_elf.proofs.Sized.{segments_hold}
use Rattle.n2_elf.proofs.image.Image.read.Goals as goal

pub returns-clause-sized : goal.returns-clause-sized
returns-clause-sized c =
    subst (λ (segments : List Segment). AllByRecursion HoldsItsBytes segments) (sym c.in_ok-segments.ensures) (segments_hold c.args.bytes.now 0 (count_of c.args.bytes.now) (sym c.in_ok-check_programs.ensures))
