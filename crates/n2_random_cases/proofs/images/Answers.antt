use Rattle.std.proofs.lemmas.List.Elements.{recursion_from_All}
use Rattle.n2_elf.specs.Reading.{IsSized}
use Rattle.n2_random_cases.proofs.images.Goals as goal

pub returns : goal.returns
returns c = recursion_from_All IsSized _ c.loop-k.invariant
