use Rattle.std.specs.Prelude.{All}
use Rattle.n2_elf.specs.Reading.{IsSized}
use Rattle.n2_random_cases.proofs.images.Given as goal

abbrev pub invariant-loop-k : goal.invariant-loop-k
invariant-loop-k l = All IsSized l.images
