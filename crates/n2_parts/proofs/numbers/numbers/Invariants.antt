use Rattle.std.proofs.Common.{◌≡◌, drop}
use Rattle.n2_parts.specs.Numbers.{numbers}
use Rattle.n2_parts.proofs.numbers.numbers.Given as goal

abbrev pub invariant-loop-key : goal.invariant-loop-key
invariant-loop-key l = numbers l.part (drop l.key-index l.keys) ≡ numbers l.part l.keys
