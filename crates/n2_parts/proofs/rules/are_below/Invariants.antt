use Rattle.std.proofs.Common.{◌≡◌, drop}
use Rattle.n2_parts.specs.Rules.{are_below}
use Rattle.n2_parts.proofs.rules.are_below.Given as goal

abbrev pub invariant-loop-i : goal.invariant-loop-i
invariant-loop-i l = are_below l.n (drop l.i-index l.numbers) ≡ are_below l.n l.numbers
