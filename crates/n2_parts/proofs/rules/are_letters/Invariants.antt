use Rattle.std.proofs.Common.{◌≡◌, drop}
use Rattle.n2_parts.specs.Rules.{are_letters}
use Rattle.n2_parts.proofs.rules.are_letters.Given as goal

abbrev pub invariant-loop-c : goal.invariant-loop-c
invariant-loop-c l = are_letters (drop l.c-index l.name) ≡ are_letters l.name
