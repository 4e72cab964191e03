use Rattle.std.proofs.Common.{◌≡◌, ◌≤◌, ◌^◌, drop, map}
use Rattle.std.specs.Prelude.{option_map}
use Rattle.n2_text.specs.Fields.{hex_digits_after}
use Rattle.n2_source.specs.Numbers.{capped, lowered}
use Rattle.n2_source.proofs.numbers.hexadecimal.Given as goal

abbrev pub invariant-loop-c : goal.invariant-loop-c
invariant-loop-c l = record {
  small : l.n ≤ 2 ^ 40;
  same : option_map capped (hex_digits_after l.n (map lowered (drop l.c-index l.word))) ≡ option_map capped (hex_digits_after 0 (map lowered l.word));
}
