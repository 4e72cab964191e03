use Rattle.std.proofs.Common.{◌≡◌, ◌≤◌, ◌^◌, drop}
use Rattle.std.specs.Prelude.{option_map}
use Rattle.n2_text.specs.Fields.{digits_after}
use Rattle.n2_source.specs.Numbers.{capped}
use Rattle.n2_source.proofs.numbers.decimal_digits.Given as goal

abbrev pub invariant-loop-c : goal.invariant-loop-c
invariant-loop-c l = record {
  small : l.n ≤ 2 ^ 40;
  same : option_map capped (digits_after l.n (drop l.c-index l.word)) ≡ option_map capped (digits_after 0 l.word);
}
