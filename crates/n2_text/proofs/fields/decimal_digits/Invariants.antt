use Rattle.std.proofs.Common.{◌≡◌, ◌≤◌, ◌-◌, ◌^◌, drop}
use Rattle.n2_text.specs.Fields.{digits_after, at_most}
use Rattle.n2_text.proofs.fields.decimal_digits.Given as goal

abbrev pub invariant-loop-c : goal.invariant-loop-c
invariant-loop-c l = (l.n ≤ 2 ^ 64 - 1) × (at_most (2 ^ 64 - 1) (digits_after l.n (drop l.c-index l.text)) ≡ at_most (2 ^ 64 - 1) (digits_after 0 l.text))
