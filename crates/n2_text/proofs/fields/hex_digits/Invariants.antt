use Rattle.std.proofs.Common.{◌≡◌, ◌<◌, ◌^◌, drop}
use Rattle.n2_text.specs.Fields.{hex_digits_after}
use Rattle.n2_text.proofs.fields.hex_digits.Given as goal

abbrev pub invariant-loop-c : goal.invariant-loop-c
invariant-loop-c l = (l.n < 16 ^ l.c-index) × (hex_digits_after l.n (drop l.c-index l.text) ≡ hex_digits_after 0 l.fn.text)
