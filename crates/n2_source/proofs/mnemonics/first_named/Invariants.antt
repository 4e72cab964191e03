use Rattle.std.proofs.Common.{◌≡◌, drop}
use Rattle.n2_source.specs.Mnemonics.{first_named}
use Rattle.n2_source.proofs.mnemonics.first_named.Given as goal

abbrev pub invariant-loop-mnemonic : goal.invariant-loop-mnemonic
invariant-loop-mnemonic l = first_named (drop l.mnemonic-index l.mnemonics) l.word ≡ first_named l.mnemonics l.word
