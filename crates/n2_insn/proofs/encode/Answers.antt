use Rattle.std.proofs.Common.{ap, ◌∙◌}
use Rattle.n2_insn.specs.Table.{table_insn}
use Rattle.n2_insn.proofs.Again.{again}
use Rattle.n2_insn.proofs.encode.Goals as goal

pub returns-clause-decoded : goal.returns-clause-decoded
returns-clause-decoded c =
    ap table_insn c.composed_word.ensures.word ∙ again c.args.insn.now c.requires c.composed_word.ensures.half
