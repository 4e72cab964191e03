use Rattle.n2_front.specs.Retire.{who}
use Rattle.n2_flat.proofs.Straying.{op_known}
use Rattle.n2_flat.proofs.cores.FlatCore.judge_op.Goals as goal

pub returns : goal.returns
returns c = λ b k book width h.
    c.judge.ensures b k book width h (op_known b c.args.layout.now (who b k c.args.self.now.front book) c.args.op c.args.address width)
