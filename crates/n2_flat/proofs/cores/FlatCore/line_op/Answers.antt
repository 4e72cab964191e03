use Rattle.n2_word.specs.declared.Width.TheVariants.{Word}
use Rattle.n2_front.specs.Tasks as tasks
use Rattle.n2_flat.specs.State.{acted_by}
use Rattle.n2_flat.proofs.Tasked.{on_ok, halted, let_pass}
use Rattle.n2_flat.proofs.cores.FlatCore.line_op.Goals as goal

pub returns-in-Some-clause-done : goal.returns-in-Some-clause-done
returns-in-Some-clause-done c =
    halted c.args.board.now c.args.layout.now c.args.k c.args.self.now.front c.args.common.now.world c.args.word (tasks.LineOp c.args.op c.args.address) c.halt.new.self.front c.in-Some.stop c.halt.ensures.front (c.in-Some.ensures c.args.board.now c.args.k c.args.common.now.world.book Word c.requires.at.watched.stands)

pub returns-in-None-clause-done : goal.returns-in-None-clause-done
returns-in-None-clause-done c =
    on_ok c.line_op_let.result _ _
    (let_pass c.args.board.now c.args.layout.now c.args.k c.args.self.now.front c.args.common.now.world c.args.word (tasks.LineOp c.args.op c.args.address) (c.in-None.ensures c.args.board.now c.args.k c.args.common.now.world.book Word c.requires.at.watched.stands) (acted_by c.line_op_let.new.self c.args.common.now))
    c.line_op_let.ensures.done
