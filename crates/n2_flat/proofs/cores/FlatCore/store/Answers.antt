use Rattle.n2_front.specs.Tasks as tasks
use Rattle.n2_flat.specs.State.{acted_by}
use Rattle.n2_flat.proofs.Judged.{is_unbroken}
use Rattle.n2_flat.proofs.Tasked.{on_ok, halted, let_pass}
use Rattle.n2_flat.proofs.cores.FlatCore.store.Goals as goal

pub store_let-requires-clause-unbroken : goal.store_let-requires-clause-unbroken
store_let-requires-clause-unbroken c =
    is_unbroken c.args.self.now.front.regs.pc c.args.word c.args.address _ (c.in-Ok.ensures c.args.board.now c.args.k c.args.common.now.world.book c.requires.at.watched.stands)

pub returns-in-Err-clause-done : goal.returns-in-Err-clause-done
returns-in-Err-clause-done c =
    halted c.args.board.now c.args.layout.now c.args.k c.args.self.now.front c.args.common.now.world c.args.word (tasks.Store c.args.address c.args.width c.args.value) c.halt.new.self.front c.in-Err.stop c.halt.ensures.front (c.in-Err.ensures c.args.board.now c.args.k c.args.common.now.world.book c.requires.at.watched.stands)

pub returns-in-Ok-clause-done : goal.returns-in-Ok-clause-done
returns-in-Ok-clause-done c =
    on_ok c.store_let.result _ _
    (let_pass c.args.board.now c.args.layout.now c.args.k c.args.self.now.front c.args.common.now.world c.args.word (tasks.Store c.args.address c.args.width c.args.value) (c.in-Ok.ensures c.args.board.now c.args.k c.args.common.now.world.book c.requires.at.watched.stands) (acted_by c.store_let.new.self c.store_let.new.common))
    c.store_let.ensures.done
