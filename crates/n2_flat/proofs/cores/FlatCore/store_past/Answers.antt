use Rattle.n2_front.specs.Tasks as tasks
use Rattle.n2_flat.specs.State.{acted_by}
use Rattle.n2_flat.proofs.Judged.{is_unbroken}
use Rattle.n2_flat.proofs.Tasked.{on_ok, halted, let_pass}
use Rattle.n2_flat.proofs.cores.FlatCore.store_past.Goals as goal

pub store_past_let-requires-clause-unbroken : goal.store_past_let-requires-clause-unbroken
store_past_let-requires-clause-unbroken c =
    is_unbroken c.args.self.now.front.regs.pc c.args.word c.args.address _ (c.in-None.ensures c.args.board.now c.args.common.now.world.book c.requires.at.watched.stands)

pub returns-in-Some-clause-done : goal.returns-in-Some-clause-done
returns-in-Some-clause-done c =
    halted c.args.board.now c.args.layout.now c.args.k c.args.self.now.front c.args.common.now.world c.args.word (tasks.StorePast c.args.address c.args.width c.args.value) c.halt.new.self.front c.in-Some.stop c.halt.ensures.front (c.in-Some.ensures c.args.board.now c.args.common.now.world.book c.requires.at.watched.stands)

pub returns-in-None-clause-done : goal.returns-in-None-clause-done
returns-in-None-clause-done c =
    on_ok c.store_past_let.result _ _
    (let_pass c.args.board.now c.args.layout.now c.args.k c.args.self.now.front c.args.common.now.world c.args.word (tasks.StorePast c.args.address c.args.width c.args.value) (c.in-None.ensures c.args.board.now c.args.common.now.world.book c.requires.at.watched.stands) (acted_by c.store_past_let.new.self c.store_past_let.new.common))
    c.store_past_let.ensures.done
