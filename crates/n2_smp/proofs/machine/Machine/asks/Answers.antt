use Rattle.std.proofs.Common.{sym, ◌∙◌}
use Rattle.n2_smp.proofs.Asking.{asks_none, asks_some}
use Rattle.n2_smp.proofs.machine.Machine.asks.Goals as goal

pub returns-in-Some-clause-asks : goal.returns-in-Some-clause-asks
returns-in-Some-clause-asks c = λ m h kept.
    asks_some c.args.self.now.board c.args.self.now.map m c.args.entry.now c.in-Some.request c.is_same_request.result (sym (c.next_request.ensures.request m h kept) ∙ c.in-Some.is) c.is_same_request.ensures

pub returns-in-None-clause-asks : goal.returns-in-None-clause-asks
returns-in-None-clause-asks c = λ m h kept.
    asks_none c.args.self.now.board c.args.self.now.map m c.args.entry.now (sym (c.next_request.ensures.request m h kept) ∙ c.in-None.is)
