use Rattle.n2_watch.proofs.records.Records.lowest_of_guard.Goals as goal

pub returns : goal.returns
returns c = λ map past h. c.lowest_of_slot.ensures map past c.args.guard c.slot_of.ensures h
