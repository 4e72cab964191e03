use Rattle.n2_memory.proofs.Lines.{written_is}
use Rattle.n2_memory.proofs.Memory.write.Goals as goal

pub returns-clause-stored : goal.returns-clause-stored
returns-clause-stored c = written_is (record { memories = c.self.inside.memories; words = c.self.inside.words.items }) c.args.self.now c.line_place.result c.index.result.now c.args.address c.args.value c.merge.result c.args.width c.self.view_is c.self.invariant c.requires.inside (cc) c.index.ensures c.merge.ensures
