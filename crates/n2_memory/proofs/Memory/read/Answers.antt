use Rattle.n2_memory.proofs.Lines.{read_is}
use Rattle.n2_memory.proofs.Memory.read.Goals as goal

pub returns : goal.returns
returns c = read_is (record { memories = c.self.inside.memories; words = c.self.inside.words.items }) c.args.self.now c.line_place.result c.index.result.now c.args.address _ c.args.width c.self.view_is c.self.invariant c.requires.inside (cc) c.index.ensures c.extract.ensures
