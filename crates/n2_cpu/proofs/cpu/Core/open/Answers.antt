use Rattle.std.proofs.Common.{refl}
use Rattle.n2_watch.specs.World.{start_world}
use Rattle.n2_cpu.proofs.cpu.Core.open.Goals as goal

pub returns : goal.returns
returns c = λ row images h. c.in_ok-state.ensures.stands row (start_world c.args.board.now images) h refl
