use Rattle.n2_cpu.proofs.Quiet.{quiet_after}
use Rattle.n2_cpu.proofs.state.State.count.Goals as goal

pub returns-then-self-gt0-clause-quiet : goal.returns-then-self-gt0-clause-quiet
returns-then-self-gt0-clause-quiet c =
    let clock = c.args.self.now.clock in
    quiet_after clock.sample clock.evict clock.turns clock.quiet c.requires.quiet c.if-self-gt0.true
