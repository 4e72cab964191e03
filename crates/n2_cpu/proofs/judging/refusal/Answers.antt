use Rattle.std.proofs.Common.{Some, None, refl, ap}
use Rattle.n2_watch.specs.Watched.{address_of}
use Rattle.n2_cpu.proofs.Straying.{refused_as}
use Rattle.n2_cpu.proofs.judging.refusal.Goals as goal

pub returns-in-Some : goal.returns-in-Some
returns-in-Some c = λ b book past width h n. refused_as c.args.pc c.args.word (address_of c.args.access.now) _ _ _ (ap Some c.refused.ensures) n (c.in-Some.ensures b book past width h n)

pub returns-in-None : goal.returns-in-None
returns-in-None c = λ b book past width h n. refused_as c.args.pc c.args.word (address_of c.args.access.now) None _ _ refl n (c.in-None.ensures b book past width h n)
