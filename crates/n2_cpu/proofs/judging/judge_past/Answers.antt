use Rattle.std.proofs.Common.{refl}
use Rattle.n2_watch.specs.declared.access.Access.TheVariants.{Bypass}
use Rattle.n2_watch.specs.Book.{knowledge}
use Rattle.n2_cpu.proofs.Straying.{bypass_strays}
use Rattle.n2_cpu.proofs.judging.judge_past.Goals as goal

pub returns : goal.returns
returns c = λ b book past h.
    c.judge.ensures b book c.args.core past c.args.width h
    (bypass_strays b c.args.layout.now (knowledge b book c.args.core past) (Bypass c.args.address c.args.store c.args.value) c.args.width c.args.core refl c.cut_off-strays.result c.args.address c.args.store c.args.value refl c.cut_off-strays.ensures)
