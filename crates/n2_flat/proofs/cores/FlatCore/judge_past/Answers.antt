use Rattle.std.proofs.Common.{◌≡◌, Option, Err, ap, sym}
use Rattle.n2_board.specs.declared.access.Violation.TheVariants.{Stray}
use Rattle.n2_board.specs.declared.access.Route.TheVariants.{Bypassing}
use Rattle.n2_board.specs.Access.{data_target}
use Rattle.n2_watch.specs.Discipline.{Breach, direction}
use Rattle.n2_front.specs.Retire.{who}
use Rattle.n2_flat.specs.State.{stop_of}
use Rattle.n2_flat.proofs.Straying.{past_strays, past_known}
use Rattle.n2_flat.proofs.cores.FlatCore.judge_past.Goals as goal

pub returns-in-Err-Stray : goal.returns-in-Err-Stray
returns-in-Err-Stray c = λ b book h.
    let e : data_target c.args.layout.now c.args.k c.args.address c.args.width Bypassing (direction c.args.store) ≡ Err Stray = cc in
    ap (λ (o : Option Breach). stop_of c.args.self.now.front.regs.pc c.args.word c.args.address o) (sym (past_strays b c.args.layout.now (who b c.args.k c.args.self.now.front book) c.args.address c.args.store c.args.value c.args.width e))

pub returns-in-Err-Separate : goal.returns-in-Err-Separate
returns-in-Err-Separate c = λ b book h.
    c.judge.ensures b c.args.k book c.args.width h (past_known b c.args.layout.now (who b c.args.k c.args.self.now.front book) c.args.address c.args.store c.args.value c.args.width (λ x. cc))

pub returns-in-Ok : goal.returns-in-Ok
returns-in-Ok c = λ b book h.
    c.judge-in-Ok.ensures b c.args.k book c.args.width h (past_known b c.args.layout.now (who b c.args.k c.args.self.now.front book) c.args.address c.args.store c.args.value c.args.width (λ x. cc))
