use Rattle.std.proofs.Common.{ℕ, refl, subst}
use Rattle.n2_cpu.proofs.Bypassing.{LoadStands, load_stands}
use Rattle.n2_cpu.proofs.tasks.note_load.Goals as goal

pub returns-clause-stands : goal.returns-clause-stands
returns-clause-stands c = λ b core w past width h shared lt br e.
    subst (λ (k : ℕ). LoadStands b c.args.layout.now k w past c.args.watch.now c.note.new.self c.args.address c.args.reply.now width)
    h.core_is
    (load_stands b c.args.layout.now c.args.watch.now.core w past c.args.watch.now c.note.new.self c.args.address c.args.reply.now width
    (λ m passed took pointer s. c.note.ensures.received b m.images w past c.args.address c.args.reply.now.took c.args.reply.now.pointer refl passed took pointer s))
    h shared lt br e
