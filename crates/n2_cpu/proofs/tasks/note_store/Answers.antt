use Rattle.std.proofs.Common.{ℕ, refl, subst}
use Rattle.n2_cpu.proofs.Bypassing.{StoreStands, store_stands}
use Rattle.n2_cpu.proofs.tasks.note_store.Goals as goal

pub returns-clause-stands : goal.returns-clause-stands
returns-clause-stands c = λ b core w past width h shared lt br e.
    subst (λ (k : ℕ). StoreStands b c.args.layout.now k w past c.args.watch.now c.note.new.self c.args.address c.args.value c.args.reply.now width)
    h.core_is
    (store_stands b c.args.layout.now c.args.watch.now.core w past c.args.watch.now c.note.new.self c.args.address c.args.value c.args.reply.now width
    (λ m passed took s. c.note.ensures.wrote b m.images w past c.args.address c.args.value c.args.reply.now.took refl passed took s))
    h shared lt br e
