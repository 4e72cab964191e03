use Rattle.n2_watch.proofs.Following.{owner_got}
use Rattle.n2_watch.proofs.notes.note_owner.Goals as goal

pub returns-then-not-before : goal.returns-then-not-before
returns-then-not-before c =
    owner_got c.args.guard c.args.before c.args.after c.args.records.now c.note_got.new.self c.if-after.true c.if-not-before.true c.note_got.ensures.noted
    (λ map past l. c.note_got.ensures.stands map past c.args.guard c.slot_of.ensures l)
