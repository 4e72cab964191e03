use Rattle.n2_watch.proofs.Noting.{touched_as, cleaned_as}
use Rattle.n2_watch.proofs.FollowingAccess.{wrote_as, wrote_follows, received_as, received_follows}
use Rattle.n2_watch.proofs.watch.Watch.note.Goals as goal

pub returns-in-Touched-clause-touched : goal.returns-in-Touched-clause-touched
returns-in-Touched-clause-touched c = λ b map book past line store address width d.
    touched_as b map c.args.self.now _ _ _ line store c.args.done.now c.in-Touched.is d (c.note_touched_at.ensures.stands b map) book past address width

pub returns-in-Cleaned-clause-cleaned : goal.returns-in-Cleaned-clause-cleaned
returns-in-Cleaned-clause-cleaned c = λ b map book past op address d.
    cleaned_as b map c.args.self.now _ _ _ op address c.args.done.now c.in-Cleaned.is d (c.note_cleaned.ensures.stands b map) book past

pub returns-in-Wrote-clause-wrote : goal.returns-in-Wrote-clause-wrote
returns-in-Wrote-clause-wrote c = λ b images w past address value took d let_past t h.
    wrote_follows b images c.args.layout.now c.args.self.now.core w past c.args.self.now c.note_wrote.new.self address value took let_past t h
    (wrote_as c.args.layout.now c.args.self.now c.note_wrote.new.self c.in-Wrote.address c.in-Wrote.value c.in-Wrote.took address value took c.args.done.now c.in-Wrote.is d c.note_wrote.ensures.noted)

pub returns-in-Received-clause-received : goal.returns-in-Received-clause-received
returns-in-Received-clause-received c = λ b images w past address took pointer d let_past t p h.
    received_follows b images c.args.layout.now c.args.self.now.core w past c.args.self.now c.note_received.new.self address took pointer let_past t p h
    (received_as c.args.layout.now c.args.self.now c.note_received.new.self c.in-Received.address c.in-Received.took c.in-Received.pointer address took pointer c.args.done.now c.in-Received.is d c.note_received.ensures.noted)
