use Rattle.n2_watch.specs.Book.{guards_touched}
use Rattle.n2_watch.specs.Shapes.{request_of, accessed}
use Rattle.n2_watch.proofs.KeptPast.{all_changes, changed_in}
use Rattle.n2_watch.proofs.KeptTransfers.{exchange}
use Rattle.n2_watch.proofs.laws.ownership.got_and_gave.Goals as goal

pub returns-clause-events : goal.returns-clause-events
returns-clause-events c = λ b images map k w past access h. all_changes b map k w.book (accessed b map k w access).world.book past (guards_touched map w.book (request_of access) (accessed b map k w access).reply) (exchange b images map k w past access h)

pub returns-clause-touched : goal.returns-clause-touched
returns-clause-touched c = λ b images map k w past access h. changed_in b map k w.book (accessed b map k w access).world.book past (guards_touched map w.book (request_of access) (accessed b map k w access).reply) (exchange b images map k w past access h)
