use Rattle.n2_runs.specs.Machine.{start}
use Rattle.n2_runs.proofs.Books.{start_kept}
use Rattle.n2_smp.proofs.Following.{is_recorded}
use Rattle.n2_smp.proofs.machine.Machine.replay.Goals as goal

pub returns-clause-records : goal.returns-clause-records
returns-clause-records c = λ images long h.
    is_recorded c.args.self.now.board images c.args.self.now.map c.args.journal.now.content long c.rows.new.self c.rows.result
    (c.rows.ensures.replayed (start c.args.self.now.board images) h (start_kept c.args.self.now.board images c.args.self.now.map long))
