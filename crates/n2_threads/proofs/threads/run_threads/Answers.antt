use Rattle.n2_threads.proofs.Recording.{recorded}
use Rattle.n2_threads.proofs.threads.run_threads.Goals as goal

pub returns-clause-recorded : goal.returns-clause-recorded
returns-clause-recorded g c =
    let opened = c.in_ok-machine.ensures in
    recorded c.args.board.now c.args.images.now c.finish.result c.requires.valid c.requires.images c.in_ok-machine.machine c.run_rounds.new.machine opened.board opened.map
    c.run_rounds.ensures.board c.run_rounds.ensures.map opened.stands opened.kept c.run_rounds.ensures.ended c.finish.ensures
