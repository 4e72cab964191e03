use Rattle.std.proofs.Common.{sym, ◌∙◌}
use Rattle.n2_threads.proofs.Moving.{local_runs, acted_runs, none_moved, turn_moved, turn_made, turn_runs}
use Rattle.n2_threads.proofs.rounds.make_turn.Goals as goal

pub returns-then-actor-len-clause-moved : goal.returns-then-actor-len-clause-moved
returns-then-actor-len-clause-moved c = λ m s k. none_moved c.args.board.now c.args.machine.now.map m c.args.machine.now s k

pub returns-in-Local-clause-moved : goal.returns-in-Local-clause-moved
returns-in-Local-clause-moved c =
    turn_made c.args.board.now c.args.machine.now c.turn.new.self c.args.actor c.turn.result c.requires c.turn.ensures.stands c.turn.ensures.answer c.turn.ensures.kept (λ o act e. local_runs o act (sym c.in-Local.is ∙ e))

pub returns-in-Acted-clause-moved : goal.returns-in-Acted-clause-moved
returns-in-Acted-clause-moved c =
    turn_made c.args.board.now c.args.machine.now c.turn.new.self c.args.actor c.turn.result c.requires c.turn.ensures.stands c.turn.ensures.answer c.turn.ensures.kept (λ o act e. acted_runs c.in-Acted._act o act (sym c.in-Acted.is ∙ e))

pub returns-in-Over-clause-moved : goal.returns-in-Over-clause-moved
returns-in-Over-clause-moved c =
    turn_moved c.args.board.now c.args.machine.now c.turn.new.self c.args.actor c.turn.result c.requires c.turn.ensures.stands c.turn.ensures.answer c.turn.ensures.kept

pub returns-in-Over-clause-runs : goal.returns-in-Over-clause-runs
returns-in-Over-clause-runs c = λ m s k r.
    turn_runs c.args.board.now c.args.machine.now c.turn.new.self c.args.actor c.turn.result c.requires c.turn.ensures.stands c.turn.ensures.answer c.turn.ensures.kept c.in-Over.is m _ s k r
