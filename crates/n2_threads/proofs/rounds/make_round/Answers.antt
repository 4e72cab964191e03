use Rattle.std.proofs.Common.{◌+◌, Bool, length, sym, subst}
use Rattle.n2_runs.specs.Machine.{Machine}
use Rattle.n2_runs.specs.Knows.{IsBookKept}
use Rattle.n2_smp.specs.Standing.{Parts, StandsFor}
use Rattle.n2_threads.specs.Rounds.{RunsNow, HasMoved, count_of}
use Rattle.n2_threads.proofs.Moving.{lowest_made}
use Rattle.n2_threads.proofs.rounds.make_round.Goals.{then-not-make_turns, else-not-make_turns}
use Rattle.n2_threads.proofs.rounds.make_round.Goals as goal

pub returns-clause-moved : goal.returns-clause-moved
returns-clause-moved g c =
    let b = c.args.board.now in
    let v = c.args.machine.now in
    let mid = c.make_turns.new.machine in
    let most = length b.core + 1 in
    elim c.if-not-make_turns.branch [
      | then-not-make_turns w ↦
          subst (λ (p : Parts). (m : Machine) → StandsFor v m → IsBookKept b v.map m → RunsNow b m most c.args.lowest → HasMoved b v.map m p 1) (sym w.machine-is)
          (lowest_made b v mid w.make_turn.new.machine most c.args.lowest w.make_turn.result (c.make_turns.ensures.same w.if-not-make_turns.true) w.make_turn.ensures.runs w.make_turn.ensures.moved)
      | else-not-make_turns w ↦ λ m s k r.
          subst (λ (p : Parts). HasMoved b v.map m p 1) (sym w.machine-is) (subst (λ (x : Bool). HasMoved b v.map m mid (count_of x)) w.if-not-make_turns.false (c.make_turns.ensures.moved m s k))
    ]
