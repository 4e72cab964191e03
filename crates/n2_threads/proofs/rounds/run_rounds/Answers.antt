use Rattle.std.proofs.Common.{ℕ, List, slice_get, refl, sym, ap, ◌∙◌, arith}
use Rattle.n2_threads.proofs.Moving.{none_moved, round_moved, none_ended, spent_ended}
use Rattle.n2_threads.proofs.rounds.run_rounds.Goals as goal

pub loop-round-init : goal.loop-round-init
loop-round-init g c = record {
  board = c.requires.board;
  map = refl;
  moved = λ m s k. none_moved c.args.board.now c.args.machine.now.map m c.args.machine.now s k;
}

pub returns-in_default-clause-ended : goal.returns-in_default-clause-ended
returns-in_default-clause-ended g c = λ m s k bounded.
    none_ended c.args.board.now c.args.machine.now.map m c.loop-round.machine c.loop-round.round c.running-running.result.items (c.loop-round.invariant.moved m s k) c.running-running.ensures
    (sym c.in_default.is ∙ c.copied.ensures ∙ c.first.ensures.value ∙ ap (λ (l : List ℕ). slice_get l 0) c.as_slice.ensures.value)

pub loop-round-preserved : goal.loop-round-preserved
loop-round-preserved g c =
    let inv = c.loop-round.invariant in
    record {
      board = c.make_round.ensures.board ∙ inv.board;
      map = c.make_round.ensures.map ∙ inv.map;
      moved = λ m s k.
          round_moved c.args.board.now c.args.machine.now.map m c.loop-round.machine c.make_round.new.machine c.loop-round.round c.in-Some.lowest c.running-running.result.items inv.map (inv.moved m s k) c.running-running.ensures
          (sym c.in-Some.is ∙ c.copied.ensures ∙ c.first.ensures.value ∙ ap (λ (l : List ℕ). slice_get l 0) c.as_slice.ensures.value)
          c.make_round.ensures.moved;
    }

pub returns-clause-ended : goal.returns-clause-ended
returns-clause-ended g c = λ m s k bounded.
    spent_ended c.args.board.now c.args.machine.now.map m c.loop-round.machine c.loop-round.round bounded (c.loop-round.invariant.moved m s k)
    (let most = c.most_turns-round-end.ensures in let done = c.loop-round-test.false in omega (arith, most, done))
