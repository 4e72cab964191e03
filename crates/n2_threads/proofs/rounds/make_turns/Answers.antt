use Rattle.std.proofs.Common.{◌+◌, refl, sym, ◌∙◌}
use Rattle.n2_threads.specs.Rounds.{count_of}
use Rattle.n2_threads.proofs.Moving.{none_moved, fewer_moved, more_moved, count_made, count_same}
use Rattle.n2_threads.proofs.rounds.make_turns.Goals.{then-make_turn, else-make_turn}
use Rattle.n2_threads.proofs.rounds.make_turns.Goals as goal

pub loop-actor-init : goal.loop-actor-init
loop-actor-init c = record {
  board = c.requires;
  map = refl;
  same = λ e. refl;
  moved = λ m s k. none_moved c.args.board.now c.args.machine.now.map m c.args.machine.now s k;
}

pub loop-actor-preserved : goal.loop-actor-preserved
loop-actor-preserved c =
    let b = c.args.board.now in
    let inv = c.loop-actor.invariant in
    let v = c.loop-actor.machine in
    let new = c.make_turn.new.machine in
    let made = c.loop-actor.made in
    let result = c.make_turn.result in
    let now = c.if-make_turn.made in
    let board = c.make_turn.ensures.board ∙ inv.board in
    let map' = c.make_turn.ensures.map ∙ inv.map in
    elim c.if-make_turn.branch [
      | then-make_turn w ↦ record {
        board = board;
        map = map';
        same = λ e. absurd (cc);
        moved = λ m s k. fewer_moved b c.args.machine.now.map m new (count_of made + count_of result) (count_of now) (count_made made result now w.if-make_turn.true w.made-is) (more_moved b c.args.machine.now.map m v new (count_of made) (count_of result) inv.map (inv.moved m s k) c.make_turn.ensures.moved);
      }
      | else-make_turn w ↦ record {
        board = board;
        map = map';
        same = λ e. c.make_turn.ensures.same w.if-make_turn.false ∙ inv.same (sym w.made-is ∙ e);
        moved = λ m s k. fewer_moved b c.args.machine.now.map m new (count_of made + count_of result) (count_of now) (count_same made result now w.made-is) (more_moved b c.args.machine.now.map m v new (count_of made) (count_of result) inv.map (inv.moved m s k) c.make_turn.ensures.moved);
      }
    ]
