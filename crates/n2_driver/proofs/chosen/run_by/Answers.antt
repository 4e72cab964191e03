use Rattle.std.proofs.Common.{◌≡◌, suc, ◌+◌, ◌-◌, ◌<◌, false, length, slice_set, ap, ◌∙◌, arith, length-set}
use Rattle.std.proofs.lemmas.Option.{slice_get-get_or}
use Rattle.n2_parts.specs.declared.board.Board.{Board}
use Rattle.n2_runs.proofs.Sets.{within}
use Rattle.n2_driver.specs.Chosen.{most_turns}
use Rattle.n2_driver.proofs.Driving.{picked_next, picked_none, next_underway, none_left, turns_spent}
use Rattle.n2_driver.proofs.chosen.run_by.Goals as goal

pub returns-in_default-clause-stands : goal.returns-in_default-clause-stands
returns-in_default-clause-stands c = λ m h kept over.
    none_left _ _ _ _ _ _ _ (c.loop-turn.invariant.underway m h kept over) (picked_none c.loop-turn.chooser c.loop-turn.over c.in_default.ensures.actor)

pub turn-requires : goal.turn-requires
turn-requires c =
    let lt = within c.loop-turn.over c.in-Some.actor _ c.in-Some.ensures.running in
    let long = c.loop-turn.invariant.over in
    let board = ap (λ (b : Board). length b.core) c.loop-turn.invariant.board in
    omega (arith, lt, long, board)

pub over-requires : goal.over-requires
over-requires c =
    let lt = within c.loop-turn.over c.in-Some.actor _ c.in-Some.ensures.running in
    let long = c.loop-turn.invariant.over in
    let board = ap (λ (b : Board). length b.core) (c.turn.ensures.board ∙ c.loop-turn.invariant.board) in
    omega (arith, lt, long, board)

pub bounds-over-actor : goal.bounds-over-actor
bounds-over-actor c = within c.loop-turn.over c.in-Some.actor _ c.in-Some.ensures.running

pub loop-turn-preserved : goal.loop-turn-preserved
loop-turn-preserved c =
    let b = c.args.board.now in
    let inv = c.loop-turn.invariant in
    let most = c.most_turns-turn-end.ensures in
    let lt = c.loop-turn-test.true in
    let long = length-set c.loop-turn.over c.in-Some.actor c.over.result ∙ inv.over in
    let devices = c.len-devices.ensures in
    let few : c.len-devices.result < length (slice_set c.loop-turn.over c.in-Some.actor c.over.result) = omega (arith, long, devices) in
    let rest : most_turns b - c.loop-turn.turn ≡ suc (most_turns b - (c.loop-turn.turn + 1)) = omega (arith, most, lt) in
    record {
      board = c.turn.ensures.board ∙ inv.board;
      map = c.turn.ensures.map ∙ inv.map;
      actors = c.in-Some.ensures.actors ∙ inv.actors;
      over = length-set (slice_set c.loop-turn.over c.in-Some.actor c.over.result) c.len-devices.result c.devices_over.result ∙ length-set c.loop-turn.over c.in-Some.actor c.over.result ∙ inv.over;
      underway = λ m h kept over.
          next_underway _ _ _ _ _ _ _ (inv.underway m h kept over) c.turn.new.self _ (most_turns b - (c.loop-turn.turn + 1)) c.in-Some.actor c.len-devices.result c.over.result _ c.devices_over.result
          inv.board inv.map (c.turn.ensures.board ∙ inv.board) c.len-devices.ensures rest
          (picked_next c.loop-turn.chooser c.next.new.self c.loop-turn.over c.in-Some.actor c.in-Some.ensures.actor c.in-Some.ensures.state)
          c.turn.ensures.stands c.turn.ensures.kept c.over.ensures (slice_get-get_or (slice_set c.loop-turn.over c.in-Some.actor c.over.result) c.len-devices.result false few) c.devices_over.ensures;
    }

pub returns-clause-stands : goal.returns-clause-stands
returns-clause-stands c = λ m h kept over.
    let most = c.most_turns-turn-end.ensures in
    let done = c.loop-turn-test.false in
    turns_spent _ _ _ _ _ _ _ (c.loop-turn.invariant.underway m h kept over) (omega (arith, most, done))
