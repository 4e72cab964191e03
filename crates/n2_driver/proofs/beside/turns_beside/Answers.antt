use Rattle.std.proofs.Common.{◌≡◌, ℕ, suc, ◌+◌, ◌-◌, ◌≤◌, ◌++◌, List, length, replicate, sym, ◌∙◌, subst, arith}
use Rattle.n2_parts.specs.declared.board.Board.{Board}
use Rattle.n2_flat.specs.State.{machine_of}
use Rattle.n2_driver.specs.Beside.{AreUnderway}
use Rattle.n2_driver.proofs.Together.{one_turn, no_turn_left}
use Rattle.n2_driver.proofs.beside.turns_beside.Goals as goal

pub turn_beside-requires-clause-actor : goal.turn_beside-requires-clause-actor
turn_beside-requires-clause-actor c =
    subst (λ (b : Board). c.args.actor ≤ length b.core) (sym c.loop-made.invariant.board) c.requires.actor

pub loop-made-preserved : goal.loop-made-preserved
loop-made-preserved c =
    let inv = c.loop-made.invariant in
    let made = c.turn_beside.ensures in
    let rest = c.args.count - (c.loop-made._made + 1) in
    let lt = c.loop-made-test.true in
    let e : c.args.count - c.loop-made._made ≡ suc rest = omega (arith, lt) in
    record {
      beside = made.beside;
      board = made.board ∙ inv.board;
      map = made.map ∙ inv.map;
      flat_board = made.flat_board ∙ inv.flat_board;
      underway = λ end flat_end left u.
          c.in_ok-turn_beside.ensures.underway end flat_end (replicate rest c.args.actor ++ left)
          (subst (λ (order : List ℕ). AreUnderway end flat_end c.loop-made.machine (machine_of c.loop-made.flat) order) (one_turn (c.args.count - c.loop-made._made) rest c.args.actor left e) (inv.underway end flat_end left u));
    }

pub returns-clause-underway : goal.returns-clause-underway
returns-clause-underway c = λ end flat_end left u.
    let done = c.loop-made-test.false in
    let e : c.args.count - c.loop-made._made ≡ 0 = omega (arith, done) in
    subst (λ (order : List ℕ). AreUnderway end flat_end c.loop-made.machine (machine_of c.loop-made.flat) order) (no_turn_left (c.args.count - c.loop-made._made) c.args.actor left e) (c.loop-made.invariant.underway end flat_end left u)
