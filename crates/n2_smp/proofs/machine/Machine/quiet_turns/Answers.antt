use Rattle.std.proofs.Common.{◌≡◌, ℕ, suc, ◌+◌, ◌-◌, ◌<◌, Bool, ap, sym, ◌∙◌, subst, arith}
use Rattle.std.specs.Prelude.{Err}
use Rattle.n2_parts.specs.declared.board.Board.{Board}
use Rattle.n2_board.specs.AddressMap.{AddressMap}
use Rattle.n2_runs.specs.Machine.{Machine}
use Rattle.n2_runs.specs.Replay.{quiet_turn, quiet_turns}
use Rattle.n2_smp.specs.Standing.{Parts}
use Rattle.n2_smp.specs.Replayed.{Follows}
use Rattle.n2_smp.proofs.Following.{goes_on, goes_off, is_on, is_off, turns_on, turns_off, turns_none}
use Rattle.n2_smp.proofs.machine.Machine.quiet_turns.Goals as goal

pub loop-made-preserved : goal.loop-made-preserved
loop-made-preserved c =
    let w = c.loop-made.invariant in
    let e : c.args.count - c.loop-made._made ≡ suc (c.args.count - (c.loop-made._made + 1)) = omega arith in
    record {
      board = c.quiet_turn.ensures.board ∙ w.board;
      map = c.quiet_turn.ensures.map ∙ w.map;
      way = λ m h kept.
          let x = w.way m h kept in
          goes_on c.loop-made.self c.quiet_turn.new.self (quiet_turns c.args.self.now.board c.args.self.now.map c.args.actor c.args.count m)
          (λ (b : Board) (g : AddressMap) (y : Machine). quiet_turns b g c.args.actor (c.args.count - c.loop-made._made) y)
          (λ (b : Board) (g : AddressMap) (y : Machine). quiet_turns b g c.args.actor (c.args.count - (c.loop-made._made + 1)) y)
          (λ (b : Board) (g : AddressMap) (y : Machine). quiet_turn b g y c.args.actor) x c.quiet_turn.ensures.board c.quiet_turn.ensures.map
          (subst (λ (r : Bool). Follows c.quiet_turn.new.self r (quiet_turn c.loop-made.self.board c.loop-made.self.map x.state c.args.actor)) c.if-not-quiet_turn.false (c.quiet_turn.ensures.follows x.state x.stands x.kept))
          (λ y is. turns_on c.loop-made.self.board c.loop-made.self.map c.args.actor (c.args.count - (c.loop-made._made + 1)) (c.args.count - c.loop-made._made) x.state y e is);
    }

pub returns-then-not-quiet_turn-clause-follows : goal.returns-then-not-quiet_turn-clause-follows
returns-then-not-quiet_turn-clause-follows c =
    let w = c.loop-made.invariant in
    let e : c.args.count - c.loop-made._made ≡ suc (c.args.count - (c.loop-made._made + 1)) = omega arith in
    λ m h kept.
    let x = w.way m h kept in
    let z = goes_off c.loop-made.self c.quiet_turn.new.self (quiet_turns c.args.self.now.board c.args.self.now.map c.args.actor c.args.count m)
    (λ (b : Board) (g : AddressMap) (y : Machine). quiet_turns b g c.args.actor (c.args.count - c.loop-made._made) y)
    (λ (b : Board) (g : AddressMap) (y : Machine). quiet_turns b g c.args.actor (c.args.count - c.loop-made._made) y)
    (λ (b : Board) (g : AddressMap) (y : Machine). quiet_turn b g y c.args.actor) x (λ (y : Machine). Err y)
    (subst (λ (r : Bool). Follows c.quiet_turn.new.self r (quiet_turn c.loop-made.self.board c.loop-made.self.map x.state c.args.actor)) c.if-not-quiet_turn.true (c.quiet_turn.ensures.follows x.state x.stands x.kept))
    (λ y off. turns_off c.loop-made.self.board c.loop-made.self.map c.args.actor (c.args.count - (c.loop-made._made + 1)) (c.args.count - c.loop-made._made) x.state y e off)
    in
    is_off c.quiet_turn.new.self (quiet_turns c.args.self.now.board c.args.self.now.map c.args.actor c.args.count m) z.state z.is z.stands z.kept

pub returns-clause-follows : goal.returns-clause-follows
returns-clause-follows c =
    let w = c.loop-made.invariant in
    λ m h kept.
    let x = w.way m h kept in
    let e : c.args.count - c.loop-made._made ≡ 0 = omega arith in
    is_on c.loop-made.self (quiet_turns c.args.self.now.board c.args.self.now.map c.args.actor c.args.count m) x.state
    (x.same ∙ turns_none c.loop-made.self.board c.loop-made.self.map c.args.actor (c.args.count - c.loop-made._made) x.state e) x.stands x.kept
