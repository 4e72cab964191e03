use Rattle.std.proofs.Common.{◌≡◌, ℕ, ◌+◌, ◌<◌, ◌≤◌, Bool, true, false, List, [], ◌∷◌, length, drop, get_or, ap, sym, ◌∙◌, subst, arith}
use Rattle.n2_parts.specs.declared.board.Board.{Board}
use Rattle.n2_board.specs.AddressMap.{AddressMap}
use Rattle.n2_runs.specs.Machine.{Machine}
use Rattle.n2_runs.specs.Replay.{tail_row, tail_rows}
use Rattle.n2_smp.specs.Replayed.{Follows}
use Rattle.std.proofs.lemmas.List.{drop_more}
use Rattle.n2_smp.proofs.Following.{goes_on, goes_off, tails_on, tails_off, tails_long, tails_short, tails_end, rows_on, rows_off, none_left, device_over, stopped_at}
use Rattle.n2_smp.proofs.machine.Machine.tail_rows.Goals as goal

pub loop-core-preserved : goal.loop-core-preserved
loop-core-preserved c =
    let w = c.loop-core.invariant in
    let many : length c.loop-core.self.board.core ≡ length c.args.self.now.board.core = ap (λ (b : Board). length b.core) w.board in
    record {
      few = omega arith;
      board = c.tail_row.ensures.board ∙ w.board;
      map = c.tail_row.ensures.map ∙ w.map;
      way = λ m h kept.
          let x = w.way m h kept in
          goes_on c.loop-core.self c.tail_row.new.self (tail_rows c.args.self.now.board c.args.self.now.map c.args.first 0 c.args.tails.now m)
          (λ (b : Board) (g : AddressMap) (y : Machine). tail_rows b g (c.args.first + c.loop-core.core) c.loop-core.core (drop c.loop-core.core c.args.tails.now) y)
          (λ (b : Board) (g : AddressMap) (y : Machine). tail_rows b g (c.args.first + (c.loop-core.core + 1)) (c.loop-core.core + 1) (drop (c.loop-core.core + 1) c.args.tails.now) y)
          (λ (b : Board) (g : AddressMap) (y : Machine). tail_row b g c.loop-core.core (get_or c.args.tails.now c.loop-core.core 0) y) x c.tail_row.ensures.board c.tail_row.ensures.map
          (subst (λ (r : Bool). Follows c.tail_row.new.self r (tail_row c.loop-core.self.board c.loop-core.self.map c.loop-core.core (get_or c.args.tails.now c.loop-core.core 0) x.state)) c.if-not-tail_row.false (c.tail_row.ensures.follows x.state x.stands x.kept))
          (λ y is. tails_on c.loop-core.self.board c.loop-core.self.map (c.args.first + c.loop-core.core) (c.args.first + (c.loop-core.core + 1)) c.loop-core.core (c.loop-core.core + 1) (get_or c.args.tails.now c.loop-core.core 0) (drop c.loop-core.core c.args.tails.now) (drop (c.loop-core.core + 1) c.args.tails.now) x.state y
          (drop_more c.args.tails.now c.loop-core.core 0 c.loop-core-test.true) (omega arith) (omega arith) (omega arith) is);
    }

pub returns-then-not-tail_row : goal.returns-then-not-tail_row
returns-then-not-tail_row c =
    let w = c.loop-core.invariant in
    let many : length c.loop-core.self.board.core ≡ length c.args.self.now.board.core = ap (λ (b : Board). length b.core) w.board in
    record {
      board = c.tail_row.ensures.board ∙ w.board;
      map = c.tail_row.ensures.map ∙ w.map;
      follows = λ m h kept.
          let x = w.way m h kept in
          let z = goes_off c.loop-core.self c.tail_row.new.self (tail_rows c.args.self.now.board c.args.self.now.map c.args.first 0 c.args.tails.now m)
          (λ (b : Board) (g : AddressMap) (y : Machine). tail_rows b g (c.args.first + c.loop-core.core) c.loop-core.core (drop c.loop-core.core c.args.tails.now) y)
          (λ (b : Board) (g : AddressMap) (y : Machine). tail_rows b g (c.args.first + c.loop-core.core) c.loop-core.core (drop c.loop-core.core c.args.tails.now) y)
          (λ (b : Board) (g : AddressMap) (y : Machine). tail_row b g c.loop-core.core (get_or c.args.tails.now c.loop-core.core 0) y) x (λ (y : Machine). stopped_at (c.args.first + c.loop-core.core) y)
          (subst (λ (r : Bool). Follows c.tail_row.new.self r (tail_row c.loop-core.self.board c.loop-core.self.map c.loop-core.core (get_or c.args.tails.now c.loop-core.core 0) x.state)) c.if-not-tail_row.true (c.tail_row.ensures.follows x.state x.stands x.kept))
          (λ y off. tails_off c.loop-core.self.board c.loop-core.self.map (c.args.first + c.loop-core.core) c.loop-core.core (get_or c.args.tails.now c.loop-core.core 0) (drop c.loop-core.core c.args.tails.now) (drop (c.loop-core.core + 1) c.args.tails.now) x.state y (drop_more c.args.tails.now c.loop-core.core 0 c.loop-core-test.true) (omega arith) off)
          in
          rows_off c.tail_row.new.self (c.args.first + c.loop-core.core) (c.args.first + c.loop-core.core) z.state (tail_rows c.args.self.now.board c.args.self.now.map c.args.first 0 c.args.tails.now m) z.is (omega arith) z.stands z.kept;
    }

pub returns-then-core-count : goal.returns-then-core-count
returns-then-core-count c =
    let w = c.loop-core.invariant in
    let many : length c.loop-core.self.board.core ≡ length c.args.self.now.board.core = ap (λ (b : Board). length b.core) w.board in
    record {
      board = w.board;
      map = w.map;
      follows = λ m h kept.
          let x = w.way m h kept in
          rows_off c.loop-core.self (c.args.first + c.loop-core.core) (c.args.first + c.loop-core.core) x.state (tail_rows c.args.self.now.board c.args.self.now.map c.args.first 0 c.args.tails.now m)
          (x.same ∙ tails_long c.loop-core.self.board c.loop-core.self.map (c.args.first + c.loop-core.core) c.loop-core.core (get_or c.args.tails.now c.loop-core.core 0) (drop c.loop-core.core c.args.tails.now) (drop (c.loop-core.core + 1) c.args.tails.now) x.state (drop_more c.args.tails.now c.loop-core.core 0 c.loop-core-test.true) (omega arith)) (omega arith) x.stands x.kept;
    }

pub returns-then-tails-count : goal.returns-then-tails-count
returns-then-tails-count c =
    let w = c.loop-core.invariant in
    let many : length c.loop-core.self.board.core ≡ length c.args.self.now.board.core = ap (λ (b : Board). length b.core) w.board in
    record {
      board = w.board;
      map = w.map;
      follows = λ m h kept.
          let x = w.way m h kept in
          rows_off c.loop-core.self _ (c.args.first + c.loop-core.core) x.state (tail_rows c.args.self.now.board c.args.self.now.map c.args.first 0 c.args.tails.now m)
          (x.same ∙ tails_short c.loop-core.self.board c.loop-core.self.map (c.args.first + c.loop-core.core) c.loop-core.core (drop c.loop-core.core c.args.tails.now) x.state (none_left c.args.tails.now c.loop-core.core (omega arith)) (λ is. omega arith)) (omega arith) x.stands x.kept;
    }

pub returns-then-not-over : goal.returns-then-not-over
returns-then-not-over c =
    let w = c.loop-core.invariant in
    let many : length c.loop-core.self.board.core ≡ length c.args.self.now.board.core = ap (λ (b : Board). length b.core) w.board in
    record {
      board = w.board;
      map = w.map;
      follows = λ m h kept.
          let x = w.way m h kept in
          rows_off c.loop-core.self _ (c.args.first + c.loop-core.core) x.state (tail_rows c.args.self.now.board c.args.self.now.map c.args.first 0 c.args.tails.now m)
          (x.same ∙ tails_end c.loop-core.self.board c.loop-core.self.map (c.args.first + c.loop-core.core) c.loop-core.core (drop c.loop-core.core c.args.tails.now) x.state false (none_left c.args.tails.now c.loop-core.core (omega arith)) (omega arith) (sym (device_over c.loop-core.self.board x.state c.core_count-count.result (omega arith)) ∙ sym (c.over.ensures x.state x.stands x.kept.count) ∙ c.if-not-over.true))
          (omega arith) x.stands x.kept;
    }

pub returns : goal.returns
returns c =
    let w = c.loop-core.invariant in
    let many : length c.loop-core.self.board.core ≡ length c.args.self.now.board.core = ap (λ (b : Board). length b.core) w.board in
    record {
      board = w.board;
      map = w.map;
      follows = λ m h kept.
          let x = w.way m h kept in
          rows_on c.loop-core.self (tail_rows c.args.self.now.board c.args.self.now.map c.args.first 0 c.args.tails.now m) x.state
          (x.same ∙ tails_end c.loop-core.self.board c.loop-core.self.map (c.args.first + c.loop-core.core) c.loop-core.core (drop c.loop-core.core c.args.tails.now) x.state true (none_left c.args.tails.now c.loop-core.core (omega arith)) (omega arith) (sym (device_over c.loop-core.self.board x.state c.core_count-count.result (omega arith)) ∙ sym (c.over.ensures x.state x.stands x.kept.count) ∙ c.if-not-over.false)) x.stands x.kept;
    }
