use Rattle.std.proofs.Common.{◌≡◌, ℕ, ◌+◌, ◌<◌, ◌≤◌, Bool, List, [], ◌∷◌, length, drop, get_or, ap, sym, ◌∙◌, subst, arith}
use Rattle.n2_parts.specs.declared.board.Board.{Board}
use Rattle.n2_board.specs.AddressMap.{AddressMap}
use Rattle.n2_journal.specs.declared.entry.Entry.{Entry}
use Rattle.n2_runs.specs.Machine.{Machine}
use Rattle.n2_runs.specs.Replay.{entry_row, entry_rows}
use Rattle.n2_smp.specs.Replayed.{Follows}
use Rattle.std.proofs.lemmas.List.{drop_more}
use Rattle.n2_smp.proofs.Following.{goes_on, goes_off, entries_on, entries_off, entries_end, rows_on, rows_off, none_left, blank, stopped_at}
use Rattle.n2_smp.proofs.machine.Machine.entry_rows.Goals as goal

pub loop-i-preserved : goal.loop-i-preserved
loop-i-preserved c =
    let w = c.loop-i.invariant in
    record {
      board = c.entry_row.ensures.board ∙ w.board;
      map = c.entry_row.ensures.map ∙ w.map;
      way = λ m h kept.
          let x = w.way m h kept in
          goes_on c.loop-i.self c.entry_row.new.self (entry_rows c.args.self.now.board c.args.self.now.map 2 c.args.entries.now m)
          (λ (b : Board) (g : AddressMap) (y : Machine). entry_rows b g (c.loop-i.i + 2) (drop c.loop-i.i c.args.entries.now) y)
          (λ (b : Board) (g : AddressMap) (y : Machine). entry_rows b g (c.loop-i.i + 1 + 2) (drop (c.loop-i.i + 1) c.args.entries.now) y)
          (λ (b : Board) (g : AddressMap) (y : Machine). entry_row b g (get_or c.args.entries.now c.loop-i.i blank) y) x c.entry_row.ensures.board c.entry_row.ensures.map
          (subst (λ (r : Bool). Follows c.entry_row.new.self r (entry_row c.loop-i.self.board c.loop-i.self.map (get_or c.args.entries.now c.loop-i.i blank) x.state)) c.if-not-entry_row.false (c.entry_row.ensures.follows x.state x.stands x.kept))
          (λ y is. entries_on c.loop-i.self.board c.loop-i.self.map (c.loop-i.i + 2) (c.loop-i.i + 1 + 2) (get_or c.args.entries.now c.loop-i.i blank) (drop c.loop-i.i c.args.entries.now) (drop (c.loop-i.i + 1) c.args.entries.now) x.state y
          (drop_more c.args.entries.now c.loop-i.i blank c.loop-i-test.true) (omega arith) is);
    }

pub returns-then-not-entry_row-clause-follows : goal.returns-then-not-entry_row-clause-follows
returns-then-not-entry_row-clause-follows c =
    let w = c.loop-i.invariant in
    λ m h kept.
    let x = w.way m h kept in
    let z = goes_off c.loop-i.self c.entry_row.new.self (entry_rows c.args.self.now.board c.args.self.now.map 2 c.args.entries.now m)
    (λ (b : Board) (g : AddressMap) (y : Machine). entry_rows b g (c.loop-i.i + 2) (drop c.loop-i.i c.args.entries.now) y)
    (λ (b : Board) (g : AddressMap) (y : Machine). entry_rows b g (c.loop-i.i + 2) (drop c.loop-i.i c.args.entries.now) y)
    (λ (b : Board) (g : AddressMap) (y : Machine). entry_row b g (get_or c.args.entries.now c.loop-i.i blank) y) x (λ (y : Machine). stopped_at (c.loop-i.i + 2) y)
    (subst (λ (r : Bool). Follows c.entry_row.new.self r (entry_row c.loop-i.self.board c.loop-i.self.map (get_or c.args.entries.now c.loop-i.i blank) x.state)) c.if-not-entry_row.true (c.entry_row.ensures.follows x.state x.stands x.kept))
    (λ y off. entries_off c.loop-i.self.board c.loop-i.self.map (c.loop-i.i + 2) (get_or c.args.entries.now c.loop-i.i blank) (drop c.loop-i.i c.args.entries.now) (drop (c.loop-i.i + 1) c.args.entries.now) x.state y
    (drop_more c.args.entries.now c.loop-i.i blank c.loop-i-test.true) off)
    in
    rows_off c.entry_row.new.self (c.loop-i.i + 2) (c.loop-i.i + 2) z.state (entry_rows c.args.self.now.board c.args.self.now.map 2 c.args.entries.now m) z.is (omega arith) z.stands z.kept

pub returns-clause-follows : goal.returns-clause-follows
returns-clause-follows c =
    let w = c.loop-i.invariant in
    λ m h kept.
    let x = w.way m h kept in
    rows_on c.loop-i.self (entry_rows c.args.self.now.board c.args.self.now.map 2 c.args.entries.now m) x.state
    (x.same ∙ entries_end c.loop-i.self.board c.loop-i.self.map (c.loop-i.i + 2) (drop c.loop-i.i c.args.entries.now) x.state (none_left c.args.entries.now c.loop-i.i (omega arith))) x.stands x.kept
