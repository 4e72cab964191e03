use Rattle.std.proofs.Common.{◌≡◌, ℕ, ◌<◌, Bool, true, List, length, slice_get, Some, None, ap, sym, ◌∙◌, subst, arith}
use Rattle.n2_smp.specs.Standing.{Parts, StandsFor}
use Rattle.n2_parts.specs.declared.board.Board.{Board}
use Rattle.n2_board.specs.AddressMap.{AddressMap}
use Rattle.n2_journal.specs.declared.entry.Entry.{Entry}
use Rattle.n2_runs.specs.Machine.{turn}
use Rattle.n2_runs.specs.Knows.{IsBookKept}
use Rattle.n2_runs.specs.Replay.{added, entry_turn}
use Rattle.n2_smp.specs.Replayed.{Follows}
use Rattle.std.proofs.lemmas.Option.{slice_get_past}
use Rattle.n2_runs.specs.Same.{same_request}
use Rattle.n2_smp.proofs.Cores.{one_some}
use Rattle.n2_smp.proofs.Machines.{indexed}
use Rattle.n2_smp.proofs.Following.{is_off, unasked, asked, entry_follows}
use Rattle.n2_smp.proofs.machine.Machine.entry_turn.Goals as goal
use Rattle.n2_smp.proofs.machine.Machine.entry_turn.Goals.{in-Some, in-None}

pub returns-then-not-asks-clause-follows : goal.returns-then-not-asks-clause-follows
returns-then-not-asks-clause-follows c = λ m h kept.
    is_off c.args.self.now (entry_turn c.args.self.now.board c.args.self.now.map c.args.entry.now m) m
    (unasked c.args.self.now.board c.args.self.now.map m c.args.entry.now (sym (c.asks.ensures.asks m h kept) ∙ c.if-not-asks.true)) h kept

pub returns-clause-follows : goal.returns-clause-follows
returns-clause-follows c = λ m h kept.
    let after = c.turn.ensures.stands m h kept in
    let entries : c.entries.result.now ≡ (turn c.args.self.now.board c.args.self.now.map m c.args.entry.now.actor).machine.entries =
    c.entries.ensures ∙ ap (λ (v : Parts). v.journal.content.entries) c.self-2.view_is ∙ after.entries
    in
    let before : length c.entries-before.result.now ≡ length m.entries =
    ap (λ (es : List Entry). length es) (c.entries-before.ensures ∙ ap (λ (v : Parts). v.journal.content.entries) c.self.view_is ∙ h.entries)
    in
    let next : slice_get c.entries.result.now (length c.entries-before.result.now) ≡ added m (turn c.args.self.now.board c.args.self.now.map m c.args.entry.now.actor).machine =
    ap (λ (es : List Entry). slice_get es (length c.entries-before.result.now)) entries ∙ ap (λ (n : ℕ). slice_get (turn c.args.self.now.board c.args.self.now.map m c.args.entry.now.actor).machine.entries n) before
    in
    let kept_then : IsBookKept c.turn.new.self.board c.turn.new.self.map (turn c.args.self.now.board c.args.self.now.map m c.args.entry.now.actor).machine =
    subst (λ (b : Board). IsBookKept b c.turn.new.self.map (turn c.args.self.now.board c.args.self.now.map m c.args.entry.now.actor).machine) (sym c.turn.ensures.board)
    (subst (λ (g : AddressMap). IsBookKept c.args.self.now.board g (turn c.args.self.now.board c.args.self.now.map m c.args.entry.now.actor).machine) (sym c.turn.ensures.map) (c.turn.ensures.kept m kept))
    in
    let ask = asked c.args.self.now.board c.args.self.now.map m c.args.entry.now (sym (c.asks.ensures.asks m h kept) ∙ c.if-not-asks.false) in
    elim c.match-get.branch [
      | in-Some w ↦
          let x = w.in-Some.ensures.lookup in
          let found : slice_get c.entries.result.now (length c.entries-before.result.now) ≡ Some w.in-Some.made.now = indexed c.entries.result.now (length c.entries-before.result.now) w.in-Some.made.now x.3.0 x.1 in
          let same : ask.made ≡ w.in-Some.made.now = one_some ask.made w.in-Some.made.now _ ask.is (sym next ∙ found) in
          subst (λ (r : Bool). Follows c.turn.new.self r (entry_turn c.args.self.now.board c.args.self.now.map c.args.entry.now m)) (sym w.result-is)
          (entry_follows c.args.self.now.board c.args.self.now.map m c.args.entry.now c.turn.new.self after kept_then w.in-Some.made.now (sym next ∙ found)
          (subst (λ (e : Entry). same_request c.args.entry.now.request e.request ≡ true) same ask.same) w.is_same.result w.is_same.ensures)
      | in-None w ↦
          let x = w.in-None.ensures.lookup in
          let none : slice_get c.entries.result.now (length c.entries-before.result.now) ≡ None = slice_get_past c.entries.result.now (length c.entries-before.result.now) x.3 in
          let found = ask.is in
          let nothing = sym next ∙ none in
          absurd (cc)
    ]
