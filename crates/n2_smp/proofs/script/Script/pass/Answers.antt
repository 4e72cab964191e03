use Rattle.std.proofs.Common.{◌≡◌, ℕ, ◌+◌, ◌<◌, ◌≤◌, List, drop, slice_get, Some, None, ap, sym, ◌∙◌, subst, arith}
use Rattle.n2_parts.specs.declared.board.ScriptRow.{ScriptRow}
use Rattle.n2_parts.specs.declared.board.DeviceEvent.{DeviceEvent}
use Rattle.n2_smp.specs.Scripts.{Reached, left}
use Rattle.n2_smp.proofs.Passing.{times_between, stays, begins, nothing_left, few_rows}
use Rattle.n2_smp.proofs.script.Script.pass.Goals as goal

pub overflow_add-self-inside : goal.overflow_add-self-inside
overflow_add-self-inside c =
    let found = ap (λ (rows : List ScriptRow). slice_get rows c.self.inside.row) (sym c.as_slice.ensures) ∙ sym c.in-Some.ensures in
    let t = times_between c.args.board.now c.requires.valid c.self.inside.row c.in-Some.row.now found in
    let h = c.requires.reached c.in-Some.row.now (ap (λ (r : Reached). slice_get c.args.board.now.script r.row) (sym c.self.view_is) ∙ found) in
    let same = ap (λ (r : Reached). r.made) c.self.view_is in
    omega arith

pub overflow_add-self : goal.overflow_add-self
overflow_add-self c =
    let found = ap (λ (rows : List ScriptRow). slice_get rows c.self.inside.row) (sym c.as_slice.ensures) ∙ sym c.in-Some.ensures in
    let t = times_between c.args.board.now c.requires.valid c.self.inside.row c.in-Some.row.now found in
    let h = c.requires.reached c.in-Some.row.now (ap (λ (r : Reached). slice_get c.args.board.now.script r.row) (sym c.self.view_is) ∙ found) in
    let same = ap (λ (r : Reached). r.made) c.self.view_is in
    omega arith

pub overflow_add-self-else-self-row : goal.overflow_add-self-else-self-row
overflow_add-self-else-self-row c =
    let found = ap (λ (rows : List ScriptRow). slice_get rows c.self.inside.row) (sym c.as_slice.ensures) ∙ sym c.in-Some.ensures in
    let t = few_rows c.args.board.now c.requires.valid c.self.inside.row c.in-Some.row.now found in
    omega arith

pub returns-then-self-row-clause-next : goal.returns-then-self-row-clause-next
returns-then-self-row-clause-next c =
    let found = ap (λ (rows : List ScriptRow). slice_get rows c.self.inside.row) (sym c.as_slice.ensures) ∙ sym c.in-Some.ensures in
    let h = c.requires.reached c.in-Some.row.now (ap (λ (r : Reached). slice_get c.args.board.now.script r.row) (sym c.self.view_is) ∙ found) in
    let same = ap (λ (r : Reached). r.made) c.self.view_is in
    stays c.args.board.now (record { row = c.self.inside.row; made = c.self.inside.made }) c.in-Some.row.now found (omega arith) (omega arith)
    ∙ ap (λ (r : Reached). drop 1 (left c.args.board.now r)) c.self.view_is

pub returns-else-self-row-clause-next : goal.returns-else-self-row-clause-next
returns-else-self-row-clause-next c =
    let found = ap (λ (rows : List ScriptRow). slice_get rows c.self.inside.row) (sym c.as_slice.ensures) ∙ sym c.in-Some.ensures in
    let h = c.requires.reached c.in-Some.row.now (ap (λ (r : Reached). slice_get c.args.board.now.script r.row) (sym c.self.view_is) ∙ found) in
    let same = ap (λ (r : Reached). r.made) c.self.view_is in
    begins c.args.board.now (record { row = c.self.inside.row; made = c.self.inside.made }) c.in-Some.row.now found (omega arith) (omega arith)
    ∙ ap (λ (r : Reached). drop 1 (left c.args.board.now r)) c.self.view_is

pub returns-else-self-row-clause-reached : goal.returns-else-self-row-clause-reached
returns-else-self-row-clause-reached c = λ row e. let t = times_between c.args.board.now c.requires.valid (c.self.inside.row + 1) row e in omega arith

pub returns-in-None-clause-next : goal.returns-in-None-clause-next
returns-in-None-clause-next c =
    let none = ap (λ (r : Reached). slice_get c.args.board.now.script r.row) (sym c.self.view_is) ∙ ap (λ (rows : List ScriptRow). slice_get rows c.self.inside.row) (sym c.as_slice.ensures) ∙ sym c.in-None.ensures in
    let empty = nothing_left c.args.board.now c.args.self.now none in
    empty ∙ sym (ap (λ (events : List DeviceEvent). drop 1 events) empty)
