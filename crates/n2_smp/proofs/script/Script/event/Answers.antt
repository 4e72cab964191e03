use Rattle.std.proofs.Common.{◌≡◌, ℕ, List, slice_get, Some, None, ap, sym, ◌∙◌}
use Rattle.n2_parts.specs.declared.board.ScriptRow.{ScriptRow}
use Rattle.n2_parts.specs.declared.board.DeviceEvent.{DeviceEvent}
use Rattle.n2_bus.proofs.Passing.{script_passes}
use Rattle.n2_smp.specs.Scripts.{Reached, left}
use Rattle.n2_smp.proofs.Passing.{next_event, nothing_left}
use Rattle.n2_smp.proofs.script.Script.event.Goals as goal

pub returns-in-Some-clause-next : goal.returns-in-Some-clause-next
returns-in-Some-clause-next c =
    let found : slice_get c.args.board.now.script c.args.self.now.row ≡ Some c.in-Some.row.now =
    ap (λ (r : Reached). slice_get c.args.board.now.script r.row) (sym c.self.view_is) ∙ ap (λ (rows : List ScriptRow). slice_get rows c.self.inside.row) (sym c.as_slice.ensures) ∙ sym c.in-Some.ensures
    in
    sym (next_event c.args.board.now c.args.self.now c.in-Some.row.now found (c.requires c.in-Some.row.now found))

pub returns-in-Some-clause-proper : goal.returns-in-Some-clause-proper
returns-in-Some-clause-proper c = λ valid. script_passes c.args.board.now c.self.inside.row c.in-Some.row.now valid (ap (λ (rows : List ScriptRow). slice_get rows c.self.inside.row) (sym c.as_slice.ensures) ∙ sym c.in-Some.ensures)

pub returns-in-None-clause-next : goal.returns-in-None-clause-next
returns-in-None-clause-next c =
    let none : slice_get c.args.board.now.script c.args.self.now.row ≡ None =
    ap (λ (r : Reached). slice_get c.args.board.now.script r.row) (sym c.self.view_is) ∙ ap (λ (rows : List ScriptRow). slice_get rows c.self.inside.row) (sym c.as_slice.ensures) ∙ sym c.in-None.ensures
    in
    sym (ap (λ (events : List DeviceEvent). slice_get events 0) (nothing_left c.args.board.now c.args.self.now none))
