use Rattle.std.proofs.Common.{ap}
use Rattle.n2_bus.specs.Wiring.{Wiring}
use Rattle.n2_runs.specs.Machine.{start}
use Rattle.n2_top.proofs.Replaying.{replay_ends, replay_differs, opened_kept}
use Rattle.n2_top.proofs.runs.run_told.Goals as goal

pub returns-in-Ok-clause-told : goal.returns-in-Ok-clause-told
returns-in-Ok-clause-told c =
    let inputs = c.args.inputs.now in
    let s = start inputs.board inputs.images in
    let o = c.in_ok-machine.ensures in
    let v = c.in_ok-machine.machine in
    replay_ends inputs c.args.journal.now.content v c.replay.new.self c.in-Ok.field-0 c.finish-ran.result o.board o.map c.in-Ok.ensures.board c.in-Ok.ensures.map
    (c.in-Ok.ensures.replayed s o.stands (opened_kept inputs v s o.board o.map o.kept)) c.finish-ran.ensures

pub returns-in-Ok-clause-memories : goal.returns-in-Ok-clause-memories
returns-in-Ok-clause-memories c =
    let inputs = c.args.inputs.now in
    let s = start inputs.board inputs.images in
    let o = c.in_ok-machine.ensures in
    let v = c.in_ok-machine.machine in
    let told = replay_ends inputs c.args.journal.now.content v c.replay.new.self c.in-Ok.field-0 c.finish-ran.result o.board o.map c.in-Ok.ensures.board c.in-Ok.ensures.map
    (c.in-Ok.ensures.replayed s o.stands (opened_kept inputs v s o.board o.map o.kept)) c.finish-ran.ensures in
    ap (λ (w : Wiring). w.memories) told.ends.stands.bus.wiring

pub returns-in-Err-clause-told : goal.returns-in-Err-clause-told
returns-in-Err-clause-told c =
    let inputs = c.args.inputs.now in
    let s = start inputs.board inputs.images in
    let o = c.in_ok-machine.ensures in
    let v = c.in_ok-machine.machine in
    replay_differs inputs c.args.journal.now.content v c.replay.new.self c.in-Err.wrong o.board o.map
    (c.in-Err.ensures.replayed s o.stands (opened_kept inputs v s o.board o.map o.kept))
