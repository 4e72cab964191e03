use Rattle.std.proofs.Common.{◌≡◌, List, Bool, length, ap, sym, ◌∙◌, subst}
use Rattle.n2_bus.specs.Wiring.{Wiring}
use Rattle.n2_order.specs.Orders.{asked}
use Rattle.n2_runs.specs.Machine.{start}
use Rattle.n2_runs.specs.Knows.{IsBookKept}
use Rattle.n2_board.specs.AddressMap.{AddressMap}
use Rattle.n2_runs.proofs.Begins.{as_many}
use Rattle.n2_top.specs.Runs.{EndsAs, end_by}
use Rattle.n2_top.proofs.Stepping.{ends_as}
use Rattle.n2_top.proofs.runs.run_by_order.Goals as goal

pub returns-clause-ends : goal.returns-clause-ends
returns-clause-ends c =
    let inputs = c.args.inputs.now in
    let b = inputs.board in
    let map = c.in_ok-machine.ensures.map in
    let board = c.in_ok-machine.ensures.board in
    let stands = c.in_ok-machine.ensures.stands in
    let kept = subst (λ (g : AddressMap). IsBookKept b g (start b inputs.images)) (sym map) c.in_ok-machine.ensures.kept in
    let over = c.deref_mut.ensures.value ∙ c.in_ok-over.ensures.over (start b inputs.images) stands (as_many b.core inputs.images c.requires.ready.images) in
    ends_as inputs (asked c.args.order.now) c.args.list.items c.chooser-chooser.result.state c.in_ok-machine.machine c.run_by.new.machine c.finish-ran.result
    c.requires.ready map (c.run_by.ensures.board ∙ board) (c.run_by.ensures.map ∙ map) c.chooser-chooser.ensures.state (c.run_by.ensures.stands (start b inputs.images) stands kept over) c.finish-ran.ensures

pub returns-clause-memories : goal.returns-clause-memories
returns-clause-memories c =
    let inputs = c.args.inputs.now in
    let b = inputs.board in
    let map = c.in_ok-machine.ensures.map in
    let board = c.in_ok-machine.ensures.board in
    let stands = c.in_ok-machine.ensures.stands in
    let kept = subst (λ (g : AddressMap). IsBookKept b g (start b inputs.images)) (sym map) c.in_ok-machine.ensures.kept in
    let over = c.deref_mut.ensures.value ∙ c.in_ok-over.ensures.over (start b inputs.images) stands (as_many b.core inputs.images c.requires.ready.images) in
    let end : EndsAs inputs c.finish-ran.result (end_by inputs (asked c.args.order.now) c.args.list.items) =
    ends_as inputs (asked c.args.order.now) c.args.list.items c.chooser-chooser.result.state c.in_ok-machine.machine c.run_by.new.machine c.finish-ran.result
    c.requires.ready map (c.run_by.ensures.board ∙ board) (c.run_by.ensures.map ∙ map) c.chooser-chooser.ensures.state (c.run_by.ensures.stands (start b inputs.images) stands kept over) c.finish-ran.ensures in
    ap (λ (w : Wiring). w.memories) end.stands.bus.wiring
