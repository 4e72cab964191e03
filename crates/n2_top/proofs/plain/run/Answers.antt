use Rattle.std.proofs.Common.{◌≡◌, ◌+◌, ◌-◌, length, sym, ap, ◌∙◌, arith}
use Rattle.std.specs.Prelude.{replicate}
use Rattle.std.specs.Option.{is_some}
use Rattle.n2_parts.specs.declared.board.Board.{Board}
use Rattle.n2_parts.specs.declared.stops.Act.TheVariants.{Retire}
use Rattle.n2_runs.specs.FlatRun.{Flat, act, flat}
use Rattle.n2_watch.proofs.KeptLists.{element_at}
use Rattle.n2_flat.specs.PlainBoard.{plain_board}
use Rattle.n2_flat.specs.State.{machine_of}
use Rattle.n2_top.proofs.Acts.{next_act, no_acts, stopped_acts}
use Rattle.n2_top.proofs.plain.run.Goals as goal

pub returns-then-is_some-clause-acts : goal.returns-then-is_some-clause-acts
returns-then-is_some-clause-acts c =
    let inv = c.loop-step.invariant in
    let one = inv.core in
    let core = element_at c.loop-step.flat.cores 0 (omega arith) in
    stopped_acts plain_board c.args.layout.now c.loop-step.flat core.0 (c.args.steps - c.loop-step.step) inv.board core.1
    (c.if-is_some.ensures ∙ ap (λ o. is_some o) (c.stop.ensures core.0 core.1))
    ∙ inv.acts

pub loop-step-preserved : goal.loop-step-preserved
loop-step-preserved c =
    let inv = c.loop-step.invariant in
    let w = c.in_ok-act.ensures.whole in
    let old = inv.whole.count in
    let new = w.count in
    let board = ap (λ (x : Board). length x.core) c.in_ok-act.ensures.board in
    let one = inv.core in
    let done : machine_of c.act.new.self ≡ act plain_board c.args.layout.now (machine_of c.loop-step.flat) (Retire 0) =
    c.in_ok-act.ensures.done ∙ ap (λ (x : Board). act x c.args.layout.now (machine_of c.loop-step.flat) (Retire 0)) inv.board in
    record {
      whole = w;
      board = c.in_ok-act.ensures.board ∙ inv.board;
      core = new ∙ board ∙ sym old ∙ one;
      acts =
          ap (λ (m : Flat). flat plain_board c.args.layout.now m (replicate (c.args.steps - (c.loop-step.step + 1)) (Retire 0))) done
          ∙ sym (next_act plain_board c.args.layout.now (machine_of c.loop-step.flat) (Retire 0) c.loop-step.step c.args.steps c.loop-step-test.true)
          ∙ inv.acts;
    }

pub returns-clause-acts : goal.returns-clause-acts
returns-clause-acts c =
    no_acts plain_board c.args.layout.now (machine_of c.loop-step.flat) (Retire 0) (c.args.steps - c.loop-step.step) (let t = c.loop-step-test.false in omega arith)
    ∙ c.loop-step.invariant.acts
