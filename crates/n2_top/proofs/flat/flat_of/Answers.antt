use Rattle.std.proofs.Common.{◌≡◌, length, ap, ◌∙◌}
use Rattle.n2_parts.specs.declared.board.Board.{Board}
use Rattle.n2_bus.specs.Wiring.{Wiring, wiring_of}
use Rattle.n2_runs.specs.Machine.{start, acts}
use Rattle.n2_runs.specs.FlatRun.{Flat, flat}
use Rattle.n2_runs.specs.Recorded.{actors_of}
use Rattle.n2_top.proofs.flat.flat_of.Goals as goal

pub returns-clause-flat : goal.returns-clause-flat
returns-clause-flat c =
    let inputs = c.args.inputs.now in
    c.in_ok-run_flat.ensures.flat
    ∙ ap (λ (f : Flat). flat inputs.board inputs.layout f (acts inputs.board inputs.layout (start inputs.board inputs.images) (actors_of c.args.journal.now.content))) c.in_ok-flat.ensures.start

pub returns-clause-whole : goal.returns-clause-whole
returns-clause-whole c =
    let w = c.in_ok-run_flat.ensures.whole in
    let same : c.run_flat.new.flat.board ≡ c.args.inputs.now.board = c.in_ok-run_flat.ensures.board ∙ c.in_ok-flat.ensures.board in
    record {
      valid = c.requires.ready.valid;
      cores = w.count ∙ ap (λ (b : Board). length b.core) same;
      memories = ap (λ (x : Wiring). x.memories) w.wiring ∙ ap (λ (b : Board). (wiring_of b).memories) same;
    }
