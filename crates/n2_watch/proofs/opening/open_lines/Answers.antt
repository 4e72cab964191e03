use Rattle.n2_watch.proofs.Nexts.{open_whole}
use Rattle.n2_watch.proofs.opening.open_lines.Goals as goal

pub returns-clause-whole : goal.returns-clause-whole
returns-clause-whole c = λ number h t.
    let m = c.args.memories.now in
    open_whole c.args.core c.args.layout.now c.lines.built.runs.items c.lines.built.records.items c.lines.from m c.in_default.ensures c.lines.invariant.opens number h t
