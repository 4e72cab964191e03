use Rattle.std.proofs.Common.{◌∙◌}
use Rattle.n2_random_cases.proofs.Together.{opened, memories_of}
use Rattle.n2_random_cases.proofs.runs.run_of_flat.Goals as goal

pub make_turns-requires-clause-beside : goal.make_turns-requires-clause-beside
make_turns-requires-clause-beside c =
    let r = c.requires in
    let o = c.in_ok-machine.ensures in
    opened c.args.board.now c.args.images.now c.in_ok-machine.machine c.args.layout.now c.args.flat.now r.flat_board r.whole r.layout o.board o.map o.stands o.kept

pub compare_ends-requires-clause-memories : goal.compare_ends-requires-clause-memories
compare_ends-requires-clause-memories c =
    let made = c.make_turns.ensures in
    memories_of _ c.args.layout.now _ c.args.board.now made.beside (made.board ∙ c.in_ok-machine.ensures.board)
