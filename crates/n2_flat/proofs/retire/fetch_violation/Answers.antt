use Rattle.std.proofs.Common.{sym, ◌∙◌}
use Rattle.n2_flat.proofs.Recent.{let_line}
use Rattle.n2_flat.proofs.retire.fetch_violation.Goals as goal

pub returns-in-None-clause-recent : goal.returns-in-None-clause-recent
returns-in-None-clause-recent c = let_line c.args.board.now c.args.layout.now c.args.pc c.requires.map (sym c.fetch_violation.ensures ∙ c.in-None.is)
