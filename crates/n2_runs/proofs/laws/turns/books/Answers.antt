use Rattle.n2_runs.specs.Machine.{start}
use Rattle.n2_runs.proofs.Books.{start_kept, book_kept, run_kept}
use Rattle.n2_runs.proofs.laws.turns.books.Goals as goal

pub returns-clause-start : goal.returns-clause-start
returns-clause-start c = start_kept

pub returns-clause-turn : goal.returns-clause-turn
returns-clause-turn c = λ b images map' m actor valid is h. book_kept b images map' valid is m h actor

pub returns-clause-run : goal.returns-clause-run
returns-clause-run c = λ b images map' order valid is long. run_kept b images map' valid is order (start b images) (start_kept b images map' long)
