use Rattle.n2_board.proofs.Fitting.{fitting_inside}
use Rattle.n2_board.proofs.laws.fitting_images.Goals as goal

pub returns : goal.returns
returns c = fitting_inside
