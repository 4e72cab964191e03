use Rattle.n2_inputs.proofs.Loading.{Loading}
use Rattle.n2_inputs.proofs.boards.read_images.Given as goal

abbrev pub invariant-loop-k : goal.invariant-loop-k
invariant-loop-k g l = Loading (g.F.Folder.files l.fn.folder) (g.F.Folder.files l.folder) (g.F.Folder.faults l.fn.folder) (g.F.Folder.faults l.folder) l.cores l.k l.images
