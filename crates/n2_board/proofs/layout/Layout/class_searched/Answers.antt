use Rattle.std.proofs.Common.{ap, ◌∙◌}
use Rattle.n2_board.specs.AddressMap.{AddressMap, class_of}
use Rattle.n2_board.proofs.Found.{class_by}
use Rattle.n2_board.proofs.layout.Layout.class_searched.Goals as goal

pub returns : goal.returns
returns c =
    c.class_found.ensures
    ∙ rw (c.as_slice.ensures.value, c.find-found.ensures, c.from.ensures, c.self.invariant.3) (class_by c.self.inside.lines.items c.args.line)
    ∙ ap (λ (g : AddressMap). class_of g c.args.line) c.self.view_is
