use Rattle.std.proofs.Common.{List, ap, ◌∙◌}
use Rattle.n2_board.specs.declared.places.PlaceZone.{PlaceZone}
use Rattle.n2_board.specs.Places.{place_in}
use Rattle.n2_board.proofs.Found.{place_by}
use Rattle.n2_board.proofs.places.Places.find.Goals as goal

pub returns : goal.returns
returns c =
    c.place_found.ensures
    ∙ rw (c.as_slice.ensures.value, c.find-found.ensures, c.from.ensures, c.self.invariant) (place_by c.self.inside.zones.items c.args.address)
    ∙ ap (λ (zones : List PlaceZone). place_in zones c.args.address) c.self.view_is
