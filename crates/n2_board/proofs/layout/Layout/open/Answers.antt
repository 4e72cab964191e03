use Rattle.std.proofs.Common.{◌<◌, length, List, sym, subst, ◌∙◌, arith}
use Rattle.std.specs.List.{All}
use Rattle.n2_parts.proofs.Small.{valid_small}
use Rattle.n2_board.specs.declared.segments.LoadedSegment.{LoadedSegment}
use Rattle.n2_board.proofs.Named.{cores_of}
use Rattle.n2_board.proofs.layout.Layout.open.Goals as goal

pub loaded_segments-requires : goal.loaded_segments-requires
loaded_segments-requires c = let small = valid_small c.args.board.now c.requires.valid in omega arith

pub first_placement_fault-requires : goal.first_placement_fault-requires
first_placement_fault-requires c = record {
  small = valid_small c.args.board.now c.requires.valid;
  cores = subst (λ (ss : List LoadedSegment). All (λ s. s.core < length c.args.board.now.core) ss) (sym (c.as_slice.ensures.value ∙ c.in_ok-segments.ensures)) (cores_of c.args.images.now (length c.args.board.now.core) c.requires.images);
}

pub index-requires : goal.index-requires
index-requires c = record {
  valid = c.requires.valid;
  cores = subst (λ (ss : List LoadedSegment). All (λ s. s.core < length c.args.board.now.core) ss) (sym (c.as_slice-2.ensures.value ∙ c.in_ok-segments.ensures)) (cores_of c.args.images.now (length c.args.board.now.core) c.requires.images);
}
