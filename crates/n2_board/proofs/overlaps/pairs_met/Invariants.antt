use Rattle.std.proofs.Common.{◌≡◌, ℕ, ◌<◌, ◌+◌, ◌*◌, take, false}
use Rattle.std.specs.Prelude.{slice_index, slice_index_or}
use Rattle.n2_board.specs.Placement.{images_meet}
use Rattle.n2_board.proofs.Meeting.{greatest}
use Rattle.n2_board.proofs.overlaps.pairs_met.Given as goal

abbrev pub invariant-loop-segment : goal.invariant-loop-segment
invariant-loop-segment l = record {
  ends : (a : ℕ) → a < 8 → slice_index l.ends a ≡ greatest a (take l.segment-index l.sorted);
  met : (a b : ℕ) → a < b → b < 8 → slice_index_or l.met (8 * a + b) false ≡ images_meet a b (take l.segment-index l.sorted);
}
