use Rattle.std.proofs.Common.{◌≡◌, ℕ, ◌<◌, ◌+◌, ◌*◌, min, ◌&&◌, ◌||◌, ◌==◌, nat_lt, false}
use Rattle.std.specs.Prelude.{slice_index, slice_index_or}
use Rattle.n2_board.proofs.overlaps.note_pairs.Given as goal

abbrev pub invariant-loop-core : goal.invariant-loop-core
invariant-loop-core l = (a b : ℕ) → a < b → b < 8 → slice_index_or l.met (8 * a + b) false
    ≡ (slice_index_or l.fn.met (8 * a + b) false
    || (l.segment.core == b && (nat_lt a l.core && nat_lt l.segment.lines.from (min l.segment.lines.end (slice_index l.ends a))))
    || (l.segment.core == a && (nat_lt b l.core && nat_lt l.segment.lines.from (min l.segment.lines.end (slice_index l.ends b)))))
