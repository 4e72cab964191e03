use Rattle.std.proofs.Common.{◌^◌, ◌≤◌, List, ap, sym, subst, ◌∙◌}
use Rattle.n2_parts.specs.declared.board.MemoryRow.{MemoryRow}
use Rattle.n2_parts.specs.MemoryLines.{AreWholeLines, line_count}
use Rattle.n2_parts.proofs.WholeLines.{whole_lines, few_lines}
use Rattle.n2_memory.specs.Memories.{Contents}
use Rattle.n2_memory.specs.Start.{zeros}
use Rattle.n2_memory.proofs.Memory.open.Goals as goal

pub zeros-requires : goal.zeros-requires
zeros-requires c = subst (λ (rows : List MemoryRow). line_count rows ≤ 2 ^ 23) (sym c.as_slice.ensures) (few_lines c.args.board.now c.requires.valid)

pub store_images-requires-clause-whole : goal.store_images-requires-clause-whole
unfolding zeros
store_images-requires-clause-whole c =
    subst AreWholeLines (sym (ap (λ (m : Contents). m.memories) c.in_ok-memory.ensures.zeros ∙ c.as_slice.ensures)) (whole_lines c.args.board.now c.requires.valid)
