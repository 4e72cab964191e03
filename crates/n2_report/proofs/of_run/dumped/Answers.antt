use Rattle.std.proofs.Common.{◌≡◌, ◌+◌, ◌*◌, List, Some, slice_get, get_or, sym, ap, subst, ◌∙◌, arith}
use Rattle.std.proofs.lemmas.Option.{slice_get-get_or}
use Rattle.n2_word.specs.Lines.{line}
use Rattle.n2_parts.specs.declared.board.DumpRow.{DumpRow}
use Rattle.n2_parts.specs.declared.board.MemoryRow.{MemoryRow}
use Rattle.n2_parts.specs.MemoryLines.{HasLine}
use Rattle.n2_report.proofs.Next.{dump_inside}
use Rattle.n2_report.proofs.of_run.dumped.Goals as goal

pub put_dumped-requires : goal.put_dumped-requires
put_dumped-requires c =
    let b = c.args.board.now in
    let i = c.loop-row.row-index in
    let rows = c.as_slice-row-items.result.now in
    let row = get_or rows i (record { at = 0; lines = 0 }) in
    let at : slice_get b.dump i ≡ Some row = ap (λ (rs : List DumpRow). slice_get rs i) (sym c.as_slice-row-items.ensures) ∙ slice_get-get_or rows i (record { at = 0; lines = 0 }) (omega arith) in
    let inside = dump_inside b c.requires.valid i row at in
    let whole = c.memory_lines.ensures.whole b c.requires.valid in
    let below = c.memory_lines.ensures.below b.memory row.at (32 * row.lines) whole inside in
    record {
      there = λ j lt. (subst (λ (ms : List MemoryRow). HasLine ms (line (row.at + 32 * j))) (sym c.requires.memories) (c.memory_lines.ensures.bytes b.memory row.at (32 * row.lines) (32 * j) whole inside (omega arith)), omega arith);
    }
