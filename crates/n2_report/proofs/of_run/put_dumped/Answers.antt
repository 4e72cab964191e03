use Rattle.std.proofs.Common.{◌≡◌, ℕ, ◌+◌, ◌-◌, ◌*◌, List, ◌∷◌, ◌++◌, [], ap, ◌∙◌}
use Rattle.n2_memory.specs.Memories.{line_at}
use Rattle.n2_report.specs.declared.ends.MemoryLine.{MemoryLine}
use Rattle.n2_report.specs.OfFlat.{dumped_line, dumped_lines}
use Rattle.n2_report.proofs.Next.{line_next}
use Rattle.n2_report.proofs.of_run.put_dumped.Goals as goal

pub loop-j-preserved : goal.loop-j-preserved
loop-j-preserved c =
    let memory = c.args.bus.now.shared.memory in
    let row = c.args.row.now in
    let j = c.loop-j.j in
    let line : MemoryLine = record { at = row.at + 32 * j; words = c.line.result } in
    let is : line ≡ dumped_line memory (row.at + 32 * j) = ap (λ (ws : List ℕ). record { at = row.at + 32 * j; words = ws }) (c.line.ensures ∙ ap (λ (n : ℕ). line_at memory n) c.line_of.ensures) in
    let items : c.push.new.self.items ≡ c.loop-j.out.items ++ line ∷ [] = c.in_ok-push.ensures.items in
    ap (λ (l : List MemoryLine). l ++ dumped_lines memory row.at (j + 1) (row.lines - (j + 1))) items
    ∙ line_next memory row.at j row.lines c.loop-j.out.items line _ c.loop-j-test.true is c.loop-j.invariant
