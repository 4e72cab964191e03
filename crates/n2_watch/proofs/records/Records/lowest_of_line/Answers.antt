use Rattle.std.proofs.Common.{length, sym, ◌∙◌}
use Rattle.n2_watch.proofs.Walking.{lowest_of_line}
use Rattle.n2_watch.proofs.records.Records.lowest_of_line.Goals as goal

pub returns-then-is_line_dirty : goal.returns-then-is_line_dirty
returns-then-is_line_dirty c = λ map past h.
    lowest_of_line (length c.args.self.now.cleaned) past c.args.line _ (sym (c.is_line_dirty.ensures map past h) ∙ c.if-is_line_dirty.true)

pub returns-else-is_line_dirty : goal.returns-else-is_line_dirty
returns-else-is_line_dirty c = λ map past h.
    lowest_of_line (length c.args.self.now.cleaned) past c.args.line _ (sym (c.is_line_dirty.ensures map past h) ∙ c.if-is_line_dirty.false)
