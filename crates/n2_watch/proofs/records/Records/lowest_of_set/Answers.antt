use Rattle.std.proofs.Common.{◌∙◌, sym}
use Rattle.n2_watch.proofs.Walking.{lowest_of_set, none_of_set}
use Rattle.n2_watch.proofs.records.Records.lowest_of_set.Goals as goal

pub returns-then-dirty_in_set-eq0 : goal.returns-then-dirty_in_set-eq0
returns-then-dirty_in_set-eq0 c = λ map past h.
    none_of_set map c.args.self.now past c.args.line h.stand h.table.sets (sym c.dirty_in_set.ensures ∙ c.if-dirty_in_set-eq0.true)

pub returns-else-dirty_in_set-eq0 : goal.returns-else-dirty_in_set-eq0
returns-else-dirty_in_set-eq0 c = λ map past h.
    lowest_of_set map c.args.self.now past c.args.line h.stand _ c.lowest_in_set.ensures
