use Rattle.std.proofs.Common.{sym, ◌∙◌}
use Rattle.n2_parts.specs.Valid.{late_faults}
use Rattle.n2_parts.proofs.Steps.{stop, pass, alone}
use Rattle.n2_parts.proofs.validity.late_faults.Goals as goal

pub returns-in-Some-first_part : goal.returns-in-Some-first_part
unfolding late_faults
returns-in-Some-first_part c = pass _ _ _ c.in-None.ensures (stop _ _ _ c.in-Some-first_part.ensures)

pub returns-in-Some-place_faults : goal.returns-in-Some-place_faults
unfolding late_faults
returns-in-Some-place_faults c = pass _ _ _ c.in-None.ensures (pass _ _ _ c.in-None-first_part.ensures (stop _ _ _ c.in-Some-place_faults.ensures))

pub returns : goal.returns
unfolding late_faults
returns c = pass _ _ _ c.in-None.ensures (pass _ _ _ c.in-None-first_part.ensures (pass _ _ _ c.in-None-place_faults.ensures (c.totals.ensures ∙ sym (alone _))))
