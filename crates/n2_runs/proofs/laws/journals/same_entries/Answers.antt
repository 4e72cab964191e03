use Rattle.std.proofs.Common.{ap, sym, ◌∙◌}
use Rattle.n2_runs.specs.Same.{same_entry}
use Rattle.n2_runs.proofs.Sames.{entry_is, entry_self}
use Rattle.n2_runs.proofs.laws.journals.same_entries.Goals as goal

pub returns : goal.returns
returns c = λ d e. (entry_is d e, λ same. ap (same_entry d) (sym same) ∙ entry_self d)
