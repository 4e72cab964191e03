use Rattle.std.proofs.Common.{◌≡◌, ◌≢◌, ◌<◌, ℕ, None, subst}
use Rattle.n2_word.specs.Lines.{set_for}
use Rattle.n2_dcache.specs.Cache.{held_line, filled}
use Rattle.n2_dcache.proofs.Maps.{held_line-filled, held_line-filled_same, held_line-filled_other}
use Rattle.n2_dcache.proofs.laws.after_fill.Goals as goal

pub returns-clause-there : goal.returns-clause-there
returns-clause-there c = held_line-filled

pub returns-clause-same_set : goal.returns-clause-same_set
returns-clause-same_set c =
    λ slots sets number words other count. subst (λ (n : ℕ). 0 < n → other ≢ number → set_for other n ≡ set_for number n → held_line (filled slots number words) other ≡ None) count (held_line-filled_same slots number words other)

pub returns-clause-other_sets : goal.returns-clause-other_sets
returns-clause-other_sets c =
    λ slots sets number words other count. subst (λ (n : ℕ). set_for other n ≢ set_for number n → held_line (filled slots number words) other ≡ held_line slots other) count (held_line-filled_other slots number words other)
