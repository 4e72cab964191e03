use Rattle.std.proofs.Common.{◌≡◌, ◌<◌, ℕ, None, cond, eqb, subst}
use Rattle.n2_word.specs.Lines.{set_for}
use Rattle.n2_dcache.specs.Cache.{held_line, set_dropped}
use Rattle.n2_dcache.proofs.Maps.{held_line-set_dropped, held_line-line_dropped}
use Rattle.n2_dcache.proofs.laws.after_drop.Goals as goal

pub returns-clause-set : goal.returns-clause-set
returns-clause-set c =
    λ slots sets set other count. subst (λ (n : ℕ). set < n → held_line (set_dropped slots set) other ≡ cond (eqb (set_for other n) set) None (held_line slots other)) count (held_line-set_dropped slots set other)

pub returns-clause-line : goal.returns-clause-line
returns-clause-line c = held_line-line_dropped
