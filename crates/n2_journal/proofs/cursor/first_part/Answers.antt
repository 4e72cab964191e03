use Rattle.std.proofs.Common.{◌≡◌, false, eqb, arith}
use Rattle.std.proofs.lemmas.Bool.{ne_eqb}
use Rattle.std.proofs.lemmas.List.Elements.{All-more}
use Rattle.n2_journal.proofs.Steps.{first_here, one_part, take_whole, drop_whole}
use Rattle.n2_journal.proofs.cursor.first_part.Goals as goal

pub returns-then-c-separator-clause-some : goal.returns-then-c-separator-clause-some
returns-then-c-separator-clause-some c =
    rw drop_whole (first_here c.args.separator c.args.text.now c.loop-at.at (omega arith) (omega arith) c.loop-at.invariant)

pub loop-at-preserved : goal.loop-at-preserved
loop-at-preserved c = All-more (λ b. eqb b c.args.separator ≡ false) c.args.text.now c.loop-at.at 0 (omega arith) c.loop-at.invariant (ne_eqb _ _ c.if-c-separator.false)

pub returns-clause-none : goal.returns-clause-none
returns-clause-none c = one_part c.args.separator c.args.text.now (take_whole c.args.separator c.args.text.now c.loop-at.at (omega arith) c.loop-at.invariant)
