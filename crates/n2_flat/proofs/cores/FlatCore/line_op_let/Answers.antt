use Rattle.std.proofs.Common.{subst}
use Rattle.n2_flat.specs.State.{CoreState, IsWatched}
use Rattle.n2_flat.proofs.Noted.{core_with, has_slots}
use Rattle.n2_flat.proofs.cores.FlatCore.line_op_let.Goals as goal

pub returns-clause-watched : goal.returns-clause-watched
returns-clause-watched c =
    let i = c.self.inside in
    subst (λ (s : CoreState). IsWatched c.args.board.now c.args.layout.now c.args.k c.args.common.now.world.book s → IsWatched c.args.board.now c.args.layout.now c.args.k c.args.common.now.world.book (core_with c.advance.new.self i.stop i.past i.watch)) c.self.view_is
    (λ h. record { stands = h.stands })
    (c.in_ok-clean.ensures.watched c.args.board.now c.args.layout.now c.args.k c.args.common.now.world.book c.requires.at.watched)

pub clean-requires : goal.clean-requires
clean-requires c = has_slots c.args.board.now c.args.layout.now c.args.k c.args.common.now.world.book c.args.self.now c.requires.at.watched
