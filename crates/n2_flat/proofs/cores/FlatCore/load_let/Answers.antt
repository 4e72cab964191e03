use Rattle.std.proofs.Common.{subst, false}
use Rattle.n2_flat.specs.State.{CoreState, IsWatched}
use Rattle.n2_flat.proofs.Noted.{core_with}
use Rattle.n2_flat.proofs.Tasked.{inside_memory}
use Rattle.n2_flat.proofs.cores.FlatCore.load_let.Goals as goal

pub read-value-requires-clause-inside : goal.read-value-requires-clause-inside
read-value-requires-clause-inside c = inside_memory c.args.board.now c.args.layout.now c.args.k c.args.common.now c.args.self.now c.args.address false c.args.width c.requires.at c.requires.unbroken

pub returns-clause-watched : goal.returns-clause-watched
returns-clause-watched c =
    let i = c.self.inside in
    subst (λ (s : CoreState). IsWatched c.args.board.now c.args.layout.now c.args.k c.args.common.now.world.book s → IsWatched c.args.board.now c.args.layout.now c.args.k c.args.common.now.world.book (core_with c.put_loaded.new.self i.stop i.past i.watch)) c.self.view_is
    (λ h. record { stands = h.stands })
    (c.in_ok-touch.ensures.watched c.args.board.now c.args.layout.now c.args.k c.args.common.now.world.book c.args.address c.args.width c.requires.at.watched c.line_of.ensures c.requires.unbroken)
