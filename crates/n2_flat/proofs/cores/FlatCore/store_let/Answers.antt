use Rattle.std.proofs.Common.{sym, subst, true}
use Rattle.n2_flat.specs.State.{CoreState, CommonState, IsWatched}
use Rattle.n2_flat.proofs.Noted.{core_with}
use Rattle.n2_flat.proofs.Tasked.{inside_memory}
use Rattle.n2_flat.proofs.cores.FlatCore.store_let.Goals as goal

pub write-requires-clause-inside : goal.write-requires-clause-inside
write-requires-clause-inside c = inside_memory c.args.board.now c.args.layout.now c.args.k c.args.common.now c.args.self.now c.args.address true c.args.width c.requires.at c.requires.unbroken

pub returns-clause-watched : goal.returns-clause-watched
returns-clause-watched c =
    let i = c.self.inside in
    subst (λ (m : CommonState). IsWatched c.args.board.now c.args.layout.now c.args.k m.world.book (core_with c.advance.new.self i.stop i.past i.watch)) (sym c.write.ensures)
    (subst (λ (s : CoreState). IsWatched c.args.board.now c.args.layout.now c.args.k c.args.common.now.world.book s → IsWatched c.args.board.now c.args.layout.now c.args.k c.args.common.now.world.book (core_with c.advance.new.self i.stop i.past i.watch)) c.self.view_is
    (λ h. record { stands = h.stands })
    (c.in_ok-touch.ensures.watched c.args.board.now c.args.layout.now c.args.k c.args.common.now.world.book c.args.address c.args.width c.requires.at.watched c.line_of.ensures c.requires.unbroken))
