use Rattle.std.proofs.Common.{refl}
use Rattle.n2_word.specs.Lines.{line}
use Rattle.n2_front.specs.Turn.{is_in_way}
use Rattle.n2_cpu.proofs.Touching.{in_way, store_turned}
use Rattle.n2_cpu.proofs.state.State.store.Goals as goal

pub returns-then-not-store_line-clause-turned : goal.returns-then-not-store_line-clause-turned
returns-then-not-store_line-clause-turned c = λ b map book past h br.
    in_way b map book past c.args.self.now h (line c.args.address) _ _ _ (is_in_way c.args.self.now.dcache (line c.args.address)) refl c.if-not-store_line.ensures.room c.if-not-store_line.ensures.after

pub returns-clause-turned : goal.returns-clause-turned
returns-clause-turned c = λ b map book past h br.
    let stands = rw c.line_of.ensures at (c.note_touch.ensures.stands b map c.args.self.now.clock.number book past c.args.address c.args.width h.watch c.line_of.ensures br) in
    store_turned b map book past c.args.self.now h c.args.address c.args.width c.args.reply.now _ _ _ _ c.retired.ensures c.args.value _ (is_in_way c.args.self.now.dcache (line c.args.address)) refl c.if-not-store_line.ensures.room br c.if-not-store_line.ensures.after
    c.advance.ensures stands
