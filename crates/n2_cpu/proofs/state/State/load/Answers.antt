use Rattle.std.proofs.Common.{refl, ◌∙◌, ap}
use Rattle.n2_word.specs.Lines.{line}
use Rattle.n2_exec.specs.Outcomes.{loaded_value}
use Rattle.n2_front.specs.Turn.{is_in_way}
use Rattle.n2_cpu.proofs.Touching.{in_way, load_turned}
use Rattle.n2_cpu.proofs.state.State.load.Goals as goal

pub returns-in_default-clause-turned : goal.returns-in_default-clause-turned
returns-in_default-clause-turned c = λ b map book past h br.
    in_way b map book past c.args.self.now h (line c.args.address) _ _ _ (is_in_way c.args.self.now.dcache (line c.args.address)) refl c.in_default.ensures.room c.in_default.ensures.after

pub returns-clause-turned : goal.returns-clause-turned
returns-clause-turned c = λ b map book past h br.
    let stands = rw c.line_of.ensures at (c.note_touch.ensures.stands b map c.args.self.now.clock.number book past c.args.address c.args.width h.watch c.line_of.ensures br) in
    load_turned b map book past c.args.self.now h c.args.address c.args.width c.args.reply.now _ _ _ _ c.retired.ensures c.args.signed c.args.to c.extended.result _ (is_in_way c.args.self.now.dcache (line c.args.address)) refl c.in-Some.ensures.room br c.in-Some.ensures.after
    (c.extended.ensures ∙ ap (loaded_value c.args.width c.args.signed) c.in-Some.ensures.value) c.put_loaded.ensures stands
