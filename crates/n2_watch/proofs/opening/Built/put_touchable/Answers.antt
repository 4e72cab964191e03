use Rattle.std.proofs.Common.{List, ◌+◌, ◌∙◌, ap, sym, subst}
use Rattle.n2_board.specs.declared.classes.Class.{Class}
use Rattle.n2_watch.specs.declared.records.Record.{Record}
use Rattle.n2_watch.specs.NextLines.{IsOpen}
use Rattle.n2_watch.specs.Watched.{is_touchable}
use Rattle.n2_watch.proofs.Nexts.{open_put, open_other}
use Rattle.n2_watch.proofs.opening.Built.put_touchable.Goals as goal

pub returns-else-is_touchable : goal.returns-else-is_touchable
returns-else-is_touchable c = λ bound memories f o.
    open_other c.args.core c.args.layout.now _ _ bound c.args.line memories (ap (λ (x : Class). is_touchable c.args.core x) (sym c.class_of.ensures) ∙ sym c.is_touchable.ensures ∙ c.if-is_touchable.false) f o

pub returns-in_ok-put : goal.returns-in_ok-put
returns-in_ok-put c = λ bound memories f o.
    let n = c.put.new.self in
    subst (λ (r : List Record). IsOpen c.args.core c.args.layout.now n.runs.items r (c.args.line + 1) memories) (sym c.in_ok-put.ensures.records)
    (open_put c.args.core c.args.layout.now c.args.self.now.runs.items n.runs.items c.args.self.now.records.items bound c.args.line c.slot_at-slot.result memories c.slot_at-slot.ensures c.in_ok-put.ensures.runs f o)
