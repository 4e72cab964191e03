use Rattle.std.proofs.Common.{refl, sym, ◌∙◌}
use Rattle.n2_runs.specs.Machine.{turn, is_over}
use Rattle.n2_driver.proofs.Together.{local_is, over_has_none, next_beside, beside_after, act_there, acted_after, none_after}
use Rattle.n2_driver.proofs.beside.turn_beside.Goals as goal

pub act-requires-clause-there : goal.act-requires-clause-there
act-requires-clause-there c =
    let h = c.requires.beside in
    act_there _ c.args.layout.now _ c.args.actor c.in-Acted.act h (sym c.in-Acted.is ∙ c.turn.ensures.answer h.state h.stands.0 h.stands.1)

pub returns-in_err-act-in-Acted-clause-beside : goal.returns-in_err-act-in-Acted-clause-beside
returns-in_err-act-in-Acted-clause-beside c =
    let h = c.requires.beside in
    beside_after c.args.machine.now c.turn.new.self c.args.layout.now c.args.flat.now c.act.new.self c.args.actor h c.turn.ensures.board c.turn.ensures.map c.act.ensures.board c.act.ensures.whole (c.turn.ensures.stands h.state h.stands.0 h.stands.1) (c.turn.ensures.kept h.state h.stands.1)

pub returns-in_ok-act-in-Acted-clause-flat : goal.returns-in_ok-act-in-Acted-clause-flat
returns-in_ok-act-in-Acted-clause-flat c = λ m stands kept.
    acted_after c.args.machine.now c.args.layout.now c.args.flat.now m _ c.args.actor c.in-Acted.act c.requires.beside (sym c.in-Acted.is ∙ c.turn.ensures.answer m stands kept) c.in_ok-act-in-Acted.ensures.done

pub returns-in_ok-act-in-Acted-clause-underway : goal.returns-in_ok-act-in-Acted-clause-underway
returns-in_ok-act-in-Acted-clause-underway c = λ end flat_end left u.
    next_beside end flat_end c.args.machine.now c.turn.new.self _ _ c.args.actor left u c.turn.ensures.board c.turn.ensures.map (c.turn.ensures.stands u.state u.stands.0 u.stands.1) (c.turn.ensures.kept u.state u.stands.1)
    (acted_after c.args.machine.now c.args.layout.now c.args.flat.now u.state _ c.args.actor c.in-Acted.act c.requires.beside (sym c.in-Acted.is ∙ c.turn.ensures.answer u.state u.stands.0 u.stands.1) c.in_ok-act-in-Acted.ensures.done)

pub returns-in_ok-act-in-Acted-clause-beside : goal.returns-in_ok-act-in-Acted-clause-beside
returns-in_ok-act-in-Acted-clause-beside c =
    let h = c.requires.beside in
    beside_after c.args.machine.now c.turn.new.self c.args.layout.now c.args.flat.now c.act.new.self c.args.actor h c.turn.ensures.board c.turn.ensures.map c.act.ensures.board c.act.ensures.whole (c.turn.ensures.stands h.state h.stands.0 h.stands.1) (c.turn.ensures.kept h.state h.stands.1)

pub returns-in-Local-clause-flat : goal.returns-in-Local-clause-flat
returns-in-Local-clause-flat c = λ m stands kept.
    let v = c.args.machine.now in
    none_after v m _ c.args.actor (local_is (is_over v.board m c.args.actor) (turn v.board v.map m c.args.actor).act (sym c.in-Local.is ∙ c.turn.ensures.answer m stands kept))

pub returns-in-Local-clause-underway : goal.returns-in-Local-clause-underway
returns-in-Local-clause-underway c = λ end flat_end left u.
    let v = c.args.machine.now in
    next_beside end flat_end v c.turn.new.self _ _ c.args.actor left u c.turn.ensures.board c.turn.ensures.map (c.turn.ensures.stands u.state u.stands.0 u.stands.1) (c.turn.ensures.kept u.state u.stands.1)
    (none_after v u.state _ c.args.actor (local_is (is_over v.board u.state c.args.actor) (turn v.board v.map u.state c.args.actor).act (sym c.in-Local.is ∙ c.turn.ensures.answer u.state u.stands.0 u.stands.1)))

pub returns-in-Local-clause-beside : goal.returns-in-Local-clause-beside
returns-in-Local-clause-beside c =
    let h = c.requires.beside in
    beside_after c.args.machine.now c.turn.new.self c.args.layout.now c.args.flat.now c.args.flat.now c.args.actor h c.turn.ensures.board c.turn.ensures.map refl h.whole (c.turn.ensures.stands h.state h.stands.0 h.stands.1) (c.turn.ensures.kept h.state h.stands.1)

pub returns-in-Over-clause-flat : goal.returns-in-Over-clause-flat
returns-in-Over-clause-flat c = λ m stands kept.
    let v = c.args.machine.now in
    none_after v m _ c.args.actor (over_has_none v.board v.map m kept.count c.args.actor (sym c.in-Over.is ∙ c.turn.ensures.answer m stands kept))

pub returns-in-Over-clause-underway : goal.returns-in-Over-clause-underway
returns-in-Over-clause-underway c = λ end flat_end left u.
    let v = c.args.machine.now in
    next_beside end flat_end v c.turn.new.self _ _ c.args.actor left u c.turn.ensures.board c.turn.ensures.map (c.turn.ensures.stands u.state u.stands.0 u.stands.1) (c.turn.ensures.kept u.state u.stands.1)
    (none_after v u.state _ c.args.actor (over_has_none v.board v.map u.state u.stands.1.count c.args.actor (sym c.in-Over.is ∙ c.turn.ensures.answer u.state u.stands.0 u.stands.1)))

pub returns-in-Over-clause-beside : goal.returns-in-Over-clause-beside
returns-in-Over-clause-beside c =
    let h = c.requires.beside in
    beside_after c.args.machine.now c.turn.new.self c.args.layout.now c.args.flat.now c.args.flat.now c.args.actor h c.turn.ensures.board c.turn.ensures.map refl h.whole (c.turn.ensures.stands h.state h.stands.0 h.stands.1) (c.turn.ensures.kept h.state h.stands.1)
