use Rattle.std.proofs.Common.{◌∙◌, ℕ, List, Vec, Global, Ok, ap, refl, sym}
use Rattle.std.proofs.lemmas.Result.{err_from_is_err_and}
use Rattle.n2_order.specs.Orders.{asked}
use Rattle.n2_inputs.specs.declared.inputs.Inputs.{Inputs}
use Rattle.n2_inputs.specs.Orders.{asked_list}
use Rattle.n2_inputs.specs.Asked.{fitted, asked_run}
use Rattle.n2_inputs.proofs.Steps.{after_step, failed_later}
use Rattle.n2_inputs.proofs.inputs.read_run.Goals as goal

-- the actors that a `Vec` holds
shown : Inputs × Vec ℕ Global → Inputs × List ℕ
shown a = (a.0, a.1.items)

pub returns-in_err-inputs-clause-asked : goal.returns-in_err-inputs-clause-asked
unfolding asked_run
returns-in_err-inputs-clause-asked g c =
    let p = err_from_is_err_and c.from_residual-in_err-inputs.result c.from_residual-in_err-inputs.ensures.1 in
    λ files told. rw (p.1, p.2)
    (failed_later (λ inputs. inputs) shown (asked_run files c.args.board.now (asked c.args.order.now)) (fitted c.in_ok-board.board c.in_ok-board.images) (λ inputs. Ok (inputs, c.in_ok-list.list.items)) _
    (after_step _ _ _ _ (c.in_ok-board.ensures.machine files told)
    (after_step _ _ _ _ (ap (asked_list files (asked c.args.order.now)) (sym c.len.ensures) ∙ c.in_ok-list.ensures.list files (c.in_ok-board.ensures.folder.files ∙ told)) refl))
    c.in_err-inputs.ensures.inputs)

pub returns-clause-asked : goal.returns-clause-asked
unfolding asked_run
returns-clause-asked g c = λ files told.
    after_step _ _ _ _ (c.in_ok-board.ensures.machine files told)
    (after_step _ _ _ _ (ap (asked_list files (asked c.args.order.now)) (sym c.len.ensures) ∙ c.in_ok-list.ensures.list files (c.in_ok-board.ensures.folder.files ∙ told))
    (after_step _ _ _ _ c.in_ok-inputs.ensures.inputs refl))
