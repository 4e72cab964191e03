-- `step BOARD ORDER`: what is asked, and what its run answers.
use Rattle.std.specs.Prelude.{ℕ, List, Result, Ok}
use Rattle.n2_outside.specs.Files.{Files}
use Rattle.n2_order.specs.Orders.{Asked as Order}
use Rattle.n2_inputs.specs.declared.inputs.Inputs.{Inputs}
use Rattle.n2_inputs.specs.declared.refusal.Refusal.{Refusal}
use Rattle.n2_inputs.specs.Asked.{asked_run}
use Rattle.n2_inputs.specs.Files.{◌>>=◌}
use Rattle.n2_top.specs.declared.answers.Answer.{Answer}
use Rattle.n2_top.specs.Asked.{Asked, OrderRun}
use Rattle.n2_top.specs.Runs.{end_by, run_answer}

-- the board in a file, its images, and the actors that the order's file lists
unfoldable pub asked_step : Files → List ℕ → Order → Result Asked Refusal
asked_step files board order = do
  found ← asked_run files board order
  Ok (OrderRun found.0 order found.1)

unfoldable pub step_answer : Inputs → Order → List ℕ → Answer
step_answer inputs order list = run_answer inputs.board inputs.layout (end_by inputs order list)
