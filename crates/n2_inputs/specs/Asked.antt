-- What is asked of the machine once all files are read, or the first thing that is refused: the board,
-- its images core by core, the order's file or the journal, and last whether the images fit the board.
use Rattle.std.specs.Prelude.{◌≡◌, ℕ, List, length, None, Result, Ok}
use Rattle.std.specs.List.{AllByRecursion}
use Rattle.n2_outside.specs.Files.{Files}
use Rattle.n2_elf.specs.declared.image.Image.{Image}
use Rattle.n2_elf.specs.Reading.{IsSized}
use Rattle.n2_parts.specs.declared.board.Board.{Board}
use Rattle.n2_parts.specs.Valid.{IsValid}
use Rattle.n2_board.specs.Placement.{open_fault}
use Rattle.n2_board.specs.AddressMap.{address_map}
use Rattle.n2_order.specs.Orders.{Asked}
use Rattle.n2_journal.specs.Journals.{Content}
use Rattle.n2_inputs.specs.declared.inputs.Inputs.{Inputs}
use Rattle.n2_inputs.specs.declared.refusal.Refusal.{Refusal}
use Rattle.n2_inputs.specs.Files.{◌>>=◌}
use Rattle.n2_inputs.specs.Boards.{asked_machine, fitting}
use Rattle.n2_inputs.specs.Orders.{asked_list}
use Rattle.n2_inputs.specs.Journals.{asked_journal}

-- a board with its images and their layout, where the images fit the board
unfoldable pub fitted : Board → List Image → Result Inputs Refusal
fitted board images = fitting (open_fault board images) (record { board = board; images = images; layout = address_map board images })

-- the inputs of a run
unfoldable pub asked_inputs : Files → List ℕ → Result Inputs Refusal
asked_inputs files name = do
  machine ← asked_machine files name
  fitted machine.0 machine.1

-- the inputs of a run over an order, and the actors that its file lists
unfoldable pub asked_run : Files → List ℕ → Asked → Result (Inputs × List ℕ) Refusal
asked_run files name order = do
  machine ← asked_machine files name
  list ← asked_list files order (length machine.0.core)
  inputs ← fitted machine.0 machine.1
  Ok (inputs, list)

-- the inputs of a run that a journal tells, and the journal
unfoldable pub asked_replay : Files → List ℕ → List ℕ → Result (Inputs × Content) Refusal
asked_replay files name journal = do
  machine ← asked_machine files name
  told ← asked_journal files journal
  inputs ← fitted machine.0 machine.1
  Ok (inputs, told)

-- a valid board with one image for each core, whose segments hold their bytes and fit it, and its layout
pub record IsReady (inputs : Inputs) : Type 0 where
  pub valid : IsValid inputs.board
  pub images : length inputs.images ≡ length inputs.board.core
  pub sized : AllByRecursion IsSized inputs.images
  pub fits : open_fault inputs.board inputs.images ≡ None
  pub layout : inputs.layout ≡ address_map inputs.board inputs.images
