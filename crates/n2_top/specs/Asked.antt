-- What is asked once the files that the words name are read.
use Rattle.std.specs.Prelude.{ℕ, List}
use Rattle.n2_elf.specs.declared.image.Image.{Image}
use Rattle.n2_order.specs.Orders.{Asked as Order}
use Rattle.n2_journal.specs.Journals.{Content}
use Rattle.n2_inputs.specs.declared.inputs.Inputs.{Inputs}

-- what is asked
pub data Asked : Type 0 where
  -- a run of an image on the plain board for so many acts
  PlainRun : (image : Image) (steps : ℕ) → Asked
  -- a run of a board by an order, with the actors that its file lists
  OrderRun : (inputs : Inputs) (order : Order) (list : List ℕ) → Asked
  -- the run of a board that a journal tells
  JournalRun : (inputs : Inputs) (journal : Content) → Asked
  -- a run of a board by the order of a seed, which leaves no journal
  SeedRun : (inputs : Inputs) (seed : ℕ) → Asked
  -- the flat machine along the run of a board that a journal tells
  FlatRun : (inputs : Inputs) (journal : Content) → Asked
  -- the ELF file of an image
  File : (image : Image) → Asked
  -- the words of an image as text
  Listing : (image : Image) → Asked
