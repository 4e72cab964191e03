-- The file of an order.
use Rattle.std.specs.Prelude.{ℕ, List, [], Bool, true, false, Result, Ok, Err}
use Rattle.n2_outside.specs.Files.{Files, file_at}
use Rattle.n2_order.specs.Orders.{Asked, ByRounds, BySeed, ByList}
use Rattle.n2_order.specs.Lists.{list_of}
use Rattle.n2_inputs.specs.declared.refusal.Role.TheVariants as roles
use Rattle.n2_inputs.specs.declared.refusal.Refusal.{Refusal}
use Rattle.n2_inputs.specs.declared.refusal.Refusal.TheVariants as refusals
use Rattle.n2_inputs.specs.Files.{◌>>=◌, file_of}

-- the actors of a list, where each of its rows is an actor's
abbrev pub list_in : Result (List ℕ) ℕ → Result (List ℕ) Refusal
list_in (Ok actors) = Ok actors
list_in (Err row) = Err (refusals.OrderRow row)

-- the actors that the file of a name lists, for a board of so many cores
unfoldable pub listed : Files → List ℕ → ℕ → Result (List ℕ) Refusal
listed files name cores = do
  bytes ← file_of (file_at files name) roles.Order
  list_in (list_of cores bytes)

-- the actors that an order lists; rounds and seeds list none, and read no file
abbrev pub asked_list : Files → Asked → ℕ → Result (List ℕ) Refusal
asked_list files (ByRounds turns) cores = Ok []
asked_list files (BySeed seed) cores = Ok []
asked_list files (ByList name) cores = listed files name cores

-- whether an order has a file
abbrev pub has_file : Asked → Bool
has_file (ByRounds turns) = false
has_file (BySeed seed) = false
has_file (ByList name) = true
