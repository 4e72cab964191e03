use Rattle.std.proofs.Common.{◌≡◌, ◌++◌, map, drop}
use Rattle.n2_report.specs.Flat.{uart_of}
use Rattle.n2_report.specs.OfFlat.{uarts_from}
use Rattle.n2_report.proofs.of_flat.uart_ends.Given as goal

abbrev pub invariant-loop-i : goal.invariant-loop-i
invariant-loop-i l = map uart_of l.ends.items ++ uarts_from l.i (drop l.i l.board.uart) l.flat.common.world.book.sent ≡ uarts_from 0 l.board.uart l.flat.common.world.book.sent
