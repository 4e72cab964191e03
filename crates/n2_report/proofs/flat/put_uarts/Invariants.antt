use Rattle.std.proofs.Common.{◌≡◌, ◌++◌, map, drop}
use Rattle.std.specs.List.{flat_map}
use Rattle.n2_report.specs.Flat.{uart_of, uart_text}
use Rattle.n2_report.proofs.flat.put_uarts.Given as goal

abbrev pub invariant-loop-uart : goal.invariant-loop-uart
invariant-loop-uart l =
    l.out.items ++ flat_map uart_text (map uart_of (drop l.uart-index l.uarts)) ≡ l.fn.out.items ++ flat_map uart_text (map uart_of l.uarts)
