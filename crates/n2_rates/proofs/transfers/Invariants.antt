use Rattle.std.proofs.Common.{IsTrue}
use Rattle.n2_bus.specs.Wiring.{proper}
use Rattle.n2_rates.proofs.transfers.Given as goal

abbrev pub invariant-transfers : goal.invariant-transfers
invariant-transfers l = IsTrue (proper l.bus.wiring l.actor l.request)
