use Rattle.std.proofs.Common.{◌≡◌, drop}
use Rattle.n2_source.specs.Cursors.{skip}
use Rattle.n2_source.proofs.cursors.skip.Given as goal

abbrev pub invariant-loop-i : goal.invariant-loop-i
invariant-loop-i l = skip (drop l.i l.bytes) ≡ skip l.bytes
