use Rattle.std.proofs.Common.{◌≡◌, ◌-◌, ◌≤◌, [], length, take}
use Rattle.n2_outside.specs.Bytes.{appended}
use Rattle.n2_outside.proofs.put_all.Given as goal

abbrev pub invariant-loop-at : goal.invariant-loop-at
invariant-loop-at g l =
    (l.at ≤ length l.text)
    × (g.S.Sink.told l.sink ≡ appended (g.S.Sink.told l.fn.sink) (take l.at l.text))
    × (g.S.Sink.faults l.sink ≡ g.S.Sink.faults l.fn.sink)
    × (l.text ≡ [] → l.sink ≡ l.fn.sink)

abbrev pub decreases-loop-at : goal.decreases-loop-at
decreases-loop-at g l = length l.text - l.at
