use Rattle.std.proofs.Common.{◌∙◌}
use Rattle.n2_devices.proofs.Shown.{shown_more}
use Rattle.n2_devices.proofs.Devices.shown.Goals as goal

pub loop-wire-preserved : goal.loop-wire-preserved
loop-wire-preserved c =
    shown_more c.args.self.now.devices c.args.wires.now c.loop-wire.wire-index c.loop-wire.lines _ _ c.loop-wire-test.true c.bit-lines.ensures ∙ c.loop-wire.invariant
