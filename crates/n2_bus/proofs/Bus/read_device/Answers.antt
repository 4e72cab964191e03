use Rattle.n2_devices.specs.Devices.{read_word}
use Rattle.n2_bus.proofs.Counts.{after_read}
use Rattle.n2_bus.proofs.Sound.{devices_sound}
use Rattle.n2_bus.proofs.Bus.read_device.Goals as goal

pub invariant_of-self : goal.invariant_of-self
invariant_of-self c =
    devices_sound c.self.inside.memory c.self.inside.devices c.read-answer.new.self (read_word c.self.inside.devices.devices c.args.part c.args.offset).state c.self.inside.places c.self.invariant c.read-answer.ensures.after (after_read c.self.inside.devices.devices c.args.part c.args.offset)

pub returns-clause-sound : goal.returns-clause-sound
returns-clause-sound c =
    devices_sound c.self.inside.memory c.self.inside.devices c.read-answer.new.self (read_word c.self.inside.devices.devices c.args.part c.args.offset).state c.self.inside.places c.self.invariant c.read-answer.ensures.after (after_read c.self.inside.devices.devices c.args.part c.args.offset)
