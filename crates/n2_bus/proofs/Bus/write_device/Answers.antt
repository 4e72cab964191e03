use Rattle.n2_devices.specs.Devices.{write_word}
use Rattle.n2_bus.proofs.Counts.{after_write}
use Rattle.n2_bus.proofs.Sound.{devices_sound}
use Rattle.n2_bus.proofs.Bus.write_device.Goals as goal

pub invariant_of-self : goal.invariant_of-self
invariant_of-self c =
    devices_sound c.self.inside.memory c.self.inside.devices c.write-took.new.self (write_word c.self.inside.devices.devices c.args.part c.args.offset c.args.value).state c.self.inside.places c.self.invariant c.write-took.ensures.after (after_write c.self.inside.devices.devices c.args.part c.args.offset c.args.value)

pub returns-clause-sound : goal.returns-clause-sound
returns-clause-sound c =
    devices_sound c.self.inside.memory c.self.inside.devices c.write-took.new.self (write_word c.self.inside.devices.devices c.args.part c.args.offset c.args.value).state c.self.inside.places c.self.invariant c.write-took.ensures.after (after_write c.self.inside.devices.devices c.args.part c.args.offset c.args.value)
