use Rattle.n2_devices.specs.Devices.{happened}
use Rattle.n2_bus.proofs.Counts.{after_event}
use Rattle.n2_bus.proofs.Sound.{devices_sound}
use Rattle.n2_bus.proofs.Bus.event.Goals as goal

pub invariant_of-self : goal.invariant_of-self
invariant_of-self c =
    devices_sound c.self.inside.memory c.self.inside.devices c.event-took.new.self (happened c.self.inside.devices.devices c.args.event).state c.self.inside.places c.self.invariant c.event-took.ensures.after (after_event c.self.inside.devices.devices c.args.event)

pub returns-clause-sound : goal.returns-clause-sound
returns-clause-sound c =
    devices_sound c.self.inside.memory c.self.inside.devices c.event-took.new.self (happened c.self.inside.devices.devices c.args.event).state c.self.inside.places c.self.invariant c.event-took.ensures.after (after_event c.self.inside.devices.devices c.args.event)
