use Rattle.n2_cpu.proofs.Turning.{has_room, sound_counted}
use Rattle.n2_cpu.proofs.state.State.make.Goals as goal

pub perform-act-requires-clause-room : goal.perform-act-requires-clause-room
perform-act-requires-clause-room c = has_room c.args.self.now c.requires.sound c.requires.running

pub returns-clause-sound : goal.returns-clause-sound
returns-clause-sound c = sound_counted c.args.self.now c.perform-act.new.self _ c.args.transfer c.requires.sound c.perform-act.ensures.part c.count.ensures.counted c.count.ensures.quiet c.count.ensures.end

pub returns-clause-made : goal.returns-clause-made
returns-clause-made c = λ b w past h shared core m r. record {
  middle = c.perform-act.new.self;
  clock = c.perform-act.ensures.part.clock;
  turned = c.perform-act.ensures.turned b w past h shared core m r;
  counted = c.count.ensures.counted;
}
