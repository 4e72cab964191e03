use Rattle.n2_bus.proofs.Kept.{start_sound, next_sound}
use Rattle.n2_bus.proofs.laws.sound.Goals as goal

pub returns-clause-start : goal.returns-clause-start
returns-clause-start c = start_sound

pub returns-clause-next : goal.returns-clause-next
returns-clause-next c = next_sound
