use Rattle.n2_asm.proofs.Sound.{object_writable}
use Rattle.n2_asm.proofs.Sized.{object_sized}
use Rattle.n2_asm.proofs.objects.assemble.Goals as goal

pub returns-clause-writable : goal.returns-clause-writable
returns-clause-writable c = object_writable c.args.source.now c.assembled.result c.assembled.ensures.ok

pub returns-clause-sized : goal.returns-clause-sized
returns-clause-sized c = object_sized c.assembled.result (object_writable c.args.source.now c.assembled.result c.assembled.ensures.ok)
