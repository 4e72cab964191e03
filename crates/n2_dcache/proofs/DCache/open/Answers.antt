use Rattle.n2_dcache.proofs.Opened.{whole_opened}
use Rattle.n2_dcache.proofs.DCache.open.Goals as goal

pub invariant_of-result : goal.invariant_of-result
invariant_of-result c = whole_opened c.in_ok-slots.slots.items c.args.bytes c.in_ok-slots.ensures c.requires
