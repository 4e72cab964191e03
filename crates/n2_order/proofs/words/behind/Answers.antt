use Rattle.n2_order.proofs.Spelled.{strip_is}
use Rattle.n2_order.proofs.words.behind.Goals as goal

pub returns : goal.returns
returns c = strip_is c.args.key.now c.args.text.now c.strip_prefix.result c.strip_prefix.ensures.cases
