use Rattle.n2_exec.proofs.Integers.{mulxuu, mulxsu, mulxss}
use Rattle.n2_exec.proofs.laws.every_product.Goals as goal

pub returns-clause-uu : goal.returns-clause-uu
returns-clause-uu c = mulxuu

pub returns-clause-su : goal.returns-clause-su
returns-clause-su c = mulxsu

pub returns-clause-ss : goal.returns-clause-ss
returns-clause-ss c = mulxss
