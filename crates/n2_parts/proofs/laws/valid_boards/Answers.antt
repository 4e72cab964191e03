use Rattle.n2_parts.proofs.Small.{valid_small}
use Rattle.n2_parts.proofs.Sound.{keeps, one_cpuid, depths, caches}
use Rattle.n2_parts.proofs.laws.valid_boards.Goals as goal

pub returns-clause-small : goal.returns-clause-small
returns-clause-small c = valid_small

pub returns-clause-parts : goal.returns-clause-parts
returns-clause-parts c = keeps

pub returns-clause-cpuids : goal.returns-clause-cpuids
returns-clause-cpuids c = one_cpuid

pub returns-clause-depths : goal.returns-clause-depths
returns-clause-depths c = depths

pub returns-clause-caches : goal.returns-clause-caches
returns-clause-caches c = caches
