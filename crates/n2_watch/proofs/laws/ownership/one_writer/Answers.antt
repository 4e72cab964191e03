use Rattle.n2_watch.proofs.OwnersRights.{writers, dirty_alone}
use Rattle.n2_watch.proofs.laws.ownership.one_writer.Goals as goal

pub returns-clause-writers : goal.returns-clause-writers
returns-clause-writers c = writers

pub returns-clause-dirty : goal.returns-clause-dirty
returns-clause-dirty c = dirty_alone
