use Rattle.n2_watch.proofs.KeptTransfers.{exchange, other_request}
use Rattle.n2_watch.proofs.KeptJudgement.{access_judgement, request_judgement}
use Rattle.n2_watch.proofs.laws.ownership.other_cores.Goals as goal

pub returns-clause-guards : goal.returns-clause-guards
returns-clause-guards c = λ b images map k w past access h j lt n guard. (exchange b images map k w past access h).others j guard lt n

pub returns-clause-pointers : goal.returns-clause-pointers
returns-clause-pointers c = λ b images map k w past access h. (exchange b images map k w past access h).pointers

pub returns-clause-mutexes : goal.returns-clause-mutexes
returns-clause-mutexes c = λ b map actor w request e. (other_request b map actor w request e).mutexes

pub returns-clause-mailboxes : goal.returns-clause-mailboxes
returns-clause-mailboxes c = λ b map actor w request e. (other_request b map actor w request e).mailboxes

pub returns-clause-holders : goal.returns-clause-holders
returns-clause-holders c = λ b map actor w request e. (other_request b map actor w request e).holders

pub returns-clause-judgement : goal.returns-clause-judgement
returns-clause-judgement c = access_judgement

pub returns-clause-other_judgement : goal.returns-clause-other_judgement
returns-clause-other_judgement c = request_judgement
