use Rattle.n2_watch.proofs.laws.past_events_in_words.Goals as goal
use Rattle.n2_watch.proofs.Words.{may_to, may_from, dirty_to, dirty_from, stale_to, stale_from}

pub returns-clause-may : goal.returns-clause-may
returns-clause-may c = λ sets past number. (may_to sets past number, may_from sets past number)

pub returns-clause-dirty : goal.returns-clause-dirty
returns-clause-dirty c = λ sets past number. (dirty_to sets past number, dirty_from sets past number)

pub returns-clause-stale : goal.returns-clause-stale
returns-clause-stale c = λ map sets past number. (stale_to map sets past number, stale_from map sets past number)
