use Rattle.n2_bus.proofs.Passing.{read_passes, write_passes, cached_passes, fetch_passes, fills_pass, write_back_passes, sample_passes, script_passes}
use Rattle.n2_bus.proofs.laws.what_passes_is_proper.Goals as goal

pub returns-clause-read : goal.returns-clause-read
returns-clause-read c = read_passes

pub returns-clause-write : goal.returns-clause-write
returns-clause-write c = write_passes

pub returns-clause-cached : goal.returns-clause-cached
returns-clause-cached c = cached_passes

pub returns-clause-fetched : goal.returns-clause-fetched
returns-clause-fetched c = fetch_passes

pub returns-clause-filled : goal.returns-clause-filled
returns-clause-filled c = fills_pass

pub returns-clause-written_back : goal.returns-clause-written_back
returns-clause-written_back c = write_back_passes

pub returns-clause-sample : goal.returns-clause-sample
returns-clause-sample c = sample_passes

pub returns-clause-script : goal.returns-clause-script
returns-clause-script c = script_passes
