use Rattle.n2_boardtext.proofs.Causes.{not_toml, no_memory}
use Rattle.n2_boardtext.proofs.laws.faults_of_texts.Goals as goal

pub returns : goal.returns
returns c = record { not_toml = not_toml; no_memory = no_memory }
