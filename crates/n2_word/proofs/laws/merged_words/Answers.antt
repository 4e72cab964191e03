use Rattle.n2_word.proofs.Lanes.{bytes_of-merged, merged-small, extracted-merged, extracted-beside, merged-four}
use Rattle.n2_word.proofs.laws.merged_words.Goals as goal

pub returns-clause-bytes : goal.returns-clause-bytes
returns-clause-bytes c = bytes_of-merged

pub returns-clause-small : goal.returns-clause-small
returns-clause-small c = merged-small

pub returns-clause-there : goal.returns-clause-there
returns-clause-there c = extracted-merged

pub returns-clause-beside : goal.returns-clause-beside
returns-clause-beside c = extracted-beside

pub returns-clause-four : goal.returns-clause-four
returns-clause-four c = merged-four
