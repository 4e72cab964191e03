use Rattle.std.proofs.Common.{sym, ap, drop, ◌∙◌, arith}
use Rattle.n2_memory.specs.Start.{stored, bytes_of_segment}
use Rattle.n2_memory.proofs.Stored.{all_stored}
use Rattle.n2_parts.proofs.LinePlaces.{inside_end}
use Rattle.n2_memory.proofs.start.store.Goals as goal

pub store_bytes-requires-clause-below : goal.store_bytes-requires-clause-below
store_bytes-requires-clause-below c = inside_end c.args.memory.now.memories c.args.segment.now.at c.args.segment.now.size c.requires.whole c.requires.inside

pub store_words-requires-clause-below : goal.store_words-requires-clause-below
store_words-requires-clause-below c = inside_end c.args.memory.now.memories c.args.segment.now.at c.args.segment.now.size c.requires.whole c.requires.inside

pub store_bytes-requires-2-clause-below : goal.store_bytes-requires-2-clause-below
store_bytes-requires-2-clause-below c = inside_end c.args.memory.now.memories c.args.segment.now.at c.args.segment.now.size c.requires.whole c.requires.inside

pub returns-clause-stored : goal.returns-clause-stored
returns-clause-stored c =
    let old = c.args.memory.now in
    let s = c.args.segment.now in
    sym (all_stored c.store_bytes-2.new.memory s c.requires.holds)
    ∙ c.store_bytes-2.ensures.left
    ∙ c.store_words.ensures.left
    ∙ c.store_bytes.ensures.left
    ∙ ap (λ n. stored old n (drop 0 (bytes_of_segment s))) (omega arith)
