use Rattle.std.proofs.Common.{List, ℕ, ap, ◌∙◌, get_or, arith}
use Rattle.n2_memory.specs.Memories.{Contents}
use Rattle.n2_memory.proofs.Stored.{byte_step, inside_here}
use Rattle.n2_memory.proofs.start.store_bytes.Goals as goal

pub loop-i-preserved : goal.loop-i-preserved
loop-i-preserved c = record {
  left =
      byte_step c.loop-i.memory c.write.new.self c.args.segment.now c.loop-i.i c.from.result c.requires.holds (omega arith)
      (c.from.ensures ∙ c.byte_at-byte.ensures ∙ ap (λ (bytes : List ℕ). get_or bytes c.loop-i.i 0) c.as_slice-bytes.ensures) c.write.ensures.stored
      ∙ c.loop-i.invariant.left;
  memories = ap (λ (m : Contents). m.memories) c.write.ensures.stored ∙ c.loop-i.invariant.memories;
  full = c.write.ensures.full;
}

pub write-requires-clause-inside : goal.write-requires-clause-inside
write-requires-clause-inside c = inside_here c.args.memory.now.memories c.loop-i.memory.memories c.args.segment.now c.loop-i.i c.loop-i.invariant.memories c.requires.whole c.requires.inside (omega arith)
