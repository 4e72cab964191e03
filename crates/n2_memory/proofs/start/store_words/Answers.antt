use Rattle.std.proofs.Common.{◌≡◌, ◌+◌, ◌*◌, ◌%◌, ◌^◌, ◌<◌, List, ℕ, ap, subst, ◌∙◌, get_or, take, drop, arith}
use Rattle.n2_word.specs.Words.{number_of}
use Rattle.n2_memory.specs.Memories.{Contents}
use Rattle.n2_memory.proofs.Stored.{word_step, inside_here}
use Rattle.n2_memory.proofs.start.store_words.Goals as goal

pub loop-i-preserved : goal.loop-i-preserved
loop-i-preserved c =
    let s = c.args.segment.now in
    let place : ℕ = c.args.from + 4 * c.loop-i.i in
    let here = inside_here c.args.memory.now.memories c.loop-i.memory.memories s place c.loop-i.invariant.memories c.requires.whole c.requires.inside (omega arith) in
    let base : (s.at + c.args.from) % 4 ≡ 0 = c.requires.aligned (omega arith) in
    let aligned : (s.at + place) % 4 ≡ 0 = omega arith in
    let small : (k : ℕ) → get_or s.bytes k 0 < 2 ^ 8 = λ k. subst (λ (bytes : List ℕ). get_or bytes k 0 < 2 ^ 8) c.as_slice-bytes.ensures (omega (arith, c.type_inv.bytes k)) in
    record {
      left =
          word_step c.loop-i.memory c.write.new.self s place (c.args.from + 4 * (c.loop-i.i + 1)) c.word_at.result (omega arith) c.loop-i.invariant.full here aligned c.requires.holds (omega arith) small
          (c.word_at.ensures ∙ ap (λ (bytes : List ℕ). number_of (take 4 (drop place bytes))) c.as_slice-bytes.ensures) c.write.ensures.stored
          ∙ c.loop-i.invariant.left;
      memories = ap (λ (m : Contents). m.memories) c.write.ensures.stored ∙ c.loop-i.invariant.memories;
      full = c.write.ensures.full;
    }

pub write-requires-clause-inside : goal.write-requires-clause-inside
write-requires-clause-inside c = inside_here c.args.memory.now.memories c.loop-i.memory.memories c.args.segment.now (c.args.from + 4 * c.loop-i.i) c.loop-i.invariant.memories c.requires.whole c.requires.inside (omega arith)
