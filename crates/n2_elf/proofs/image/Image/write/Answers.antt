use Rattle.std.proofs.Common.{◌≡◌, ◌<◌, ◌^◌, List, rules, ap, subst, ◌∙◌, arith}
use Rattle.std.specs.List.{All}
use Rattle.n2_elf.specs.declared.image.Segment.{Segment}
use Rattle.n2_elf.specs.Reading.{elf}
use Rattle.n2_elf.specs.Writing.{file_of}
use Rattle.n2_elf.proofs.Again.{HasWords, file-again}
use Rattle.n2_elf.proofs.image.Image.write.Goals as goal

pub returns-clause-reads_back : goal.returns-clause-reads_back
unfolding file_of
returns-clause-reads_back c =
    let same : c.put_contents.new.out.items ≡ file_of c.args.self.now = search rules in
    let entry : c.args.self.now.entry < 2 ^ 32 = omega arith in
    let words = subst (λ (segments : List Segment). All HasWords segments) c.as_slice-segments.ensures c.in_ok-put_programs.ensures.words in
    ap elf same ∙ file-again c.args.self.now c.requires entry words
