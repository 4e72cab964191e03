use Rattle.std.proofs.Common.{◌≡◌, ◌++◌, ◌-◌}
use Rattle.n2_order.specs.Choices.{words_of}
use Rattle.n2_make.specs.Programs.{sections, behind}
use Rattle.n2_make.proofs.programs.put_sections.Given as goal

abbrev pub invariant-loop-i : goal.invariant-loop-i
invariant-loop-i l =
    (l.out.items ++ sections (words_of (l.n - l._i) l.generator) ≡ l.initial.out.items ++ sections (words_of l.n l.initial.generator))
    × (behind (l.n - l._i) l.generator ≡ behind l.n l.initial.generator)
