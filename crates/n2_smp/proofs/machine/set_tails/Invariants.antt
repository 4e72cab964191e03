use Rattle.std.proofs.Common.{◌≡◌, ◌++◌, length, take, drop}
use Rattle.n2_smp.specs.Standing.{locals_of}
use Rattle.n2_smp.proofs.machine.set_tails.Given as goal

abbrev pub invariant-loop-k : goal.invariant-loop-k
invariant-loop-k l = record { entries : l.journal.content.entries ≡ l.initial.journal.content.entries; limit : l.journal.limit ≡ l.initial.journal.limit; tails : l.journal.content.tails ≡ take l.k (locals_of l.cores) ++ drop l.k l.initial.journal.content.tails }
