use Rattle.std.proofs.Common.{◌≡◌, ℕ, List, length, ap, sym, ◌∙◌, subst}
use Rattle.n2_cpu.specs.declared.state.State.{State}
use Rattle.n2_journal.specs.Journals.{Limited}
use Rattle.n2_runs.specs.Machine.{Machine}
use Rattle.n2_smp.specs.declared.machine.Ran.{Ran}
use Rattle.n2_smp.specs.Standing.{Parts, StandsFor, RanStandsFor, locals_of}
use Rattle.n2_smp.proofs.Opening.{ran_stands}
use Rattle.n2_smp.proofs.machine.Machine.finish.Goals as goal

pub returns : goal.returns
returns c =
    let journal : c.set_tails.new.journal ≡ record { content = record { entries = c.self.inside.journal.content.entries; tails = locals_of c.self.inside.cores.items }; limit = c.self.inside.journal.limit } =
    c.set_tails.ensures ∙ ap (λ (xs : List State). record { content = record { entries = c.self.inside.journal.content.entries; tails = locals_of xs }; limit = c.self.inside.journal.limit }) c.as_slice.ensures.value
    in
    subst (λ (v : Parts). (m : Machine) → StandsFor v m → length m.cores ≡ length v.board.core → RanStandsFor v.board v.map (record { cores = c.from_vec.result; bus = c.self.inside.bus; journal = c.set_tails.new.journal }) m) c.self.view_is
    (λ m h many.
    subst (λ (xs : List State). RanStandsFor c.self.inside.board c.self.inside.layout (record { cores = xs; bus = c.self.inside.bus; journal = c.set_tails.new.journal }) m) (sym c.from_vec.ensures)
    (subst (λ (j : Limited). RanStandsFor c.self.inside.board c.self.inside.layout (record { cores = c.self.inside.cores.items; bus = c.self.inside.bus; journal = j }) m) (sym journal)
    (ran_stands _ c.self.invariant m h many)))
