use Rattle.std.proofs.Common.{◌≡◌, ℕ, suc, ◌+◌, ◌<◌, ◌++◌, List, length, map, take, drop, slice_get, slice_set, Option, Some, ap, sym, ◌∙◌, subst, arith, add-one}
use Rattle.std.specs.Prelude.{option_map}
use Rattle.std.proofs.lemmas.List.{length-map}
use Rattle.std.proofs.lemmas.Option.{slice_get-map}
use Rattle.n2_cpu.specs.declared.state.State.{State}
use Rattle.n2_journal.specs.Journals.{Limited}
use Rattle.n2_smp.specs.Standing.{locals_of}
use Rattle.n2_smp.proofs.Machines.{indexed}
use Rattle.n2_smp.proofs.Opening.{tail_step}
use Rattle.n2_smp.proofs.machine.set_tails.Goals as goal

pub loop-k-preserved : goal.loop-k-preserved
loop-k-preserved c =
    let h = c.loop-k.invariant in
    let here : slice_get c.args.cores.now c.loop-k.k ≡ Some c.index-cores-k.result = indexed c.args.cores.now c.loop-k.k c.index-cores-k.result c.loop-k-test.true c.index-cores-k.is in
    let mapped : slice_get (locals_of c.args.cores.now) c.loop-k.k ≡ Some c.index-cores-k.result.clock.local = slice_get-map (λ (value : State). value.clock.local) c.args.cores.now c.loop-k.k ∙ ap (option_map (λ (value : State). value.clock.local)) here in
    let many : length (locals_of c.args.cores.now) ≡ length c.args.journal.now.content.tails = simp length-map (sym c.requires.count) in
    let tails : c.set_tail.new.self.content.tails ≡ take (suc c.loop-k.k) (locals_of c.args.cores.now) ++ drop (suc c.loop-k.k) c.args.journal.now.content.tails =
    ap (λ (j : Limited). j.content.tails) c.set_tail.ensures
    ∙ ap (λ (n : ℕ). slice_set c.loop-k.journal.content.tails c.loop-k.k n) c.since_transfer.ensures
    ∙ ap (λ (ns : List ℕ). slice_set ns c.loop-k.k c.index-cores-k.result.clock.local) h.tails
    ∙ tail_step (locals_of c.args.cores.now) c.args.journal.now.content.tails c.loop-k.k c.index-cores-k.result.clock.local many mapped
    in
    record {
      entries = ap (λ (j : Limited). j.content.entries) c.set_tail.ensures ∙ h.entries;
      limit = ap (λ (j : Limited). j.limit) c.set_tail.ensures ∙ h.limit;
      tails = rw (add-one c.loop-k.k) tails;
    }
