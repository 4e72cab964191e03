use Rattle.std.proofs.Common.{◌≡◌, ◌+◌, List, ◌∷◌, ◌++◌, [], map, drop, ap, ◌∙◌, arith}
use Rattle.n2_exec.specs.declared.registers.Regs.{Regs}
use Rattle.n2_watch.proofs.KeptLists.{element_at}
use Rattle.n2_flat.specs.State.{front_of}
use Rattle.n2_report.specs.declared.ends.CoreEnd.{CoreEnd}
use Rattle.n2_report.specs.OfFlat.{end_of}
use Rattle.n2_report.proofs.Next.{next_made}
use Rattle.n2_report.proofs.of_flat.core_ends.Goals as goal

pub loop-k-preserved : goal.loop-k-preserved
loop-k-preserved c =
    let cores = c.args.flat.now.cores in
    let k = c.loop-k.k in
    let n = c.requires.cores in
    let m = c.len-k-end.ensures in
    let core = element_at cores k (omega arith) in
    let end : CoreEnd = record { regs = c.regs.result; stop = c.stop.result } in
    let is : end ≡ end_of (front_of core.0) = ap (λ (r : Regs). record { regs = r; stop = c.stop.result }) (c.regs.ensures core.0 core.1) ∙ ap (λ s. record { regs = core.0.front.regs; stop = s }) (c.stop.ensures core.0 core.1) in
    let items : c.push.new.self.items ≡ c.loop-k.ends.items ++ end ∷ [] = c.in_ok-push.ensures.items in
    ap (λ (l : List CoreEnd). l ++ map end_of (map front_of (drop (k + 1) cores))) items
    ∙ next_made front_of end_of cores k core.0 c.loop-k.ends.items end (map end_of (map front_of cores)) core.1 is c.loop-k.invariant
