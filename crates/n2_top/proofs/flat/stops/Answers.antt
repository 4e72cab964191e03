use Rattle.std.proofs.Common.{◌≡◌, ◌+◌, List, ◌∷◌, ◌++◌, [], map, drop, Option, ap, ◌∙◌, arith}
use Rattle.n2_parts.specs.declared.stops.Stop.{Stop}
use Rattle.n2_front.specs.Front.{Front}
use Rattle.n2_watch.proofs.KeptLists.{element_at}
use Rattle.n2_flat.specs.State.{front_of}
use Rattle.n2_report.proofs.Next.{next_made}
use Rattle.n2_top.proofs.flat.stops.Goals as goal

pub loop-k-preserved : goal.loop-k-preserved
loop-k-preserved c =
    let cores = c.args.flat.now.cores in
    let k = c.loop-k.k in
    let n = c.requires.cores in
    let m = c.len-k-end.ensures in
    let core = element_at cores k (omega arith) in
    let stop_of = λ (f : Front). f.stop in
    let items : c.push.new.self.items ≡ c.loop-k.stops.items ++ c.stop.result ∷ [] = c.in_ok-push.ensures.items in
    ap (λ (l : List (Option Stop)). l ++ map stop_of (map front_of (drop (k + 1) cores))) items
    ∙ next_made front_of stop_of cores k core.0 c.loop-k.stops.items c.stop.result (map stop_of (map front_of cores)) core.1 (c.stop.ensures core.0 core.1) c.loop-k.invariant
