use Rattle.std.proofs.Common.{◌≡◌, ℕ, ◌<◌, List, [], map, subst, sym, ap, ◌∙◌}
use Rattle.n2_front.specs.Front.{Front}
use Rattle.n2_flat.specs.State.{machine_of}
use Rattle.n2_report.specs.Stops.{status_of}
use Rattle.n2_report.specs.OfFlat.{flat_report}
use Rattle.n2_top.proofs.Acts.{small_status}
use Rattle.n2_top.proofs.flat.answer_of.Goals as goal

pub returns-clause-answer : goal.returns-clause-answer
returns-clause-answer c =
    let b = c.args.board.now in
    let m = machine_of c.args.flat.now in
    let status : c.status.result ≡ status_of (map (λ (f : Front). f.stop) m.cores) = c.status.ensures ∙ ap status_of (c.deref.ensures.value ∙ c.in_ok-stops.ensures) in
    let report : c.from_vec.result ≡ flat_report b m = c.from_vec.ensures ∙ c.in_ok-report.ensures in
    ap (λ (n : ℕ). record { status = n; journal = c.new.result; report = c.from_vec.result }) status
    ∙ ap (λ (j : List ℕ). record { status = status_of (map (λ (f : Front). f.stop) m.cores); journal = j; report = c.from_vec.result }) c.new.ensures
    ∙ ap (λ (r : List ℕ). record { status = status_of (map (λ (f : Front). f.stop) m.cores); journal = []; report = r }) report

pub returns-clause-status : goal.returns-clause-status
returns-clause-status c = subst (λ (n : ℕ). n < 3) (sym c.status.ensures) (small_status c.deref.result.now)
