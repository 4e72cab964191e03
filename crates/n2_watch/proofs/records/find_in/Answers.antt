use Rattle.std.proofs.Common.{◌≡◌, ◌<◌, ◌≤◌, ◌+◌, ◌-◌, length, arith, true, false}
use Rattle.n2_watch.specs.Table.{run_at, record_at}
use Rattle.n2_watch.proofs.Finding.{IsUpTo, none_begins, none_there}
use Rattle.n2_watch.proofs.records.find_in.Goals as goal

pub returns-then-behind-eq0-clause-missing : goal.returns-then-behind-eq0-clause-missing
returns-then-behind-eq0-clause-missing c = λ a.
    let e = c.up_to-behind.ensures in
    let u : IsUpTo c.args.runs.now c.args.line c.up_to-behind.result = record { within = e.within; last = e.last; next = e.next } in
    none_begins c.args.runs.now c.args.records.now a c.args.line c.up_to-behind.result u c.if-behind-eq0.true

pub returns-else-is_at-clause-missing : goal.returns-else-is_at-clause-missing
returns-else-is_at-clause-missing c = λ a.
    let e = c.up_to-behind.ensures in
    let u : IsUpTo c.args.runs.now c.args.line c.up_to-behind.result = record { within = e.within; last = e.last; next = e.next } in
    let r = run_at c.args.runs.now (c.up_to-behind.result - 1) in
    let from : r.first ≤ c.args.line = e.last (omega arith) in
    let no : (r.at + (c.args.line - r.first) < length c.args.records.now) → ((record_at c.args.records.now (r.at + (c.args.line - r.first))).line ≡ c.args.line) → ⊥ = λ l f. (let z : c.is_at.result ≡ true = c.is_at.ensures.1 (l, f) in let y : c.is_at.result ≡ false = c.if-is_at.false in absurd (cc)) in
    none_there c.args.runs.now c.args.records.now a c.args.line c.up_to-behind.result u (r.at + (c.args.line - r.first)) (omega arith) no
