-- A line's record is found by the last run that begins at or before the line.
use Rattle.std.proofs.Common.{◌≡◌, ◌≢◌, ◌⊎◌, inl, inr, ℕ, ◌+◌, ◌-◌, ◌<◌, ◌≤◌, List, length, ap, sym, ◌∙◌, subst, arith}
use Rattle.std.proofs.lemmas.Bool.{cases_eq, cases_lt}
use Rattle.n2_watch.specs.declared.records.Record.{Record}
use Rattle.n2_watch.specs.declared.runs.Run.{Run}
use Rattle.n2_watch.specs.Table.{record_at, run_at}
use Rattle.n2_watch.specs.Stands.{AreRuns, IsInRun, IsUnrecorded}

-- the bounds of a search: n runs begin at or before the line
pub record IsUpTo (runs : List Run) (line n : ℕ) : Type 0 where
  pub within : n ≤ length runs
  pub last : 0 < n → (run_at runs (n - 1)).first ≤ line
  pub next : n < length runs → line < (run_at runs n).first

begins_later : (runs : List Run) (records : List Record) → AreRuns runs records → (n k : ℕ) → n ≤ k → k < length runs → (n ≡ k) ⊎ (n ≢ k) → (run_at runs n).first ≤ (run_at runs k).first
begins_later runs records a n k l m (inl e) = let z : (run_at runs n).first ≡ (run_at runs k).first = ap (λ x. (run_at runs x).first) e in omega arith
begins_later runs records a n k l m (inr d) = let r = a.rising n k (omega arith) m in omega arith

is_below : (runs : List Run) (records : List Record) → AreRuns runs records → (line n : ℕ) → IsUpTo runs line n → (k : ℕ) → k < length runs → (run_at runs k).first ≤ line → (k < n) ⊎ (n ≤ k) → k < n
is_below runs records a line n u k l from (inl h) = h
is_below runs records a line n u k l from (inr h) =
    let b = begins_later runs records a n k h l (cases_eq n k) in
    let z = u.next (omega arith) in
    absurd (omega arith)

is_last : (runs : List Run) (records : List Record) → AreRuns runs records → (line n : ℕ) → IsUpTo runs line n → (k : ℕ) → k < n → line < (run_at runs k).first + (run_at runs k).count → (k ≡ n - 1) ⊎ (k ≢ n - 1) → k ≡ n - 1
is_last runs records a line n u k l below (inl e) = e
is_last runs records a line n u k l below (inr d) =
    let r = a.rising k (n - 1) (omega arith) (omega (arith, u.within)) in
    let z = u.last (omega arith) in
    absurd (omega arith)

in_last : (runs : List Run) (records : List Record) → AreRuns runs records → (line n : ℕ) → IsUpTo runs line n → (i : ℕ) → i < length records → (record_at records i).line ≡ line → (0 < n) × IsInRun (run_at runs (n - 1)) i (record_at records i)
in_last runs records a line n u i w e =
    let p = a.has i w in
    let b : p.0 < n = is_below runs records a line n u p.0 p.1 (omega (arith, p.2.from)) (cases_lt p.0 n) in
    let z : p.0 ≡ n - 1 = is_last runs records a line n u p.0 b (omega (arith, p.2.below)) (cases_eq p.0 (n - 1)) in
    (omega arith, subst (λ k. IsInRun (run_at runs k) i (record_at records i)) z p.2)

pub none_begins : (runs : List Run) (records : List Record) → AreRuns runs records → (line n : ℕ) → IsUpTo runs line n → n ≡ 0 → IsUnrecorded records line
none_begins runs records a line n u z i w e = let p = (in_last runs records a line n u i w e).0 in absurd (omega arith)

pub none_there : (runs : List Run) (records : List Record) → AreRuns runs records → (line n : ℕ) → IsUpTo runs line n → (at : ℕ) → at + (run_at runs (n - 1)).first ≡ (run_at runs (n - 1)).at + line → (at < length records → (record_at records at).line ≢ line) → IsUnrecorded records line
none_there runs records a line n u at e d i w f =
    let p = (in_last runs records a line n u i w f).1 in
    let z : i ≡ at = omega (arith, p.place) in
    d (omega arith) (ap (λ j. (record_at records j).line) (sym z) ∙ f)
