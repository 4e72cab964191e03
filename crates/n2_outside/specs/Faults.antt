-- Counts of faults.
use Rattle.std.specs.Prelude.{◌≡◌, ℕ, ◌+◌, ◌-◌, ◌^◌, ◌≤◌, min, Bool, Result, OnOk, OnErr, if◌then◌else◌}

-- the count after one more, which stands still at its type's end
abbrev pub next : ℕ → ℕ
next count = min (count + 1) (2 ^ 64 - 1)

-- the count after a call that failed, or did not
abbrev pub counted : Bool → ℕ → ℕ
counted failed count = if failed then next count else count

-- a count that was before has risen, or stands at its end
abbrev pub Rose : ℕ → ℕ → Type 0
Rose before now = next before ≤ now

-- a count never falls: it has risen where the call failed, and is as it was where it did not
pub record HasCause {T E : Type 0} (before now : ℕ) (result : Result T E) : Type 0 where
  pub later : before ≤ now
  pub failed : OnErr result (Rose before now)
  pub kept : OnOk result (now ≡ before)
