-- What quotients of words are as integers.
use Rattle.std.specs.Prelude.{◌≡◌, ◌<◌, unsigned_abs, ℤ, pos, ◌+ℤ◌, ◌*ℤ◌, ◌≤ℤ◌}

-- q is x divided by y towards zero: what is left of x is smaller than y, and has the sign of x where it is not 0
pub record IsQuotient (x y q : ℤ) : Type 0 where
  pub rest : ℤ
  pub whole : (q *ℤ y) +ℤ rest ≡ x
  pub small : unsigned_abs rest < unsigned_abs y
  pub above : pos 0 ≤ℤ x → pos 0 ≤ℤ rest
  pub under : x ≤ℤ pos 0 → rest ≤ℤ pos 0
