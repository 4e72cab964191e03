-- Lists that memory was taken for.
use Rattle.std.specs.Prelude.{ℕ, List}

-- a list, and how many items memory was taken for
pub record WithRoom (T : Type 0) : Type 0 where
  pub items : List T
  pub room : ℕ
