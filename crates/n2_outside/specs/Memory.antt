-- What a folder and a sink in memory hold.
use Rattle.std.specs.Prelude.{ℕ, List}
use Rattle.n2_outside.specs.Files.{Files}

-- a folder: its files, the numbers of the calls that fail, and how many calls and faults there were
pub record FolderState : Type 0 where
  pub files : Files
  pub failing : List ℕ
  pub calls : ℕ
  pub faults : ℕ

-- a sink: its bytes, the numbers of the puts that fail, the most that a put takes, its room in bytes, and how many puts and faults there were
pub record SinkState : Type 0 where
  pub bytes : List ℕ
  pub failing : List ℕ
  pub most : ℕ
  pub room : ℕ
  pub puts : ℕ
  pub faults : ℕ
