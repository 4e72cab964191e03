use Rattle.std.proofs.Common.{◌≡◌, map, drop}
use Rattle.std.specs.Prelude.{string_bytes}
use Rattle.n2_outside.specs.Files.{file_at}
use Rattle.n2_outside.proofs.memory.find.Given as goal

abbrev pub invariant-loop-file : goal.invariant-loop-file
invariant-loop-file l = file_at (map (λ file. (string_bytes file.0, file.1.items)) (drop l.file-index l.files)) l.name ≡ file_at (map (λ file. (string_bytes file.0, file.1.items)) l.files) l.name
