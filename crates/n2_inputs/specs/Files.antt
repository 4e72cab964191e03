-- Steps of which the first that is refused ends all, and the first of them: a file.
use Rattle.std.specs.Prelude.{ℕ, List, length, Option, Some, None, Result, Ok, Err, nat_lt, if◌then◌else◌}
use Rattle.n2_inputs.specs.declared.refusal.Role.{Role}
use Rattle.n2_inputs.specs.declared.refusal.Refusal.{Refusal}
use Rattle.n2_inputs.specs.declared.refusal.Refusal.TheVariants as refusals
use Rattle.n2_inputs.specs.Refusals.{limit_of}

-- a step, and then the next; the first refusal ends them
infixl 10 ◌>>=◌
abbrev pub ◌>>=◌ : {A B : Type 0} → Result A Refusal → (A → Result B Refusal) → Result B Refusal
(Ok a) >>= f = f a
(Err refusal) >>= f = Err refusal

-- the bytes of a file, where it is there and not too long
abbrev pub file_of : Option (List ℕ) → Role → Result (List ℕ) Refusal
file_of None role = Err (refusals.Absent role)
file_of (Some bytes) role = if nat_lt (limit_of role) (length bytes) then Err (refusals.TooLong role) else Ok bytes
