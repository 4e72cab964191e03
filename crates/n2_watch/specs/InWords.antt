-- The same in words: a Touch of the line, no later Clean that covers it, and for a stale line a later Got of its guard.
use Rattle.std.specs.Prelude.{◌≡◌, ℕ, List, [], ◌∷◌, ◌++◌, Bool, false, IsTrue}
use Rattle.n2_board.specs.declared.guards.Guard.{Guard}
use Rattle.n2_board.specs.AddressMap.{AddressMap}
use Rattle.n2_watch.specs.declared.past.Past.{Past}
use Rattle.n2_watch.specs.declared.past.Past.TheVariants.{Touch, Clean, Got, Gave}
use Rattle.n2_watch.specs.Past.{covers, guards}

-- none of some events is a Clean that covers the line
abbrev pub NoneCleans : ℕ → ℕ → List Past → Type 0
NoneCleans sets number [] = Unit {0}
NoneCleans sets number (Touch touched store ∷ past) = NoneCleans sets number past
NoneCleans sets number (Clean op address ∷ past) = (covers sets op address number ≡ false) × NoneCleans sets number past
NoneCleans sets number (Got guard ∷ past) = NoneCleans sets number past
NoneCleans sets number (Gave guard ∷ past) = NoneCleans sets number past

-- the events of a list before and after a Touch of the line, none of which after it is a Clean that covers the line
pub record IsTouched (sets : ℕ) (past : List Past) (number : ℕ) (store : Bool) : Type 0 where
  pub later : List Past
  pub earlier : List Past
  pub parts : past ≡ later ++ Touch number store ∷ earlier
  pub uncleaned : NoneCleans sets number later

-- a Got of the line's guard, with no later Clean that covers the line, and a Touch of the line before it that none
-- cleaned
pub record IsTouchedBeforeGot (map : AddressMap) (sets : ℕ) (past : List Past) (number : ℕ) : Type 0 where
  pub guard : Guard
  pub its_guard : IsTrue (guards map guard number)
  pub later : List Past
  pub earlier : List Past
  pub parts : past ≡ later ++ Got guard ∷ earlier
  pub uncleaned : NoneCleans sets number later
  pub store : Bool
  pub touched : IsTouched sets earlier number store
