-- A line that is dirty or stale may be held.
use Rattle.std.proofs.Common.{◌≡◌, ℕ, Bool, true, false, ◌&&◌, eqb, if◌then◌else◌, List, [], ◌∷◌, refl}
use Rattle.std.proofs.lemmas.Bool.{false≢true}
use Rattle.n2_board.specs.AddressMap.{AddressMap}
use Rattle.n2_watch.specs.declared.past.Past.{Past}
use Rattle.n2_watch.specs.declared.past.Past.TheVariants.{Touch, Clean, Got, Gave}
use Rattle.n2_watch.specs.Past.{covers, guards, may, dirty, stale}

touched_may : (same store d m : Bool) → (d ≡ true → m ≡ true) → (if same && store then true else d) ≡ true → (if same then true else m) ≡ true
touched_may true store d m h e = refl
touched_may false store d m h e = h e

cleaned_may : (covered d m : Bool) → (d ≡ true → m ≡ true) → (if covered then false else d) ≡ true → (if covered then false else m) ≡ true
cleaned_may true d m h e = absurd (false≢true e)
cleaned_may false d m h e = h e

either_may : (same m : Bool) → m ≡ true → (if same then true else m) ≡ true
either_may true m e = refl
either_may false m e = e

got_may : (its m s : Bool) → (s ≡ true → m ≡ true) → (if its then m else s) ≡ true → m ≡ true
got_may true m s h e = e
got_may false m s h e = h e

pub dirty_may : (sets : ℕ) (past : List Past) (number : ℕ) → dirty sets past number ≡ true → may sets past number ≡ true
dirty_may sets [] number e = absurd (false≢true e)
dirty_may sets (Touch touched store ∷ past) number e = touched_may (eqb touched number) store (dirty sets past number) (may sets past number) (dirty_may sets past number) e
dirty_may sets (Clean op address ∷ past) number e = cleaned_may (covers sets op address number) (dirty sets past number) (may sets past number) (dirty_may sets past number) e
dirty_may sets (Got guard ∷ past) number e = dirty_may sets past number e
dirty_may sets (Gave guard ∷ past) number e = dirty_may sets past number e

pub stale_may : (map : AddressMap) (sets : ℕ) (past : List Past) (number : ℕ) → stale map sets past number ≡ true → may sets past number ≡ true
stale_may map sets [] number e = absurd (false≢true e)
stale_may map sets (Touch touched store ∷ past) number e = either_may (eqb touched number) (may sets past number) (stale_may map sets past number e)
stale_may map sets (Clean op address ∷ past) number e = cleaned_may (covers sets op address number) (stale map sets past number) (may sets past number) (stale_may map sets past number) e
stale_may map sets (Got guard ∷ past) number e = got_may (guards map guard number) (may sets past number) (stale map sets past number) (stale_may map sets past number) e
stale_may map sets (Gave guard ∷ past) number e = stale_may map sets past number e
