-- What a note keeps: the watch stands for one more event.
use Rattle.std.proofs.Common.{◌≡◌, ℕ, Bool, List, ◌∷◌, Option, None, sym, subst}
use Rattle.n2_word.specs.declared.Width.{Width}
use Rattle.n2_word.specs.Lines.{line}
use Rattle.n2_insn.specs.declared.DataOp.{DataOp}
use Rattle.n2_exec.specs.declared.registers.Regs.{Regs}
use Rattle.n2_parts.specs.declared.board.Board.{Board}
use Rattle.n2_parts.specs.declared.stops.Stop.{Stop}
use Rattle.n2_board.specs.AddressMap.{AddressMap}
use Rattle.n2_watch.specs.declared.past.Past.{Past}
use Rattle.n2_watch.specs.declared.past.Past.TheVariants.{Touch, Clean}
use Rattle.n2_watch.specs.declared.access.Access.TheVariants.{Cached}
use Rattle.n2_watch.specs.Discipline.{breach}
use Rattle.n2_watch.specs.Book.{Book, knowledge}
use Rattle.n2_watch.specs.Watched.{Watched, StandsFor, IsGuardOf}
use Rattle.n2_flat.specs.State.{CoreState, IsWatched, HasSlots}

-- the parts of a core after a note
abbrev pub core_with : Regs → Option Stop → List Past → Watched → CoreState
core_with regs stop past watch = record { front = record { regs = regs; stop = stop; past = past }; watch = watch }

pub watched_on : (b : Board) (map : AddressMap) (k : ℕ) (book : Book) (after : Watched) (past new : List Past) (event : Past) (regs : Regs) (stop : Option Stop) → new ≡ event ∷ past → StandsFor b map k after book (event ∷ past) → IsWatched b map k book (core_with regs stop new after)
watched_on b map k book after past new event regs stop e s = record { stands = subst (λ (p : List Past). StandsFor b map k after book p) (sym e) s }

pub touched_at : (b : Board) (map : AddressMap) (k : ℕ) (book : Book) (before after : Watched) (past : List Past) (number : ℕ) (store : Bool) (address : ℕ) (width : Width) → (StandsFor b map before.core before book past → number ≡ line address → breach b map (knowledge b book before.core past) (Cached address store) width ≡ None → StandsFor b map before.core after book (Touch number store ∷ past)) → StandsFor b map k before book past → number ≡ line address → breach b map (knowledge b book k past) (Cached address store) width ≡ None → StandsFor b map k after book (Touch number store ∷ past)
touched_at b map k book before after past number store address width f h =
    subst (λ (c : ℕ). StandsFor b map c before book past → number ≡ line address → breach b map (knowledge b book c past) (Cached address store) width ≡ None → StandsFor b map c after book (Touch number store ∷ past)) h.core_is f h

pub cleaned_at : (b : Board) (map : AddressMap) (k : ℕ) (book : Book) (before after : Watched) (past : List Past) (op : DataOp) (address : ℕ) → (StandsFor b map before.core before book past → StandsFor b map before.core after book (Clean op address ∷ past)) → StandsFor b map k before book past → StandsFor b map k after book (Clean op address ∷ past)
cleaned_at b map k book before after past op address f h =
    subst (λ (c : ℕ). StandsFor b map c before book past → StandsFor b map c after book (Clean op address ∷ past)) h.core_is f h

-- a watch that stands for something has a slot for each guard
pub has_slots : (b : Board) (map : AddressMap) (k : ℕ) (book : Book) (c : CoreState) → IsWatched b map k book c → HasSlots c.watch
has_slots b map k book c h = λ guard has. (h.stands.slots guard (subst (λ (x : Board). IsGuardOf x guard) h.stands.board has)).1
