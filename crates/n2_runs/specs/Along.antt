-- The machine with caches beside the flat machine along a run: what agrees, told by the sets of each cache, and the shape that a board
-- gives all that changes.
use Rattle.std.specs.Prelude.{◌≡◌, ℕ, ◌%◌, List, length, slice_get, Option, Some, None, Bool, true, false, ◌&&◌}
use Rattle.n2_parts.specs.declared.board.Board.{Board}
use Rattle.n2_parts.specs.declared.board.MemoryRow.{MemoryRow}
use Rattle.n2_parts.specs.declared.stops.Act.{Act}
use Rattle.n2_parts.specs.MemoryLines.{HasLine}
use Rattle.n2_board.specs.declared.guards.Guard.{Guard}
use Rattle.n2_board.specs.AddressMap.{AddressMap, class_of}
use Rattle.n2_dcache.specs.declared.Held.{Held}
use Rattle.n2_dcache.specs.Cache.{slot_at, is_line, is_dirty}
use Rattle.n2_memory.specs.Memories.{Contents, IsFull, line_at}
use Rattle.n2_watch.specs.declared.past.Past.{Past}
use Rattle.n2_watch.specs.Past.{may, dirty, stale}
use Rattle.n2_watch.specs.Book.{owned_by, sets_of}
use Rattle.n2_watch.specs.Kept.{IsKept}
use Rattle.n2_watch.specs.Shapes.{HasBoardShape}
use Rattle.n2_front.specs.Core.{Core}
use Rattle.n2_runs.specs.Machine.{Machine}
use Rattle.n2_runs.specs.FlatRun.{Flat, act}
use Rattle.n2_runs.specs.Agree.{is_code, may_read, fronts_of, pasts_of}

-- full memories with these rows
pub record IsOf (rows : List MemoryRow) (m : Contents) : Type 0 where
  pub rows_are : m.memories ≡ rows
  pub full : IsFull m

-- a line that a set holds dirty
abbrev pub dirty_in : Option Held → ℕ → Bool
dirty_in o l = is_line o l && is_dirty o

unfoldable pub dirty_at : ℕ → List (Option Held) → ℕ → Bool
dirty_at sets slots l = dirty_in (slot_at slots (l % sets)) l

-- what a set holds: where the core may read it and it is not stale it has the flat memory's words
pub record IsSlotWell (b : Board) (map : AddressMap) (own : Guard → Bool) (flat : Contents) (k sets : ℕ) (past : List Past) (s : ℕ) (e : Held) : Type 0 where
  pub place : e.line % sets ≡ s
  pub inside : HasLine b.memory e.line
  pub words : may_read (class_of map e.line) k own ≡ true → stale map sets past e.line ≡ false → e.words ≡ line_at flat e.line
  pub may_be : may sets past e.line ≡ true
  pub dirty_is : e.dirty ≡ true → dirty sets past e.line ≡ true

pub record IsOwnWell (b : Board) (map : AddressMap) (own : Guard → Bool) (flat : Contents) (k sets : ℕ) (slots : List (Option Held)) (past : List Past) : Type 0 where
  pub sets_are : length slots ≡ sets
  pub held : (s : ℕ) (e : Held) → slot_at slots s ≡ Some e → IsSlotWell b map own flat k sets past s e

-- a code line that a set holds
pub record IsCodeHeld (b : Board) (map : AddressMap) (flat : Contents) (e : Held) : Type 0 where
  pub inside : HasLine b.memory e.line
  pub class : is_code (class_of map e.line) ≡ true
  pub words : e.words ≡ line_at flat e.line
  pub clean : e.dirty ≡ false

abbrev pub AreCodesWell : Board → AddressMap → Contents → List (Option Held) → Type 0
AreCodesWell b map flat codes = (s : ℕ) (e : Held) → slot_at codes s ≡ Some e → IsCodeHeld b map flat e

-- the machines along a run: they agree, and all has the shape that the board gives. `first` is the memory at the start
pub record IsAlong (b : Board) (map : AddressMap) (first : Contents) (m : Machine) (f : Flat) : Type 0 where
  pub fronts : f.cores ≡ fronts_of m.cores
  pub book_is : f.world.book ≡ m.world.book
  pub count : length m.cores ≡ length b.core
  pub mem_of : IsOf b.memory m.world.memory
  pub flat_of : IsOf b.memory f.world.memory
  pub shape : HasBoardShape b m.world.book
  pub memory : (l : ℕ) → HasLine b.memory l → ((j : ℕ) (c : Core) → slice_get m.cores j ≡ Some c → dirty_at (sets_of b j) c.data_slots l ≡ false) → line_at m.world.memory l ≡ line_at f.world.memory l
  pub cores : (j : ℕ) (c : Core) → slice_get m.cores j ≡ Some c → IsOwnWell b map (owned_by b m.world.book j) f.world.memory j (sets_of b j) c.data_slots c.front.past
  pub codes : (j : ℕ) (c : Core) → slice_get m.cores j ≡ Some c → AreCodesWell b map f.world.memory c.code_slots
  pub kept : IsKept b map m.world.book (pasts_of f.cores)
  pub code_lines : (l : ℕ) → HasLine b.memory l → is_code (class_of map l) ≡ true → line_at f.world.memory l ≡ line_at first l

-- the flat machine after the act of a turn
abbrev pub after : Board → AddressMap → Flat → Option Act → Flat
after b map f None = f
after b map f (Some made) = act b map f made
