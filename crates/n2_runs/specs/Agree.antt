-- When the caching machine and the flat machine agree.
use Rattle.std.specs.Prelude.{◌≡◌, ℕ, List, length, map, slice_get, Some, None, Bool, true, false, IsTrue, ◌&&◌, ◌||◌}
use Rattle.n2_parts.specs.declared.board.Board.{Board}
use Rattle.n2_parts.specs.MemoryLines.{HasLine}
use Rattle.n2_board.specs.declared.classes.Class.{Class}
use Rattle.n2_board.specs.declared.classes.Class.TheVariants as classes
use Rattle.n2_board.specs.declared.guards.Guard.{Guard}
use Rattle.n2_board.specs.AddressMap.{AddressMap, class_of}
use Rattle.n2_board.specs.Guards.{guard_of}
use Rattle.n2_dcache.specs.declared.Held.{Held}
use Rattle.n2_dcache.specs.Cache.{slot_at, own_set, has_line, held_line, is_dirty}
use Rattle.n2_memory.specs.Memories.{Contents, line_at}
use Rattle.n2_watch.specs.declared.past.Past.{Past}
use Rattle.n2_watch.specs.Past.{may, dirty, stale}
use Rattle.n2_watch.specs.Book.{Book, owned_by, sets_of}
use Rattle.n2_watch.specs.Kept.{may_write, IsKept}
use Rattle.n2_front.specs.Front.{Front}
use Rattle.n2_front.specs.Core.{Core}
use Rattle.n2_runs.specs.Machine.{Machine}
use Rattle.n2_runs.specs.FlatRun.{Flat}

abbrev pub is_code : Class → Bool
is_code classes.Code = true
is_code _ = false

-- a core may read a line of a class through its cache now
abbrev pub may_read : Class → ℕ → (Guard → Bool) → Bool
may_read class core own = is_code class || may_write class core own

-- a core holds a line dirty
abbrev pub holds_dirty : Core → ℕ → Bool
holds_dirty c line = has_line c.data_slots line && is_dirty (slot_at c.data_slots (own_set c.data_slots line))

-- a data line that a core holds: where the core may read it and it has no guard or is not stale, it has the flat memory's words; it was
-- touched and not cleaned since, by a store where it is dirty
pub record IsHeldWell (b : Board) (map : AddressMap) (book : Book) (memory : Contents) (core : ℕ) (past : List Past) (held : Held) : Type 0 where
  pub inside : HasLine b.memory held.line
  pub words : IsTrue (may_read (class_of map held.line) core (owned_by b book core)) → stale map (sets_of b core) past held.line ≡ false → held.words ≡ line_at memory held.line
  pub unguarded_words : IsTrue (may_read (class_of map held.line) core (owned_by b book core)) → guard_of (class_of map held.line) ≡ None → held.words ≡ line_at memory held.line
  pub may_be : IsTrue (may (sets_of b core) past held.line)
  pub dirty_is : IsTrue held.dirty → IsTrue (dirty (sets_of b core) past held.line)

-- a code line that a core holds is of class Code and has the flat memory's words
pub record IsCodeWell (map : AddressMap) (memory : Contents) (held : Held) : Type 0 where
  pub class : IsTrue (is_code (class_of map held.line))
  pub words : held.words ≡ line_at memory held.line
  pub clean : held.dirty ≡ false

pub record IsCoreWell (b : Board) (map : AddressMap) (book : Book) (memory : Contents) (core : ℕ) (c : Core) : Type 0 where
  pub sets : length c.data_slots ≡ sets_of b core
  pub held : (line : ℕ) (h : Held) → held_line c.data_slots line ≡ Some h → IsHeldWell b map book memory core c.front.past h
  pub code : (line : ℕ) (h : Held) → held_line c.code_slots line ≡ Some h → IsCodeWell map memory h

abbrev pub fronts_of : List Core → List Front
fronts_of cores = map (λ (c : Core). c.front) cores

abbrev pub pasts_of : List Front → List (List Past)
pasts_of fronts = map (λ (f : Front). f.past) fronts

-- the machine with caches and the flat machine, which were started with the same memory
pub record Agree (b : Board) (g : AddressMap) (first : Contents) (m : Machine) (f : Flat) : Type 0 where
  -- registers, stops and past events
  pub fronts : f.cores ≡ fronts_of m.cores
  pub book : f.world.book ≡ m.world.book
  -- a line that no core holds dirty has the same words in both memories
  pub memory : (line : ℕ) → HasLine b.memory line → ((core : ℕ) (c : Core) → slice_get m.cores core ≡ Some c → holds_dirty c line ≡ false) → line_at m.world.memory line ≡ line_at f.world.memory line
  pub cores : (core : ℕ) (c : Core) → slice_get m.cores core ≡ Some c → IsCoreWell b g m.world.book f.world.memory core c
  pub kept : IsKept b g m.world.book (pasts_of f.cores)
  -- lines of code are as they were at the start
  pub code_lines : (line : ℕ) → HasLine b.memory line → IsTrue (is_code (class_of g line)) → line_at f.world.memory line ≡ line_at first line
