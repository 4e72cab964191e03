-- What each act of a core keeps.
use Rattle.std.proofs.Common.{◌≡◌, ℕ, ◌^◌, ◌<◌, Bool, true, false, List, length, Option, Some, None, slice_get, slice_set, if◌then◌else◌, refl, sym, ap, subst, arith}
use Rattle.std.proofs.lemmas.Option.{slice_get_within}
use Rattle.n2_word.specs.declared.Width.{Width}
use Rattle.n2_word.specs.declared.Width.TheVariants.{Word}
use Rattle.n2_word.specs.Lines.{without_bypass, line}
use Rattle.n2_elf.specs.declared.image.Image.{Image}
use Rattle.n2_exec.specs.declared.registers.Regs.{Regs}
use Rattle.n2_exec.specs.declared.Outcome.{Outcome}
use Rattle.n2_exec.specs.Registers.{interrupted, is_waiting}
use Rattle.n2_exec.specs.Outcomes.{regs_of, asked_of}
use Rattle.n2_exec.specs.Effect.{effect_of_word}
use Rattle.n2_parts.specs.declared.board.Board.{Board}
use Rattle.n2_parts.specs.Valid.{IsValid}
use Rattle.n2_board.specs.AddressMap.{AddressMap, address_map}
use Rattle.n2_memory.specs.Memories.{read_at}
use Rattle.n2_watch.specs.declared.past.Past.{Past}
use Rattle.n2_watch.specs.declared.access.Access.TheVariants.{Fetch}
use Rattle.n2_watch.specs.Discipline.{Breach, breach}
use Rattle.n2_watch.specs.World.{World}
use Rattle.n2_watch.specs.Kept.{IsKept}
use Rattle.n2_watch.specs.Shapes.{HasBoardShape, HasWorldShape}
use Rattle.n2_watch.proofs.KeptLists.{set_itself}
use Rattle.n2_watch.proofs.KeptSteps.{touch_step, touch_memory, clean_step, access_step}
use Rattle.n2_watch.proofs.KeptWorld.{written_whole, load_kept, store_kept}
use Rattle.n2_front.specs.Front.{Front, with_regs, stopped}
use Rattle.n2_front.specs.Tasks.{Task, Done, Raise, Break, CodeOp, LineOp, Load, Store, LoadPast, StorePast, task_of, task_breach, task_address, stop_for}
use Rattle.n2_front.specs.Retire.{Acted, acted, who, done, judged, performed, executed, with_word, fetched, retired}

-- what an act keeps
abbrev IsActKept : Board → AddressMap → ℕ → List (List Past) → Acted → Type 0
IsActKept b map k pasts a = IsKept b map a.world.book (slice_set pasts k a.front.past)

module _ (b : Board) (images : List Image) (map : AddressMap) (k : ℕ) (w : World) (pasts : List (List Past)) (valid : IsValid b) (is : map ≡ address_map b images) (shape : HasBoardShape b w.book) (lengths : length pasts ≡ length b.core) (h : IsKept b map w.book pasts) where
  same_kept : (past : List Past) → slice_get pasts k ≡ Some past → IsKept b map w.book (slice_set pasts k past)
  same_kept past found = rw (set_itself pasts k past found) h

  done_kept : (f : Front) → slice_get pasts k ≡ Some f.past → (task : Task) → task_breach b map (who b k f w.book) task ≡ None → IsActKept b map k pasts (done b map k f w task)
  done_kept f found Done br = same_kept f.past found
  done_kept f found Raise br = same_kept f.past found
  done_kept f found Break br = same_kept f.past found
  done_kept f found (CodeOp address) br = same_kept f.past found
  done_kept f found (LineOp op address) br = clean_step b map w.book pasts k f.past op address lengths found h
  done_kept f found (Load address width signed to) br = touch_step b map w.book pasts k f.past address false width lengths found br h
  done_kept f found (Store address width value) br = touch_step b map w.book pasts k f.past address true width lengths found br h
  done_kept f found (LoadPast address width signed to) br =
      let lt = slice_get_within pasts k f.past found in
      access_step b images map k w pasts f.past (record { address = address; width = width; stored = None })
      (record { valid = valid; map_is = is; core = omega arith; shape = shape; posted = h.posted; unbroken = br }) lengths found h
  done_kept f found (StorePast address width value) br =
      let lt = slice_get_within pasts k f.past found in
      access_step b images map k w pasts f.past (record { address = address; width = width; stored = Some value })
      (record { valid = valid; map_is = is; core = omega arith; shape = shape; posted = h.posted; unbroken = br }) lengths found h

  judged_kept : (f : Front) → slice_get pasts k ≡ Some f.past → (word : ℕ) (task : Task) (o : Option Breach) → task_breach b map (who b k f w.book) task ≡ o → IsActKept b map k pasts (judged b map k f w word task o)
  judged_kept f found word task None e = done_kept f found task e
  judged_kept f found word task (Some why) e = same_kept f.past found

  executed_kept : (f : Front) → slice_get pasts k ≡ Some f.past → (word : ℕ) (outcome : Outcome) → IsActKept b map k pasts (executed b map k f w word outcome)
  unfolding executed
  executed_kept f found word outcome =
      let g = with_regs f (regs_of f.regs outcome) in
      let task = task_of (asked_of outcome) in
      judged_kept g found word task (task_breach b map (who b k g w.book) task) refl

  fetched_kept : (f : Front) → slice_get pasts k ≡ Some f.past → (o : Option Breach) → IsActKept b map k pasts (fetched b map k f w o)
  fetched_kept f found None = executed_kept f found (read_at w.memory f.regs.pc Word) (effect_of_word f.regs (read_at w.memory f.regs.pc Word))
  fetched_kept f found (Some why) = same_kept f.past found

  waited_kept : (f : Front) → slice_get pasts k ≡ Some f.past → (waits : Bool) (o : Option Breach) → IsActKept b map k pasts (if waits then acted (with_regs f (interrupted f.regs)) w else fetched b map k f w o)
  waited_kept f found true o = same_kept f.past found
  waited_kept f found false o = fetched_kept f found o

pub retired_kept : (b : Board) (images : List Image) (map : AddressMap) (k : ℕ) (f : Front) (w : World) (pasts : List (List Past)) → IsValid b → map ≡ address_map b images → HasBoardShape b w.book → length pasts ≡ length b.core → slice_get pasts k ≡ Some f.past → IsKept b map w.book pasts → IsKept b map (retired b map k f w).world.book (slice_set pasts k (retired b map k f w).front.past)
unfolding retired
retired_kept b images map k f w pasts valid is shape lengths found h =
    waited_kept b images map k w pasts valid is shape lengths h f found (is_waiting f.regs) (breach b map (who b k f w.book) (Fetch f.regs.pc) Word)

pub task_kept : (b : Board) (images : List Image) (map : AddressMap) (k : ℕ) (f : Front) (w : World) (pasts : List (List Past)) (task : Task) → IsValid b → map ≡ address_map b images → HasBoardShape b w.book → length pasts ≡ length b.core → slice_get pasts k ≡ Some f.past → IsKept b map w.book pasts → task_breach b map (who b k f w.book) task ≡ None → IsKept b map (done b map k f w task).world.book (slice_set pasts k (done b map k f w task).front.past)
task_kept b images map k f w pasts task valid is shape lengths found h br = done_kept b images map k w pasts valid is shape lengths h f found task br

-- ---- the shape of what cores share
low_address : (address : ℕ) → without_bypass address < 2 ^ 31
low_address address = omega arith

module _ (b : Board) (images : List Image) (map : AddressMap) (k : ℕ) (w : World) (valid : IsValid b) (is : map ≡ address_map b images) (h : HasWorldShape b w) where
  pub done_shape : (f : Front) (task : Task) → task_breach b map (who b k f w.book) task ≡ None → HasWorldShape b (done b map k f w task).world
  done_shape f Done br = h
  done_shape f Raise br = h
  done_shape f Break br = h
  done_shape f (CodeOp address) br = h
  done_shape f (LineOp op address) br = h
  done_shape f (Load address width signed to) br = h
  done_shape f (Store address width value) br =
      record { memories = h.memories; full = written_whole b w.memory address width value h.full h.memories (touch_memory b images map w.book k f.past address true width valid is br); book = h.book }
  done_shape f (LoadPast address width signed to) br = load_kept b map k w (without_bypass address) width valid h
  done_shape f (StorePast address width value) br = store_kept b map k w (without_bypass address) width value valid (low_address address) h

  judged_shape : (f : Front) (word : ℕ) (task : Task) (o : Option Breach) → task_breach b map (who b k f w.book) task ≡ o → HasWorldShape b (judged b map k f w word task o).world
  judged_shape f word task None e = done_shape f task e
  judged_shape f word task (Some why) e = h

  executed_shape : (f : Front) (word : ℕ) (outcome : Outcome) → HasWorldShape b (executed b map k f w word outcome).world
  unfolding executed
  executed_shape f word outcome =
      let g = with_regs f (regs_of f.regs outcome) in
      let task = task_of (asked_of outcome) in
      judged_shape g word task (task_breach b map (who b k g w.book) task) refl

  fetched_shape : (f : Front) (o : Option Breach) → HasWorldShape b (fetched b map k f w o).world
  fetched_shape f None = executed_shape f (read_at w.memory f.regs.pc Word) (effect_of_word f.regs (read_at w.memory f.regs.pc Word))
  fetched_shape f (Some why) = h

  waited_shape : (f : Front) (waits : Bool) (o : Option Breach) → HasWorldShape b (if waits then acted (with_regs f (interrupted f.regs)) w else fetched b map k f w o).world
  waited_shape f true o = h
  waited_shape f false o = fetched_shape f o

pub retired_shape : (b : Board) (images : List Image) (map : AddressMap) (k : ℕ) (f : Front) (w : World) → IsValid b → map ≡ address_map b images → HasWorldShape b w → HasWorldShape b (retired b map k f w).world
unfolding retired
retired_shape b images map k f w valid is h = waited_shape b images map k w valid is h f (is_waiting f.regs) (breach b map (who b k f w.book) (Fetch f.regs.pc) Word)
