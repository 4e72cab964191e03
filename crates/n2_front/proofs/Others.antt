-- What each act of a core leaves to the others, and which lines of memory it leaves.
use Rattle.std.proofs.Common.{◌≡◌, ◌≢◌, ℕ, ◌<◌, Bool, true, false, List, length, Option, Some, None, slice_get, if◌then◌else◌, refl, sym, ap, ◌∙◌, arith}
use Rattle.std.proofs.lemmas.Bool.{true≢false}
use Rattle.n2_word.specs.declared.Width.{Width}
use Rattle.n2_word.specs.declared.Width.TheVariants.{Word}
use Rattle.n2_word.specs.Lines.{without_bypass, line}
use Rattle.n2_elf.specs.declared.image.Image.{Image}
use Rattle.n2_exec.specs.declared.Outcome.{Outcome}
use Rattle.n2_exec.specs.Registers.{interrupted, is_waiting}
use Rattle.n2_exec.specs.Outcomes.{regs_of, asked_of}
use Rattle.n2_exec.specs.Effect.{effect_of_word}
use Rattle.n2_parts.specs.declared.board.Board.{Board}
use Rattle.n2_parts.specs.declared.board.MailboxRow.{MailboxRow}
use Rattle.n2_parts.specs.MemoryLines.{HasLine}
use Rattle.n2_parts.specs.Valid.{IsValid}
use Rattle.n2_board.specs.declared.classes.Class.TheVariants as classes
use Rattle.n2_board.specs.declared.guards.Guard.{Guard}
use Rattle.n2_board.specs.AddressMap.{AddressMap, address_map, class_of}
use Rattle.n2_memory.specs.Memories.{read_at, line_at}
use Rattle.n2_watch.specs.declared.past.Past.{Past}
use Rattle.n2_watch.specs.declared.access.Access.{Access}
use Rattle.n2_watch.specs.declared.access.Access.TheVariants.{Fetch}
use Rattle.n2_watch.specs.Discipline.{Breach, breach}
use Rattle.n2_watch.specs.Book.{Book, owned_by, pointer_of, knowledge}
use Rattle.n2_watch.specs.World.{World}
use Rattle.n2_watch.specs.Kept.{IsPosted, may_write}
use Rattle.n2_watch.specs.Shapes.{HasBoardShape, HasWorldShape, BypassAccess, IsLetPast, accessed}
use Rattle.n2_watch.proofs.KeptTransfers.{exchange}
use Rattle.n2_watch.proofs.KeptJudgement.{same_judgement}
use Rattle.n2_watch.proofs.KeptMemory.{other_written, store_line, load_line}
use Rattle.n2_watch.proofs.KeptPast.{passes}
use Rattle.n2_watch.proofs.KeptSteps.{touch_memory}
use Rattle.n2_front.specs.Front.{Front, with_regs}
use Rattle.n2_front.specs.Tasks.{Task, Done, Raise, Break, CodeOp, LineOp, Load, Store, LoadPast, StorePast, task_of, task_breach}
use Rattle.n2_front.specs.Retire.{Acted, acted, who, done, judged, executed, fetched, retired}

-- what an act of core k leaves to the others
pub record IsLeft (b : Board) (k : ℕ) (before after : Book) : Type 0 where
  pub guards : (j : ℕ) (guard : Guard) → j < length b.core → j ≢ k → owned_by b after j guard ≡ owned_by b before j guard
  pub pointers : (index : ℕ) (row : MailboxRow) → slice_get b.mailbox index ≡ Some row → row.sender ≢ k → pointer_of after index ≡ pointer_of before index

all_left : (b : Board) (k : ℕ) (book : Book) → IsLeft b k book book
all_left b k book = record { guards = λ j guard lt n. refl; pointers = λ index row e n. refl }

module _ (b : Board) (images : List Image) (map : AddressMap) (k : ℕ) (w : World) (valid : IsValid b) (is : map ≡ address_map b images) (klt : k < length b.core) (shape : HasBoardShape b w.book) (posted : IsPosted map w.book) where
  past_left : (f : Front) (access : BypassAccess) → IsLetPast b images map k w f.past access → IsLeft b k w.book (accessed b map k w access).world.book
  past_left f access h = let x = exchange b images map k w f.past access h in record { guards = x.others; pointers = x.pointers }

  pub done_left : (f : Front) (task : Task) → task_breach b map (who b k f w.book) task ≡ None → IsLeft b k w.book (done b map k f w task).world.book
  done_left f Done br = all_left b k w.book
  done_left f Raise br = all_left b k w.book
  done_left f Break br = all_left b k w.book
  done_left f (CodeOp address) br = all_left b k w.book
  done_left f (LineOp op address) br = all_left b k w.book
  done_left f (Load address width signed to) br = all_left b k w.book
  done_left f (Store address width value) br = all_left b k w.book
  done_left f (LoadPast address width signed to) br = past_left f (record { address = address; width = width; stored = None }) (record { valid = valid; map_is = is; core = klt; shape = shape; posted = posted; unbroken = br })
  done_left f (StorePast address width value) br = past_left f (record { address = address; width = width; stored = Some value }) (record { valid = valid; map_is = is; core = klt; shape = shape; posted = posted; unbroken = br })

  judged_left : (f : Front) (word : ℕ) (task : Task) (o : Option Breach) → task_breach b map (who b k f w.book) task ≡ o → IsLeft b k w.book (judged b map k f w word task o).world.book
  judged_left f word task None e = done_left f task e
  judged_left f word task (Some why) e = all_left b k w.book

  executed_left : (f : Front) (word : ℕ) (outcome : Outcome) → IsLeft b k w.book (executed b map k f w word outcome).world.book
  unfolding executed
  executed_left f word outcome =
      let g = with_regs f (regs_of f.regs outcome) in
      let task = task_of (asked_of outcome) in
      judged_left g word task (task_breach b map (who b k g w.book) task) refl

  fetched_left : (f : Front) (o : Option Breach) → IsLeft b k w.book (fetched b map k f w o).world.book
  fetched_left f None = executed_left f (read_at w.memory f.regs.pc Word) (effect_of_word f.regs (read_at w.memory f.regs.pc Word))
  fetched_left f (Some why) = all_left b k w.book

  waited_left : (f : Front) (waits : Bool) (o : Option Breach) → IsLeft b k w.book (if waits then acted (with_regs f (interrupted f.regs)) w else fetched b map k f w o).world.book
  waited_left f true o = all_left b k w.book
  waited_left f false o = fetched_left f o

  retired_left : (f : Front) → IsLeft b k w.book (retired b map k f w).world.book
  unfolding retired
  retired_left f = waited_left f (is_waiting f.regs) (breach b map (who b k f w.book) (Fetch f.regs.pc) Word)

pub guards_left : (b : Board) (images : List Image) (map : AddressMap) (k : ℕ) (f : Front) (w : World) → IsValid b → map ≡ address_map b images → k < length b.core → HasBoardShape b w.book → IsPosted map w.book → (j : ℕ) → j < length b.core → j ≢ k → (guard : Guard) → owned_by b (retired b map k f w).world.book j guard ≡ owned_by b w.book j guard
guards_left b images map k f w valid is klt shape posted j jlt n guard = (retired_left b images map k w valid is klt shape posted f).guards j guard jlt n

pub pointers_left : (b : Board) (images : List Image) (map : AddressMap) (k : ℕ) (f : Front) (w : World) → IsValid b → map ≡ address_map b images → k < length b.core → HasBoardShape b w.book → IsPosted map w.book → (index : ℕ) (row : MailboxRow) → slice_get b.mailbox index ≡ Some row → row.sender ≢ k → pointer_of (retired b map k f w).world.book index ≡ pointer_of w.book index
pointers_left b images map k f w valid is klt shape posted index row e n = (retired_left b images map k w valid is klt shape posted f).pointers index row e n

pub judgement_left : (b : Board) (images : List Image) (map : AddressMap) (k : ℕ) (f : Front) (w : World) → IsValid b → map ≡ address_map b images → k < length b.core → HasBoardShape b w.book → IsPosted map w.book → (j : ℕ) → j < length b.core → j ≢ k → (past : List Past) (access : Access) (width : Width) → breach b map (knowledge b (retired b map k f w).world.book j past) access width ≡ breach b map (knowledge b w.book j past) access width
judgement_left b images map k f w valid is klt shape posted j jlt n =
    let left = retired_left b images map k w valid is klt shape posted f in
    same_judgement b map w.book (retired b map k f w).world.book j (λ guard. left.guards j guard jlt n) (λ index row found sends. left.pointers index row found (λ e. n (sym sends ∙ e)))

-- ---- lines of memory that are neither uncached nor for the core to write
module _ (b : Board) (images : List Image) (map : AddressMap) (k : ℕ) (w : World) (number : ℕ) (valid : IsValid b) (is : map ≡ address_map b images) (h : HasWorldShape b w) (there : HasLine b.memory number) (cached : class_of map number ≢ classes.Uncached) (foreign : may_write (class_of map number) k (owned_by b w.book k) ≡ false) where
  pub done_line : (f : Front) (task : Task) → task_breach b map (who b k f w.book) task ≡ None → line_at (done b map k f w task).world.memory number ≡ line_at w.memory number
  done_line f Done br = refl
  done_line f Raise br = refl
  done_line f Break br = refl
  done_line f (CodeOp address) br = refl
  done_line f (LineOp op address) br = refl
  done_line f (Load address width signed to) br = refl
  done_line f (Store address width value) br =
      let p = passes b map (who b k f w.book) address width true br in
      other_written b w.memory address width value number h.full h.memories (touch_memory b images map w.book k f.past address true width valid is br) there
      (λ same. true≢false (sym (p.owned refl) ∙ ap (λ (n : ℕ). may_write (class_of map n) k (owned_by b w.book k)) (sym same) ∙ foreign))
  done_line f (LoadPast address width signed to) br = load_line b valid map k w f.past h number there cached (without_bypass address) width
  done_line f (StorePast address width value) br = store_line b valid map k w f.past h number there cached images is address value width br

  judged_line : (f : Front) (word : ℕ) (task : Task) (o : Option Breach) → task_breach b map (who b k f w.book) task ≡ o → line_at (judged b map k f w word task o).world.memory number ≡ line_at w.memory number
  judged_line f word task None e = done_line f task e
  judged_line f word task (Some why) e = refl

  executed_line : (f : Front) (word : ℕ) (outcome : Outcome) → line_at (executed b map k f w word outcome).world.memory number ≡ line_at w.memory number
  unfolding executed
  executed_line f word outcome =
      let g = with_regs f (regs_of f.regs outcome) in
      let task = task_of (asked_of outcome) in
      judged_line g word task (task_breach b map (who b k g w.book) task) refl

  fetched_line : (f : Front) (o : Option Breach) → line_at (fetched b map k f w o).world.memory number ≡ line_at w.memory number
  fetched_line f None = executed_line f (read_at w.memory f.regs.pc Word) (effect_of_word f.regs (read_at w.memory f.regs.pc Word))
  fetched_line f (Some why) = refl

  waited_line : (f : Front) (waits : Bool) (o : Option Breach) → line_at (if waits then acted (with_regs f (interrupted f.regs)) w else fetched b map k f w o).world.memory number ≡ line_at w.memory number
  waited_line f true o = refl
  waited_line f false o = fetched_line f o

pub retired_line : (b : Board) (images : List Image) (map : AddressMap) (k : ℕ) (f : Front) (w : World) (number : ℕ) → IsValid b → map ≡ address_map b images → HasWorldShape b w → HasLine b.memory number → class_of map number ≢ classes.Uncached → may_write (class_of map number) k (owned_by b w.book k) ≡ false → line_at (retired b map k f w).world.memory number ≡ line_at w.memory number
unfolding retired
retired_line b images map k f w number valid is h there cached foreign =
    waited_line b images map k w number valid is h there cached foreign f (is_waiting f.regs) (breach b map (who b k f w.book) (Fetch f.regs.pc) Word)
