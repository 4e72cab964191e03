-- What a turn or a request of one actor leaves of a core that is another's, and of what cores share.
use Rattle.std.proofs.Common.{◌≡◌, ◌≢◌, ◌==◌, ℕ, ◌<◌, Bool, true, false, if◌then◌else◌, List, length, Option, Some, None, IsTrue, slice_get, refl, sym, subst, ◌∙◌}
use Rattle.std.proofs.lemmas.Bool.{eqb-true}
use Rattle.n2_word.specs.Lines.{line}
use Rattle.n2_elf.specs.declared.image.Image.{Image}
use Rattle.n2_insn.specs.declared.DataOp.{DataOp}
use Rattle.n2_insn.specs.declared.DataOp.TheVariants.{Initd, Initda, Flushd, Flushda}
use Rattle.n2_parts.specs.declared.board.Board.{Board}
use Rattle.n2_parts.specs.declared.board.CoreRow.{CoreRow}
use Rattle.n2_parts.specs.declared.board.MailboxRow.{MailboxRow}
use Rattle.n2_board.specs.declared.guards.Guard.{Guard}
use Rattle.n2_board.specs.AddressMap.{AddressMap}
use Rattle.n2_bus.specs.declared.request.Request.{Request}
use Rattle.n2_bus.specs.declared.request.Request.TheVariants.{WriteBack, FillCode, FillData, Sample}
use Rattle.n2_dcache.specs.declared.Held.{Held}
use Rattle.n2_dcache.specs.Cache.{slot_at, own_set, has_line}
use Rattle.n2_watch.specs.declared.past.Past.{Past}
use Rattle.n2_watch.specs.Discipline.{breach}
use Rattle.n2_watch.specs.Book.{knowledge, owned_by, pointer_of}
use Rattle.n2_watch.specs.World.{World, transferred, start_world}
use Rattle.n2_watch.specs.Shapes.{BypassAccess, IsLetPast, access_of, request_of, accessed, is_access}
use Rattle.n2_watch.specs.Watched.{IsMapOf}
use Rattle.n2_watch.specs.Watched as watched
use Rattle.n2_watch.proofs.KeptDevices.{owned_like, pointer_like, posted_like}
use Rattle.n2_watch.proofs.KeptPast.{start_kept}
use Rattle.n2_watch.proofs.KeptShapes.{shape_kept, start_shape}
use Rattle.n2_watch.proofs.KeptTransfers.{exchange, other_request}
use Rattle.n2_front.specs.Tasks.{Task, task_breach}
use Rattle.n2_front.specs.Tasks as tasks
use Rattle.n2_front.specs.Core.{Core}
use Rattle.n2_front.specs.Turn.{Intent, Samples, Evicts, Interrupts, Stops, FillsCode, Does, back, filled_or, wants_line, wants_op, wants_task, wants_by, intent, served_by, core_turn}
use Rattle.n2_cpu.specs.declared.state.State.{State}
use Rattle.n2_cpu.specs.Aims.{IsMeant}
use Rattle.n2_cpu.specs.Stands.{StandsFor, IsShared}
use Rattle.n2_cpu.proofs.Meaning.{intent_meant}

-- ---- what every request of a turn keeps, where requests that are no accesses do, and accesses that break nothing
module _ (P : World → Type 0) (b : Board) (map : AddressMap) (j : ℕ) (w : World) (past : List Past) (before : P w) (quiet : (request : Request) → is_access request ≡ false → P (transferred b map j w request).world)
    (let_past : (access : BypassAccess) → breach b map (knowledge b w.book j past) (access_of access) access.width ≡ None → P (accessed b map j w access).world) where
  abbrev After : Option Request → Type 0
  After o = P (served_by b map j w o).world

  back_by : (dirty : Bool) (number : ℕ) (words : List ℕ) → After (if dirty then Some (WriteBack number words) else None)
  back_by true number words = quiet (WriteBack number words) refl
  back_by false number words = before

  after_back : (o : Option Held) → After (back o)
  after_back None = before
  after_back (Some held) = back_by held.dirty held.line held.words

  after_filled : (number : ℕ) (o : Option Request) → After o → After (filled_or number o)
  after_filled number None h = quiet (FillData number) refl
  after_filled number (Some request) h = h

  after_unless : (t : Bool) (o : Option Request) → After o → After (if t then None else o)
  after_unless true o h = before
  after_unless false o h = h

  after_only : (t : Bool) (o : Option Request) → After o → After (if t then o else None)
  after_only true o h = h
  after_only false o h = before

  after_line : (slots : List (Option Held)) (number : ℕ) → After (wants_line slots number)
  after_line slots number = after_unless (has_line slots number) (filled_or number (back (slot_at slots (own_set slots number)))) (after_filled number (back (slot_at slots (own_set slots number))) (after_back (slot_at slots (own_set slots number))))

  after_op : (slots : List (Option Held)) (op : DataOp) (address : ℕ) → After (wants_op slots op address)
  after_op slots Initd address = before
  after_op slots Initda address = before
  after_op slots Flushd address = after_back (slot_at slots (own_set slots (line address)))
  after_op slots Flushda address = after_only (has_line slots (line address)) (back (slot_at slots (own_set slots (line address)))) (after_back (slot_at slots (own_set slots (line address))))

  after_task : (slots : List (Option Held)) (task : Task) → task_breach b map (knowledge b w.book j past) task ≡ None → After (wants_task slots task)
  after_task slots tasks.Done br = before
  after_task slots tasks.Raise br = before
  after_task slots tasks.Break br = before
  after_task slots (tasks.CodeOp address) br = before
  after_task slots (tasks.LineOp op address) br = after_op slots op address
  after_task slots (tasks.Load address width signed to) br = after_line slots (line address)
  after_task slots (tasks.Store address width value) br = after_line slots (line address)
  after_task slots (tasks.LoadPast address width signed to) br = let_past (record { address = address; width = width; stored = None }) br
  after_task slots (tasks.StorePast address width value) br = let_past (record { address = address; width = width; stored = Some value }) br

  after_intent : (slots : List (Option Held)) (i : Intent) → IsMeant b map j w.book past i → After (wants_by slots i)
  after_intent slots Samples m = quiet Sample refl
  after_intent slots (Evicts set) m = after_back (slot_at slots set)
  after_intent slots Interrupts m = before
  after_intent slots (Stops stop) m = before
  after_intent slots (FillsCode number) m = quiet (FillCode number) refl
  after_intent slots (Does f task) m = after_task slots task m

  module _ (m : IsMapOf b map) (row : CoreRow) (d : Core) (past_is : d.front.past ≡ past) where
    meant : IsMeant b map j w.book past (intent b map j row w.book d)
    meant = subst (λ (x : List Past). IsMeant b map j w.book x (intent b map j row w.book d)) past_is (intent_meant b map j w.book m row d)

    pub after_turn : P (core_turn b map j row d w).world
    unfolding core_turn
    after_turn = after_intent d.data_slots (intent b map j row w.book d) meant

-- ---- another core
module _ (b : Board) (map : AddressMap) (k : ℕ) (s : State) (c : Core) (w other : World) (h : StandsFor b map k s c w) where
  pub with_watch : watched.StandsFor b map s.clock.number s.watch other.book c.front.past → StandsFor b map k s c other
  with_watch watch = record {
    number = h.number;
    within = h.within;
    limit = h.limit;
    row = h.row;
    local = h.local;
    stop = h.stop;
    regs = h.regs;
    data_slots = h.data_slots;
    code_slots = h.code_slots;
    holds = record { watch = watch; data_lines = h.holds.data_lines; code_lines = h.holds.code_lines };
  }

  pub watch_in : ((guard : Guard) → owned_by b other.book k guard ≡ owned_by b w.book k guard) → ((index : ℕ) (row : MailboxRow) → slice_get b.mailbox index ≡ Some row → IsTrue (row.sender == k) → pointer_of other.book index ≡ pointer_of w.book index) → watched.StandsFor b map s.clock.number s.watch other.book c.front.past
  watch_in owns points =
      let g = h.holds.watch in
      record {
        map_of = g.map_of;
        board = g.board;
        core_is = g.core_is;
        cpuid = g.cpuid;
        sets = g.sets;
        lines = g.lines;
        recorded = g.recorded;
        slots = g.slots;
        registers = g.registers;
        owned = λ guard. g.owned guard ∙ sym (subst (λ (x : ℕ). owned_by b other.book x guard ≡ owned_by b w.book x guard) (sym h.number) (owns guard));
        pointers = λ index row e t. g.pointers index row e t ∙ sym (points index row e (subst (λ (x : ℕ). IsTrue (row.sender == x)) h.number t));
        again = g.again;
      }

-- a request that is no access changes nothing of it
pub other_stands : (b : Board) (map : AddressMap) (k : ℕ) (s : State) (c : Core) (w : World) (actor : ℕ) (request : Request) → is_access request ≡ false → StandsFor b map k s c w → StandsFor b map k s c (transferred b map actor w request).world
other_stands b map k s c w actor request e h =
    let after : World = (transferred b map actor w request).world in
    let x = other_request b map actor w request e in
    with_watch b map k s c w after h
    (watch_in b map k s c w after h (owned_like b w.book after.book k x.mutexes x.holders) (λ index row found t. pointer_like w.book after.book index x.mailboxes))

-- an access of another core that breaks nothing changes nothing of it
pub access_stands : (b : Board) (images : List Image) (map : AddressMap) (k : ℕ) (s : State) (c : Core) (w : World) (j : ℕ) (past : List Past) (access : BypassAccess) → IsLetPast b images map j w past access → k ≢ j → StandsFor b map k s c w → StandsFor b map k s c (accessed b map j w access).world
access_stands b images map k s c w j past access let_past ne h =
    let after : World = (accessed b map j w access).world in
    let x = exchange b images map j w past access let_past in
    with_watch b map k s c w after h
    (watch_in b map k s c w after h (λ guard. x.others k guard h.within ne) (λ index row found t. x.pointers index row found (λ same. ne (sym (eqb-true row.sender k t) ∙ same))))

let_through : (b : Board) (map : AddressMap) (m : IsMapOf b map) (j : ℕ) (w : World) (past : List Past) (access : BypassAccess) → j < length b.core → IsShared b map w → breach b map (knowledge b w.book j past) (access_of access) access.width ≡ None → IsLetPast b m.images map j w past access
let_through b map m j w past access lt shared br = record { valid = m.valid; map_is = m.maps; core = lt; shape = shared.shape; posted = shared.posted; unbroken = br }

-- a turn of another core changes nothing of it
pub turn_stands : (b : Board) (map : AddressMap) (j k : ℕ) (row : CoreRow) (s : State) (c d : Core) (w : World) → StandsFor b map k s c w → IsShared b map w → j < length b.core → k ≢ j → StandsFor b map k s c (core_turn b map j row d w).world
turn_stands b map j k row s c d w h shared lt ne =
    let m = h.holds.watch.map_of in
    after_turn (λ (x : World). StandsFor b map k s c x) b map j w d.front.past h (λ request e. other_stands b map k s c w j request e h)
    (λ access br. access_stands b m.images map k s c w j d.front.past access (let_through b map m j w d.front.past access lt shared br) ne h) m row d refl

-- ---- what cores share
pub shared_request : (b : Board) (map : AddressMap) (w : World) (actor : ℕ) (request : Request) → is_access request ≡ false → IsShared b map w → IsShared b map (transferred b map actor w request).world
shared_request b map w actor request e h =
    let x = other_request b map actor w request e in
    record {
      shape = shape_kept b map actor w request h.shape;
      posted = posted_like map w.book (transferred b map actor w request).world.book x.mailboxes x.holders h.posted;
    }

shared_access : (b : Board) (images : List Image) (map : AddressMap) (w : World) (j : ℕ) (past : List Past) (access : BypassAccess) → IsLetPast b images map j w past access → IsShared b map w → IsShared b map (accessed b map j w access).world
shared_access b images map w j past access let_past h = record { shape = shape_kept b map j w (request_of access) h.shape; posted = (exchange b images map j w past access let_past).posts }

pub shared_turn : (b : Board) (map : AddressMap) (j : ℕ) (row : CoreRow) (d : Core) (w : World) → IsMapOf b map → IsShared b map w → j < length b.core → IsShared b map (core_turn b map j row d w).world
shared_turn b map j row d w m h lt =
    after_turn (λ (x : World). IsShared b map x) b map j w d.front.past h (λ request e. shared_request b map w j request e h)
    (λ access br. shared_access b m.images map w j d.front.past access (let_through b map m j w d.front.past access lt h br) h) m row d refl

pub shared_start : (b : Board) (map : AddressMap) (images : List Image) → IsShared b map (start_world b images)
shared_start b map images = record { shape = start_shape b; posted = (start_kept b map).posted }
