-- A turn of a core: what it is about to do, what it wants of the bus for that, and what it makes of the reply. Where it wants
-- nothing the turn is local: it reads and writes nothing that cores share.
use Rattle.std.specs.Prelude.{ℕ, ◌+◌, Bool, true, false, if◌then◌else◌, List, length, Option, Some, None}
use Rattle.n2_word.specs.declared.Width.{Width}
use Rattle.n2_word.specs.declared.Width.TheVariants.{Word}
use Rattle.n2_word.specs.Lines.{line, read_in_line, without_bypass}
use Rattle.n2_insn.specs.declared.DataOp.{DataOp}
use Rattle.n2_insn.specs.declared.DataOp.TheVariants.{Initd, Initda, Flushd, Flushda}
use Rattle.n2_exec.specs.declared.Outcome.{Outcome}
use Rattle.n2_exec.specs.Registers.{interrupted, is_waiting}
use Rattle.n2_exec.specs.Outcomes.{regs_of, asked_of}
use Rattle.n2_exec.specs.Effect.{effect_of_word}
use Rattle.n2_parts.specs.declared.board.Board.{Board}
use Rattle.n2_parts.specs.declared.board.CoreRow.{CoreRow}
use Rattle.n2_parts.specs.declared.stops.Stop.{Stop}
use Rattle.n2_parts.specs.declared.stops.Act.{Act}
use Rattle.n2_parts.specs.declared.stops.Act.TheVariants as acts
use Rattle.n2_board.specs.AddressMap.{AddressMap}
use Rattle.n2_dcache.specs.declared.Held.{Held}
use Rattle.n2_dcache.specs.Cache.{slot_at, own_set, is_dirty, has_line, loaded, found, filled, stored, set_dropped, line_dropped}
use Rattle.n2_bus.specs.declared.request.Request.{Request}
use Rattle.n2_bus.specs.declared.request.Request.TheVariants.{FillCode, FillData, WriteBack, Sample}
use Rattle.n2_bus.specs.declared.request.Reply.{Reply}
use Rattle.n2_bus.specs.Transfer.{line_reply, no_words}
use Rattle.n2_watch.specs.declared.past.Past.TheVariants.{Clean}
use Rattle.n2_watch.specs.declared.access.Access.TheVariants.{Fetch}
use Rattle.n2_watch.specs.Discipline.{Breach, breach}
use Rattle.n2_watch.specs.Book.{Book}
use Rattle.n2_watch.specs.World.{World, Transferred, transferred}
use Rattle.n2_front.specs.Front.{Front, with_regs, advanced, stopped, noted, sampled, loaded_front, stored_front}
use Rattle.n2_front.specs.Tasks.{Task, task_of, task_breach, task_address, task_request, stop_for}
use Rattle.n2_front.specs.Tasks as tasks
use Rattle.n2_front.specs.Retire.{Acted, who, done, done_past}
use Rattle.n2_front.specs.Core.{Core, TurnKind, SampleTurn, EvictTurn, StepTurn, turn_kind, evicted_set, ended_after, log_full}

-- ---- what a core is about to do

pub data Intent : Type 0 where
  -- it latches its interrupt lines
  Samples : Intent
  -- it empties a set of its data cache
  Evicts : (set : ℕ) → Intent
  -- it takes an interrupt
  Interrupts : Intent
  -- it stops, since a fetch or a task breaks the discipline
  Stops : (stop : Stop) → Intent
  -- it fills a code line
  FillsCode : (line : ℕ) → Intent
  -- it does what an instruction left to do, with the registers as it left them
  Does : (front : Front) (task : Task) → Intent

abbrev pub judged_task : Front → ℕ → Task → Option Breach → Intent
judged_task f word task None = Does f task
judged_task f word task (Some why) = Stops (stop_for why f.regs.pc word (task_address task))

abbrev pub performs : Board → AddressMap → ℕ → Book → Front → ℕ → Task → Intent
performs b map k book f word task = judged_task f word task (task_breach b map (who b k f book) task)

unfoldable pub executes : Board → AddressMap → ℕ → Book → Front → ℕ → Outcome → Intent
executes b map k book f word outcome = performs b map k book (with_regs f (regs_of f.regs outcome)) word (task_of (asked_of outcome))

-- the word at the program counter runs where the code line is held
abbrev pub with_code : Board → AddressMap → ℕ → Book → Front → Option ℕ → Intent
with_code b map k book f None = FillsCode (line f.regs.pc)
with_code b map k book f (Some word) = executes b map k book f word (effect_of_word f.regs word)

abbrev pub fetches : Board → AddressMap → ℕ → Book → Core → Option Breach → Intent
fetches b map k book c (Some why) = Stops (stop_for why c.front.regs.pc 0 c.front.regs.pc)
fetches b map k book c None = with_code b map k book c.front (found c.code_slots c.front.regs.pc Word)

unfoldable pub steps : Board → AddressMap → ℕ → Book → Core → Intent
steps b map k book c =
    if is_waiting c.front.regs then Interrupts
    else fetches b map k book c (breach b map (who b k c.front book) (Fetch c.front.regs.pc) Word)

abbrev pub intent_by : Board → AddressMap → ℕ → CoreRow → Book → Core → TurnKind → Intent
intent_by b map k row book c SampleTurn = Samples
intent_by b map k row book c EvictTurn = Evicts (evicted_set row (length c.data_slots) c.turns)
intent_by b map k row book c StepTurn = steps b map k book c

abbrev pub intent : Board → AddressMap → ℕ → CoreRow → Book → Core → Intent
intent b map k row book c = intent_by b map k row book c (turn_kind row c.turns)

-- ---- what it wants of the bus for that

-- a dirty line is written back
abbrev pub back : Option Held → Option Request
back None = None
back (Some held) = if held.dirty then Some (WriteBack held.line held.words) else None

-- a line that is missing is filled, once what its set holds is not dirty
abbrev pub filled_or : ℕ → Option Request → Option Request
filled_or number None = Some (FillData number)
filled_or number (Some request) = Some request

abbrev pub wants_line : List (Option Held) → ℕ → Option Request
wants_line slots number = if has_line slots number then None else filled_or number (back (slot_at slots (own_set slots number)))

abbrev pub wants_op : List (Option Held) → DataOp → ℕ → Option Request
wants_op slots Initd address = None
wants_op slots Initda address = None
wants_op slots Flushd address = back (slot_at slots (own_set slots (line address)))
wants_op slots Flushda address = if has_line slots (line address) then back (slot_at slots (own_set slots (line address))) else None

abbrev pub wants_task : List (Option Held) → Task → Option Request
wants_task slots (tasks.LineOp op address) = wants_op slots op address
wants_task slots (tasks.Load address width signed to) = wants_line slots (line address)
wants_task slots (tasks.Store address width value) = wants_line slots (line address)
wants_task slots task = task_request task

abbrev pub wants_by : List (Option Held) → Intent → Option Request
wants_by slots Samples = Some Sample
wants_by slots (Evicts set) = back (slot_at slots set)
wants_by slots Interrupts = None
wants_by slots (Stops stop) = None
wants_by slots (FillsCode number) = Some (FillCode number)
wants_by slots (Does f task) = wants_task slots task

-- ---- what it makes of the reply

-- the core's part of a turn: its front, its caches, and whether the turn retired, stopped or sampled
pub record Turned : Type 0 where
  pub front : Front
  pub data_slots : List (Option Held)
  pub code_slots : List (Option Held)
  pub act : Option Act

abbrev pub turned : Core → Front → List (Option Held) → Option Act → Turned
turned c f slots act = record { front = f; data_slots = slots; code_slots = c.code_slots; act = act }

-- what leaves the caches alone
abbrev pub direct : Core → ℕ → Front → Turned
direct c k f = turned c f c.data_slots (Some (acts.Retire k))

-- a line that was missing is there with the words that the bus replied
abbrev pub with_line : List (Option Held) → ℕ → Reply → List (Option Held)
with_line slots number reply = if has_line slots number then slots else filled slots number reply.words

-- a load or store of a line: a dirty line in its set goes first, which is the whole turn
abbrev pub is_in_way : List (Option Held) → ℕ → Bool
is_in_way slots number = if has_line slots number then false else is_dirty (slot_at slots (own_set slots number))

abbrev pub emptied : Core → ℕ → Turned
emptied c set = turned c c.front (set_dropped c.data_slots set) None

abbrev pub loads : Core → ℕ → Front → ℕ → Width → Bool → ℕ → List (Option Held) → Turned
loads c k f address width signed to slots = turned c (loaded_front f (line address) width signed to (loaded slots address width)) slots (Some (acts.Retire k))

abbrev pub stores : Core → ℕ → Front → ℕ → Width → ℕ → List (Option Held) → Turned
stores c k f address width value slots = turned c (stored_front f (line address)) (stored slots address width value) (Some (acts.Retire k))

-- `initd` and `flushd` drop what the set holds, `initda` and `flushda` the addressed line alone
abbrev pub op_dropped : List (Option Held) → DataOp → ℕ → List (Option Held)
op_dropped slots Initd address = set_dropped slots (own_set slots (line address))
op_dropped slots Flushd address = set_dropped slots (own_set slots (line address))
op_dropped slots Initda address = line_dropped slots (line address)
op_dropped slots Flushda address = line_dropped slots (line address)

-- an operation on the instruction cache drops what the set of its address holds
abbrev pub code_dropped : Core → ℕ → Front → ℕ → Turned
code_dropped c k f address = record {
  front = advanced f;
  data_slots = c.data_slots;
  code_slots = set_dropped c.code_slots (own_set c.code_slots (line address));
  act = Some (acts.Retire k);
}

-- by the task, with all that cores share before the turn and after its transfer
abbrev pub does_task : Board → AddressMap → ℕ → Core → Front → World → Transferred → Task → Turned
does_task b map k c f w t (tasks.CodeOp address) = code_dropped c k f address
does_task b map k c f w t (tasks.LineOp op address) = turned c (noted (advanced f) (Clean op address)) (op_dropped c.data_slots op address) (Some (acts.Retire k))
does_task b map k c f w t (tasks.Load address width signed to) =
    if is_in_way c.data_slots (line address) then emptied c (own_set c.data_slots (line address))
    else loads c k f address width signed to (with_line c.data_slots (line address) t.reply)
does_task b map k c f w t (tasks.Store address width value) =
    if is_in_way c.data_slots (line address) then emptied c (own_set c.data_slots (line address))
    else stores c k f address width value (with_line c.data_slots (line address) t.reply)
does_task b map k c f w t task = direct c k (done b map k f w task).front

abbrev pub answered : Board → AddressMap → ℕ → Core → World → Transferred → Intent → Turned
answered b map k c w t Samples = turned c (sampled c.front t.reply.lines) c.data_slots (Some (acts.Sample k))
answered b map k c w t (Evicts set) = emptied c set
answered b map k c w t Interrupts = direct c k (with_regs c.front (interrupted c.front.regs))
answered b map k c w t (Stops stop) = direct c k (stopped c.front stop)
answered b map k c w t (FillsCode number) = record {
  front = c.front;
  data_slots = c.data_slots;
  code_slots = filled c.code_slots number t.reply.words;
  act = None;
}
answered b map k c w t (Does f task) = does_task b map k c f w t task

-- ---- the whole turn of a running core

pub record CoreTurn : Type 0 where
  pub core : Core
  pub world : World
  -- what was asked of the bus, and what it replied
  pub request : Option Request
  pub reply : Reply
  pub act : Option Act

-- where nothing is asked, all that cores share is as it was
abbrev pub untransferred : World → Transferred
untransferred w = record { world = w; reply = line_reply no_words }

abbrev pub served_by : Board → AddressMap → ℕ → World → Option Request → Transferred
served_by b map k w None = untransferred w
served_by b map k w (Some request) = transferred b map k w request

-- how many turns without a transfer the core has made then
abbrev pub local_after : ℕ → Option Request → ℕ
local_after local None = local + 1
local_after local (Some request) = 0

abbrev pub core_after : Board → Core → Turned → Option Request → Core
core_after b c t request = record {
  front = t.front;
  data_slots = t.data_slots;
  code_slots = t.code_slots;
  turns = c.turns + 1;
  local = local_after c.local request;
  ended = ended_after b (c.turns + 1) t.front.stop;
}

abbrev pub turn_of : Board → Core → Option Request → Transferred → Turned → CoreTurn
turn_of b c request t turned = record { core = core_after b c turned request; world = t.world; request = request; reply = t.reply; act = turned.act }

abbrev pub turn_with : Board → AddressMap → ℕ → Core → World → Intent → Option Request → Transferred → CoreTurn
turn_with b map k c w i request t = turn_of b c request t (answered b map k c w t i)

-- what core k wants of the bus in its next turn
abbrev pub wants : Board → AddressMap → ℕ → CoreRow → Book → Core → Option Request
wants b map k row book c = wants_by c.data_slots (intent b map k row book c)

unfoldable pub core_turn : Board → AddressMap → ℕ → CoreRow → Core → World → CoreTurn
core_turn b map k row c w =
    turn_with b map k c w (intent b map k row w.book c) (wants b map k row w.book c) (served_by b map k w (wants b map k row w.book c))
