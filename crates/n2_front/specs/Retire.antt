-- One act of a core over one flat memory: an interrupt, an instruction, or a stop.
use Rattle.std.specs.Prelude.{ℕ, Option, Some, None, slice_index, if◌then◌else◌}
use Rattle.n2_word.specs.declared.Width.TheVariants.{Word}
use Rattle.n2_word.specs.Lines.{line, without_bypass}
use Rattle.n2_exec.specs.declared.registers.Regs.{Regs}
use Rattle.n2_exec.specs.declared.Outcome.{Outcome}
use Rattle.n2_exec.specs.Registers.{passed_regs, loaded_regs, raised, interrupted, is_waiting, latched}
use Rattle.n2_exec.specs.Outcomes.{regs_of, asked_of, loaded_value}
use Rattle.n2_exec.specs.Effect.{effect_of_word}
use Rattle.n2_parts.specs.declared.board.Board.{Board}
use Rattle.n2_parts.specs.declared.stops.Stop.TheVariants.{Broke}
use Rattle.n2_board.specs.AddressMap.{AddressMap}
use Rattle.n2_memory.specs.Memories.{read_at, written_at}
use Rattle.n2_bus.specs.declared.request.Request.{Request}
use Rattle.n2_bus.specs.declared.request.Request.TheVariants.{Read, Write}
use Rattle.n2_bus.specs.declared.request.Reply.{Reply}
use Rattle.n2_watch.specs.declared.past.Past.TheVariants.{Clean}
use Rattle.n2_watch.specs.declared.access.Access.TheVariants.{Fetch}
use Rattle.n2_watch.specs.Discipline.{Knowledge, Breach, breach}
use Rattle.n2_watch.specs.Book.{Book, knowledge, past_after}
use Rattle.n2_watch.specs.World.{World, Transferred, transferred}
use Rattle.n2_front.specs.Front.{Front, with_regs, advanced, stopped, noted, loaded_front, stored_front}
use Rattle.n2_front.specs.Tasks.{Task, Done, Raise, Break, CodeOp, LineOp, Load, Store, LoadPast, StorePast, task_of, task_breach, task_address, stop_for}

-- a core after an act, and all that cores share
pub record Acted : Type 0 where
  pub front : Front
  pub world : World

abbrev pub acted : Front → World → Acted
acted f w = record { front = f; world = w }

-- what a core knows
abbrev pub who : Board → ℕ → Front → Book → Knowledge
who b k f book = knowledge b book k f.past

-- ---- past the caches: the registers are those after the access, the core's interrupt lines are latched as the bus replied
-- them, and what the access did to ownership is noted
abbrev pub replied_front : Board → AddressMap → ℕ → Front → Book → Book → Request → Reply → Regs → Front
replied_front b map k f before after request reply regs =
    record { regs = latched regs reply.lines; stop = f.stop; past = past_after b map k before after request reply f.past }

-- the registers after a load or a store past the caches
abbrev pub regs_replied : Front → Task → Reply → Regs
regs_replied f (LoadPast address width signed to) reply = loaded_regs f.regs to (loaded_value width signed (slice_index reply.words 0))
regs_replied f _ reply = passed_regs f.regs

abbrev pub done_past : Board → AddressMap → ℕ → Front → World → Task → Request → Transferred → Acted
done_past b map k f w task request t =
    acted (replied_front b map k f w.book t.world.book request t.reply (regs_replied f task t.reply)) t.world

-- ---- a task that breaks nothing
abbrev pub done : Board → AddressMap → ℕ → Front → World → Task → Acted
done b map k f w Done = acted f w
done b map k f w Raise = acted (with_regs f (raised f.regs)) w
done b map k f w Break = acted (stopped f Broke) w
done b map k f w (CodeOp address) = acted (advanced f) w
done b map k f w (LineOp op address) = acted (noted (advanced f) (Clean op address)) w
done b map k f w (Load address width signed to) = acted (loaded_front f (line address) width signed to (read_at w.memory address width)) w
done b map k f w (Store address width value) = acted (stored_front f (line address)) (record { memory = written_at w.memory address width value; book = w.book })
done b map k f w (LoadPast address width signed to) =
    done_past b map k f w (LoadPast address width signed to) (Read (without_bypass address) width) (transferred b map k w (Read (without_bypass address) width))
done b map k f w (StorePast address width value) =
    done_past b map k f w (StorePast address width value) (Write (without_bypass address) width value) (transferred b map k w (Write (without_bypass address) width value))

-- a task is judged before anything is done for it
abbrev pub judged : Board → AddressMap → ℕ → Front → World → ℕ → Task → Option Breach → Acted
judged b map k f w word task None = done b map k f w task
judged b map k f w word task (Some why) = acted (stopped f (stop_for why f.regs.pc word (task_address task))) w

-- an instruction's word: what it leaves to do, with the registers as it left them
abbrev pub performed : Board → AddressMap → ℕ → Front → World → ℕ → Task → Acted
performed b map k f w word task = judged b map k f w word task (task_breach b map (who b k f w.book) task)

unfoldable pub executed : Board → AddressMap → ℕ → Front → World → ℕ → Outcome → Acted
executed b map k f w word outcome = performed b map k (with_regs f (regs_of f.regs outcome)) w word (task_of (asked_of outcome))

-- a fetch is judged, and then the word at the program counter runs
abbrev pub with_word : Board → AddressMap → ℕ → Front → World → ℕ → Acted
with_word b map k f w word = executed b map k f w word (effect_of_word f.regs word)

abbrev pub fetched : Board → AddressMap → ℕ → Front → World → Option Breach → Acted
fetched b map k f w None = with_word b map k f w (read_at w.memory f.regs.pc Word)
fetched b map k f w (Some why) = acted (stopped f (stop_for why f.regs.pc 0 f.regs.pc)) w

-- a waiting interrupt is taken, else the next instruction runs
unfoldable pub retired : Board → AddressMap → ℕ → Front → World → Acted
retired b map k f w =
    if is_waiting f.regs then acted (with_regs f (interrupted f.regs)) w
    else fetched b map k f w (breach b map (who b k f w.book) (Fetch f.regs.pc) Word)
