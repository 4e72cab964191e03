-- The program counter and the exception address stay multiples of 4.
use Rattle.std.proofs.Common.{ℕ, ◌%◌, Bool, true, false, Option, Some, None, if◌then◌else◌, ap, ◌∙◌}
use Rattle.n2_word.specs.declared.Width.TheVariants.{Word}
use Rattle.n2_insn.specs.declared.Insn.{Insn}
use Rattle.n2_insn.specs.Table.{table_insn}
use Rattle.n2_exec.specs.declared.registers.Regs.{Regs}
use Rattle.n2_exec.specs.declared.Outcome.{Outcome}
use Rattle.n2_exec.specs.Registers.{passed_regs, loaded_regs, raised, interrupted, latched, is_waiting}
use Rattle.n2_exec.specs.Outcomes.{regs_of, asked_of}
use Rattle.n2_exec.specs.Effect.{effect_found, effect_of_word}
use Rattle.n2_exec.specs.Follow.{Follows}
use Rattle.n2_exec.proofs.Proper.{passed-follows, loaded-follows, raised-follows, follows}
use Rattle.n2_parts.specs.declared.board.Board.{Board}
use Rattle.n2_board.specs.AddressMap.{AddressMap}
use Rattle.n2_memory.specs.Memories.{read_at}
use Rattle.n2_watch.specs.declared.access.Access.TheVariants.{Fetch}
use Rattle.n2_watch.specs.Discipline.{Breach, breach}
use Rattle.n2_watch.specs.World.{World}
use Rattle.n2_front.specs.Front.{Front, with_regs}
use Rattle.n2_front.specs.Tasks.{Task, Done, Raise, Break, CodeOp, LineOp, Load, Store, LoadPast, StorePast, task_of, task_breach}
use Rattle.n2_front.specs.Retire.{acted, who, done, judged, executed, fetched, retired}
use Rattle.n2_flat.specs.State.{IsAligned}

after : (regs next : Regs) → Follows regs next → IsAligned regs → IsAligned next
after regs next f h = record { pc = f.aligned h.pc; vector = ap (λ (v : ℕ). v % 4) f.vector ∙ h.vector }

pub latched_aligned : (regs : Regs) (lines : ℕ) → IsAligned regs → IsAligned (latched regs lines)
latched_aligned regs lines h = record { pc = h.pc; vector = h.vector }

passed : (regs : Regs) → IsAligned regs → IsAligned (passed_regs regs)
passed regs h = after regs (passed_regs regs) (passed-follows regs) h

loaded : (regs : Regs) (to value : ℕ) → IsAligned regs → IsAligned (loaded_regs regs to value)
loaded regs to value h = after regs (loaded_regs regs to value) (loaded-follows regs to value) h

raised_aligned : (regs : Regs) → IsAligned regs → IsAligned (raised regs)
raised_aligned regs h = after regs (raised regs) (raised-follows regs h.vector) h

found_aligned : (regs : Regs) (o : Option Insn) → IsAligned regs → IsAligned (regs_of regs (effect_found regs o))
found_aligned regs None h = h
found_aligned regs (Some insn) h = after regs _ (follows regs insn) h

word_aligned : (regs : Regs) (word : ℕ) → IsAligned regs → IsAligned (regs_of regs (effect_of_word regs word))
unfolding effect_of_word
word_aligned regs word h = found_aligned regs (table_insn word) h

module _ (b : Board) (map : AddressMap) (k : ℕ) (w : World) where
  done_aligned : (f : Front) (task : Task) → IsAligned f.regs → IsAligned (done b map k f w task).front.regs
  done_aligned f Done h = h
  done_aligned f Raise h = raised_aligned f.regs h
  done_aligned f Break h = h
  done_aligned f (CodeOp address) h = passed f.regs h
  done_aligned f (LineOp op address) h = passed f.regs h
  done_aligned f (Load address width signed to) h = loaded f.regs to _ h
  done_aligned f (Store address width value) h = passed f.regs h
  done_aligned f (LoadPast address width signed to) h = latched_aligned _ _ (loaded f.regs to _ h)
  done_aligned f (StorePast address width value) h = latched_aligned _ _ (passed f.regs h)

  judged_aligned : (f : Front) (word : ℕ) (task : Task) (o : Option Breach) → IsAligned f.regs → IsAligned (judged b map k f w word task o).front.regs
  judged_aligned f word task None h = done_aligned f task h
  judged_aligned f word task (Some why) h = h

  executed_aligned : (f : Front) (word : ℕ) (outcome : Outcome) → IsAligned (regs_of f.regs outcome) → IsAligned (executed b map k f w word outcome).front.regs
  unfolding executed
  executed_aligned f word outcome h =
      let g = with_regs f (regs_of f.regs outcome) in
      let task = task_of (asked_of outcome) in
      judged_aligned g word task (task_breach b map (who b k g w.book) task) h

  fetched_aligned : (f : Front) (o : Option Breach) → IsAligned f.regs → IsAligned (fetched b map k f w o).front.regs
  fetched_aligned f None h = executed_aligned f (read_at w.memory f.regs.pc Word) (effect_of_word f.regs (read_at w.memory f.regs.pc Word)) (word_aligned f.regs (read_at w.memory f.regs.pc Word) h)
  fetched_aligned f (Some why) h = h

  waited_aligned : (f : Front) (waits : Bool) (o : Option Breach) → IsAligned f.regs → IsAligned (if waits then acted (with_regs f (interrupted f.regs)) w else fetched b map k f w o).front.regs
  waited_aligned f true o h = raised_aligned f.regs h
  waited_aligned f false o h = fetched_aligned f o h

pub retired_aligned : (b : Board) (map : AddressMap) (k : ℕ) (f : Front) (w : World) → IsAligned f.regs → IsAligned (retired b map k f w).front.regs
unfolding retired
retired_aligned b map k f w h = waited_aligned b map k w f (is_waiting f.regs) (breach b map (who b k f w.book) (Fetch f.regs.pc) Word) h
