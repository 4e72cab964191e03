-- What an act that stops its core changes.
use Rattle.std.proofs.Common.{◌≡◌, ℕ, Bool, true, false, Option, Some, None, if◌then◌else◌, refl, sym, ap, ◌∙◌, arith}
use Rattle.n2_word.specs.declared.Width.TheVariants.{Word}
use Rattle.n2_word.specs.Lines.{bypasses}
use Rattle.n2_exec.specs.declared.Outcome.{Outcome}
use Rattle.n2_exec.specs.declared.Outcome.TheVariants as outcomes
use Rattle.n2_exec.specs.Registers.{interrupted, is_waiting}
use Rattle.n2_exec.specs.Outcomes.{regs_of, asked_of}
use Rattle.n2_exec.specs.Effect.{effect_of_word}
use Rattle.n2_parts.specs.declared.board.Board.{Board}
use Rattle.n2_parts.specs.declared.stops.Stop.{Stop}
use Rattle.n2_parts.specs.declared.stops.Stop.TheVariants.{Broke}
use Rattle.n2_board.specs.AddressMap.{AddressMap}
use Rattle.n2_memory.specs.Memories.{read_at}
use Rattle.n2_watch.specs.declared.access.Access.TheVariants.{Fetch}
use Rattle.n2_watch.specs.Discipline.{Breach, breach}
use Rattle.n2_watch.specs.World.{World}
use Rattle.n2_front.specs.Front.{Front, with_regs, stopped}
use Rattle.n2_front.specs.Tasks.{Task, Done, Raise, Break, CodeOp, LineOp, Load, Store, LoadPast, StorePast, task_of, task_breach, task_address, stop_for}
use Rattle.n2_front.specs.Retire.{Acted, acted, who, done, judged, executed, fetched, retired}

none_stops : {P : Type 0} (now : Option Stop) (stop : Stop) → now ≡ None → now ≡ Some stop → P
none_stops now stop e d = let z : ◌≡◌ {A = Option Stop} None (Some stop) = sym e ∙ d in absurd (cc)

this_stop : (f : Front) (w : World) (now stop : Stop) → ◌≡◌ {A = Option Stop} (Some now) (Some stop) → acted (stopped f now) w ≡ acted (stopped f stop) w
this_stop f w now stop e = let same : now ≡ stop = grind arith in ap (λ (x : Stop). acted (stopped f x) w) same

module _ (b : Board) (map : AddressMap) (k : ℕ) (w : World) (stop : Stop) where
  done_stops : (f : Front) (task : Task) → f.stop ≡ None → (done b map k f w task).front.stop ≡ Some stop → done b map k f w task ≡ acted (stopped f stop) w
  done_stops f Done none e = none_stops f.stop stop none e
  done_stops f Raise none e = none_stops f.stop stop none e
  done_stops f Break none e = this_stop f w Broke stop e
  done_stops f (CodeOp address) none e = none_stops f.stop stop none e
  done_stops f (LineOp op address) none e = none_stops f.stop stop none e
  done_stops f (Load address width signed to) none e = none_stops f.stop stop none e
  done_stops f (Store address width value) none e = none_stops f.stop stop none e
  done_stops f (LoadPast address width signed to) none e = none_stops f.stop stop none e
  done_stops f (StorePast address width value) none e = none_stops f.stop stop none e

  judged_stops : (f : Front) (word : ℕ) (task : Task) (o : Option Breach) → f.stop ≡ None → (judged b map k f w word task o).front.stop ≡ Some stop → judged b map k f w word task o ≡ acted (stopped f stop) w
  judged_stops f word task None none e = done_stops f task none e
  judged_stops f word task (Some why) none e = this_stop f w (stop_for why f.regs.pc word (task_address task)) stop e

  executed_stops : (f : Front) (word : ℕ) (outcome : Outcome) → f.stop ≡ None → (executed b map k f w word outcome).front.stop ≡ Some stop → executed b map k f w word outcome ≡ acted (stopped f stop) w
  unfolding executed
  executed_stops f word (outcomes.Next regs) none e = none_stops f.stop stop none e
  executed_stops f word (outcomes.Load address width signed io to) none e = let task = task_of (asked_of (outcomes.Load address width signed io to)) in judged_stops f word task (task_breach b map (who b k f w.book) task) none e
  executed_stops f word (outcomes.Store address width value io) none e = let task = task_of (asked_of (outcomes.Store address width value io)) in judged_stops f word task (task_breach b map (who b k f w.book) task) none e
  executed_stops f word (outcomes.LineOp op address) none e = judged_stops f word (LineOp op address) (task_breach b map (who b k f w.book) (LineOp op address)) none e
  executed_stops f word (outcomes.CodeOp address) none e = none_stops f.stop stop none e
  executed_stops f word (outcomes.Raise cause) none e = none_stops f.stop stop none e
  executed_stops f word outcomes.Broke none e = this_stop f w Broke stop e

  fetched_stops : (f : Front) (o : Option Breach) → f.stop ≡ None → (fetched b map k f w o).front.stop ≡ Some stop → fetched b map k f w o ≡ acted (stopped f stop) w
  fetched_stops f None none e = executed_stops f (read_at w.memory f.regs.pc Word) (effect_of_word f.regs (read_at w.memory f.regs.pc Word)) none e
  fetched_stops f (Some why) none e = this_stop f w (stop_for why f.regs.pc 0 f.regs.pc) stop e

  waited_stops : (f : Front) (waits : Bool) (o : Option Breach) → f.stop ≡ None → (if waits then acted (with_regs f (interrupted f.regs)) w else fetched b map k f w o).front.stop ≡ Some stop → (if waits then acted (with_regs f (interrupted f.regs)) w else fetched b map k f w o) ≡ acted (stopped f stop) w
  waited_stops f true o none e = none_stops f.stop stop none e
  waited_stops f false o none e = fetched_stops f o none e

pub retired_stops : (b : Board) (map : AddressMap) (k : ℕ) (f : Front) (w : World) (stop : Stop) → f.stop ≡ None → (retired b map k f w).front.stop ≡ Some stop → retired b map k f w ≡ acted (stopped f stop) w
unfolding retired
retired_stops b map k f w stop none e = waited_stops b map k w stop f (is_waiting f.regs) (breach b map (who b k f w.book) (Fetch f.regs.pc) Word) none e
