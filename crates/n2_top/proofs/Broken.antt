-- The flat machine refuses a core, or lets it stray, exactly where its next instruction breaks the discipline.
use Rattle.std.proofs.Common.{◌≡◌, ◌↔◌, ℕ, Bool, true, false, Option, Some, None, option_map, if◌then◌else◌, IsTrue, sym, ◌∙◌}
use Rattle.n2_word.specs.declared.Width.TheVariants.{Word}
use Rattle.n2_exec.specs.declared.Outcome.{Outcome}
use Rattle.n2_exec.specs.Registers.{interrupted, is_waiting}
use Rattle.n2_exec.specs.Outcomes.{regs_of, asked_of}
use Rattle.n2_exec.specs.Effect.{effect_of_word}
use Rattle.n2_parts.specs.declared.board.Board.{Board}
use Rattle.n2_parts.specs.declared.stops.Stop.{Stop}
use Rattle.n2_parts.specs.declared.stops.Stop.TheVariants.{Broke, Refused, Stray, Spent, LogFull}
use Rattle.n2_board.specs.AddressMap.{AddressMap}
use Rattle.n2_memory.specs.Memories.{read_at}
use Rattle.n2_watch.specs.declared.access.Access.TheVariants.{Fetch}
use Rattle.n2_watch.specs.Discipline.{Breach, breach}
use Rattle.n2_watch.specs.World.{World}
use Rattle.n2_front.specs.Front.{Front, with_regs}
use Rattle.n2_front.specs.Tasks.{Task, Done, Raise, Break, CodeOp, LineOp, Load, Store, LoadPast, StorePast, task_of, task_breach, task_address, stop_for}
use Rattle.n2_front.specs.Retire.{acted, who, done, judged, executed, fetched, retired}
use Rattle.n2_report.specs.Stops.{is_refused}
use Rattle.n2_top.specs.Headline.{broken_word, broken_by, broken}

pub never_some : {X : Type 0} (o : Option X) (x : X) → o ≡ None → o ≡ Some x → ⊥
never_some o x none some = let both : ◌≡◌ {A = Option _} None (Some x) = sym none ∙ some in cc

none_some : {X : Type 0} (x : X) → ◌≡◌ {A = Option X} None (Some x) → ⊥
none_some x e = cc

pub neither : {P Q : Type 0} → (P → ⊥) → (Q → ⊥) → P ↔ Q
neither p q = (λ x. absurd (p x), λ x. absurd (q x))

-- `break` is no refusal
not_broke : (stop : Stop) → IsTrue (is_refused (Some stop)) → ◌≡◌ {A = Option Stop} (Some Broke) (Some stop) → ⊥
not_broke Broke refused e = cc
not_broke (Refused refusal) refused e = cc
not_broke (Stray address) refused e = cc
not_broke Spent refused e = cc
not_broke LogFull refused e = cc

module _ (b : Board) (map : AddressMap) (k : ℕ) (w : World) (stop : Stop) (refused : IsTrue (is_refused (Some stop))) where
  -- what breaks nothing leads to no refusal
  done_runs : (f : Front) (task : Task) → f.stop ≡ None → (done b map k f w task).front.stop ≡ Some stop → ⊥
  done_runs f Done none e = never_some f.stop stop none e
  done_runs f Raise none e = never_some f.stop stop none e
  done_runs f Break none e = not_broke stop refused e
  done_runs f (CodeOp address) none e = never_some f.stop stop none e
  done_runs f (LineOp op address) none e = never_some f.stop stop none e
  done_runs f (Load address width signed to) none e = never_some f.stop stop none e
  done_runs f (Store address width value) none e = never_some f.stop stop none e
  done_runs f (LoadPast address width signed to) none e = never_some f.stop stop none e
  done_runs f (StorePast address width value) none e = never_some f.stop stop none e

  judged_is : (f : Front) (word : ℕ) (task : Task) (o : Option Breach) → f.stop ≡ None → ((judged b map k f w word task o).front.stop ≡ Some stop) ↔ (option_map (λ (why : Breach). stop_for why f.regs.pc word (task_address task)) o ≡ Some stop)
  judged_is f word task None none = neither (done_runs f task none) (none_some stop)
  judged_is f word task (Some why) none = (λ e. e, λ e. e)

  executed_is : (f : Front) (word : ℕ) (outcome : Outcome) → f.stop ≡ None → ((executed b map k f w word outcome).front.stop ≡ Some stop) ↔ (broken_word b map k f w word outcome ≡ Some stop)
  unfolding executed broken_word
  executed_is f word outcome none =
      let g = with_regs f (regs_of f.regs outcome) in
      let task = task_of (asked_of outcome) in
      judged_is g word task (task_breach b map (who b k g w.book) task) none

  fetched_is : (f : Front) (o : Option Breach) → f.stop ≡ None → ((fetched b map k f w o).front.stop ≡ Some stop) ↔ (broken_by b map k f w o ≡ Some stop)
  fetched_is f None none = executed_is f (read_at w.memory f.regs.pc Word) (effect_of_word f.regs (read_at w.memory f.regs.pc Word)) none
  fetched_is f (Some why) none = (λ e. e, λ e. e)

  waited_is : (f : Front) (waits : Bool) (o : Option Breach) → f.stop ≡ None → ((if waits then acted (with_regs f (interrupted f.regs)) w else fetched b map k f w o).front.stop ≡ Some stop) ↔ ((if waits then None else broken_by b map k f w o) ≡ Some stop)
  waited_is f true o none = neither (never_some f.stop stop none) (none_some stop)
  waited_is f false o none = fetched_is f o none

pub retired_is : (b : Board) (map : AddressMap) (k : ℕ) (w : World) (stop : Stop) → IsTrue (is_refused (Some stop)) → (f : Front) → f.stop ≡ None → ((retired b map k f w).front.stop ≡ Some stop) ↔ (broken b map k f w ≡ Some stop)
unfolding retired broken
retired_is b map k w stop refused f none =
    waited_is b map k w stop refused f (is_waiting f.regs) (breach b map (who b k f w.book) (Fetch f.regs.pc) Word) none
