-- What is known of what a core is about to do.
use Rattle.std.proofs.Common.{◌≡◌, ℕ, Bool, true, false, if◌then◌else◌, Option, Some, None, option_map, refl, sym, ap, ◌∙◌}
use Rattle.n2_word.specs.declared.Width.TheVariants.{Word}
use Rattle.n2_word.specs.Lines.{line}
use Rattle.n2_exec.specs.declared.Outcome.{Outcome}
use Rattle.n2_exec.specs.Registers.{is_waiting}
use Rattle.n2_exec.specs.Outcomes.{regs_of, asked_of}
use Rattle.n2_exec.specs.Effect.{effect_of_word}
use Rattle.n2_parts.specs.declared.board.Board.{Board}
use Rattle.n2_parts.specs.declared.board.CoreRow.{CoreRow}
use Rattle.n2_board.specs.declared.access.Violation.{Violation}
use Rattle.n2_board.specs.AddressMap.{AddressMap, class_of}
use Rattle.n2_board.specs.Access.{fetch_violation}
use Rattle.n2_board.proofs.Reached.{fetch_line}
use Rattle.n2_dcache.specs.Cache.{found}
use Rattle.n2_watch.specs.declared.access.Access.TheVariants.{Fetch}
use Rattle.n2_watch.specs.Book.{Book}
use Rattle.n2_watch.specs.Discipline.{Breach, violation, breach}
use Rattle.n2_watch.specs.Watched.{IsMapOf}
use Rattle.n2_front.specs.Front.{Front, with_regs}
use Rattle.n2_front.specs.Tasks.{Task, task_of, task_breach}
use Rattle.n2_front.specs.Retire.{who}
use Rattle.n2_front.specs.Core.{Core, TurnKind, SampleTurn, EvictTurn, StepTurn, turn_kind}
use Rattle.n2_front.specs.Turn.{Interrupts, judged_task, executes, with_code, fetches, steps, intent_by, intent}
use Rattle.n2_cpu.specs.Aims.{IsMeant}

module _ (b : Board) (map : AddressMap) (k : ℕ) (book : Book) (m : IsMapOf b map) where
  task_meant : (f : Front) (word : ℕ) (task : Task) (x : Option Breach) → task_breach b map (who b k f book) task ≡ x → IsMeant b map k book f.past (judged_task f word task x)
  task_meant f word task None e = e
  task_meant f word task (Some why) e = tt

  executes_meant : (f : Front) (word : ℕ) (o : Outcome) → IsMeant b map k book f.past (executes b map k book f word o)
  unfolding executes
  executes_meant f word o =
      let g = with_regs f (regs_of f.regs o) in
      let task = task_of (asked_of o) in
      task_meant g word task (task_breach b map (who b k g book) task) refl

  code_meant : (f : Front) (o : Option ℕ) → fetch_violation map f.regs.pc ≡ None → IsMeant b map k book f.past (with_code b map k book f o)
  code_meant f None e =
      let l = fetch_line b m.images m.valid f.regs.pc (ap (λ (x : AddressMap). fetch_violation x f.regs.pc) (sym m.maps) ∙ e) in
      (l.0, ap (λ (x : AddressMap). class_of x (line f.regs.pc)) m.maps ∙ l.1)
  code_meant f (Some word) e = executes_meant f word (effect_of_word f.regs word)

  no_violation : (number : ℕ) (o : Option Violation) → option_map (λ wrong. violation wrong number) o ≡ None → o ≡ None
  no_violation number None e = refl
  no_violation number (Some wrong) e = absurd (cc)

  unbroken : (f : Front) → breach b map (who b k f book) (Fetch f.regs.pc) Word ≡ None → fetch_violation map f.regs.pc ≡ None
  unfolding breach
  unbroken f e = no_violation (line f.regs.pc) (fetch_violation map f.regs.pc) e

  fetches_meant : (c : Core) (x : Option Breach) → breach b map (who b k c.front book) (Fetch c.front.regs.pc) Word ≡ x → IsMeant b map k book c.front.past (fetches b map k book c x)
  fetches_meant c None e = code_meant c.front (found c.code_slots c.front.regs.pc Word) (unbroken c.front e)
  fetches_meant c (Some why) e = tt

  waits_meant : (c : Core) (waits : Bool) → IsMeant b map k book c.front.past (if waits then Interrupts else fetches b map k book c (breach b map (who b k c.front book) (Fetch c.front.regs.pc) Word))
  waits_meant c true = tt
  waits_meant c false = fetches_meant c (breach b map (who b k c.front book) (Fetch c.front.regs.pc) Word) refl

  steps_meant : (c : Core) → IsMeant b map k book c.front.past (steps b map k book c)
  unfolding steps
  steps_meant c = waits_meant c (is_waiting c.front.regs)

  kind_meant : (row : CoreRow) (c : Core) (kind : TurnKind) → IsMeant b map k book c.front.past (intent_by b map k row book c kind)
  kind_meant row c SampleTurn = tt
  kind_meant row c EvictTurn = tt
  kind_meant row c StepTurn = steps_meant c

  pub intent_meant : (row : CoreRow) (c : Core) → IsMeant b map k book c.front.past (intent b map k row book c)
  intent_meant row c = kind_meant row c (turn_kind row c.turns)
