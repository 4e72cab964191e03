-- A turn that wants no transfer looks at nothing that cores share but what its core knows.
use Rattle.std.proofs.Common.{◌≡◌, ℕ, ◌+◌, Bool, true, false, cond, List, Option, Some, None, refl, ap, sym, ◌∙◌}
use Rattle.n2_word.specs.declared.Width.{Width}
use Rattle.n2_word.specs.declared.Width.TheVariants.{Word}
use Rattle.n2_exec.specs.declared.Outcome.{Outcome}
use Rattle.n2_exec.specs.Registers.{is_waiting}
use Rattle.n2_exec.specs.Outcomes.{regs_of, asked_of}
use Rattle.n2_exec.specs.Effect.{effect_of_word}
use Rattle.n2_parts.specs.declared.board.Board.{Board}
use Rattle.n2_parts.specs.declared.board.CoreRow.{CoreRow}
use Rattle.n2_board.specs.AddressMap.{AddressMap}
use Rattle.n2_dcache.specs.Cache.{found}
use Rattle.n2_bus.specs.declared.request.Request.{Request}
use Rattle.n2_watch.specs.declared.past.Past.{Past}
use Rattle.n2_watch.specs.declared.access.Access.{Access}
use Rattle.n2_watch.specs.declared.access.Access.TheVariants.{Fetch}
use Rattle.n2_watch.specs.Discipline.{Breach, breach}
use Rattle.n2_watch.specs.Book.{Book, knowledge}
use Rattle.n2_watch.specs.World.{World}
use Rattle.n2_watch.proofs.KeptJudgement.{same_judgement}
use Rattle.n2_front.specs.Front.{Front, with_regs}
use Rattle.n2_front.specs.Tasks as tasks
use Rattle.n2_front.specs.Tasks.{Task, task_of, task_breach}
use Rattle.n2_front.specs.Retire.{who}
use Rattle.n2_front.specs.Core.{Core, TurnKind, SampleTurn, EvictTurn, StepTurn, turn_kind}
use Rattle.n2_front.specs.Turn.{Intent, Samples, Evicts, Interrupts, Stops, FillsCode, Does, judged_task, executes, with_code, fetches, steps, intent_by, intent, wants_by, wants, Turned, answered, CoreTurn, untransferred, served_by, core_after, turn_with, core_turn}
use Rattle.n2_runs.specs.Knows.{KnowsSame}

module _ (b : Board) (map : AddressMap) (k : ℕ) (before after : Book) (same : KnowsSame b k before after) where
  pub judged_same : (past : List Past) (access : Access) (width : Width) → breach b map (knowledge b after k past) access width ≡ breach b map (knowledge b before k past) access width
  judged_same past access width = same_judgement b map before after k same.guards same.pointers past access width

  task_same : (f : Front) (task : Task) → task_breach b map (who b k f after) task ≡ task_breach b map (who b k f before) task
  task_same f tasks.Done = refl
  task_same f tasks.Raise = refl
  task_same f tasks.Break = refl
  task_same f (tasks.CodeOp a) = refl
  task_same f (tasks.LineOp op a) = judged_same f.past _ _
  task_same f (tasks.Load a width signed to) = judged_same f.past _ _
  task_same f (tasks.Store a width value) = judged_same f.past _ _
  task_same f (tasks.LoadPast a width signed to) = judged_same f.past _ _
  task_same f (tasks.StorePast a width value) = judged_same f.past _ _

  executes_same : (f : Front) (word : ℕ) (outcome : Outcome) → executes b map k after f word outcome ≡ executes b map k before f word outcome
  unfolding executes
  executes_same f word outcome =
      let g = with_regs f (regs_of f.regs outcome) in
      let task = task_of (asked_of outcome) in
      ap (λ (o : Option Breach). judged_task g word task o) (task_same g task)

  with_code_same : (f : Front) (o : Option ℕ) → with_code b map k after f o ≡ with_code b map k before f o
  with_code_same f None = refl
  with_code_same f (Some word) = executes_same f word (effect_of_word f.regs word)

  fetches_same : (c : Core) (o : Option Breach) → fetches b map k after c o ≡ fetches b map k before c o
  fetches_same c None = with_code_same c.front (found c.code_slots c.front.regs.pc Word)
  fetches_same c (Some why) = refl

  waits_same : (c : Core) (x : Bool) → cond x Interrupts (fetches b map k after c (breach b map (who b k c.front after) (Fetch c.front.regs.pc) Word)) ≡ cond x Interrupts (fetches b map k before c (breach b map (who b k c.front before) (Fetch c.front.regs.pc) Word))
  waits_same c true = refl
  waits_same c false = ap (λ (o : Option Breach). fetches b map k after c o) (judged_same c.front.past (Fetch c.front.regs.pc) Word) ∙ fetches_same c (breach b map (who b k c.front before) (Fetch c.front.regs.pc) Word)

  kind_same : (row : CoreRow) (c : Core) (kind : TurnKind) → intent_by b map k row after c kind ≡ intent_by b map k row before c kind
  unfolding steps
  kind_same row c SampleTurn = refl
  kind_same row c EvictTurn = refl
  kind_same row c StepTurn = waits_same c (is_waiting c.front.regs)

  -- it is about to do the same
  pub intent_same : (row : CoreRow) (c : Core) → intent b map k row after c ≡ intent b map k row before c
  intent_same row c = kind_same row c (turn_kind row c.turns)

  pub wants_same : (row : CoreRow) (c : Core) → wants b map k row after c ≡ wants b map k row before c
  wants_same row c = ap (λ (i : Intent). wants_by c.data_slots i) (intent_same row c)

module _ (b : Board) (map : AddressMap) (k : ℕ) (row : CoreRow) (c : Core) where
  -- a turn that wants nothing
  abbrev local_turn : World → Intent → CoreTurn
  local_turn w i = turn_with b map k c w i None (untransferred w)

  pub local_is : (w : World) → wants b map k row w.book c ≡ None → core_turn b map k row c w ≡ local_turn w (intent b map k row w.book c)
  unfolding core_turn
  local_is w e = ap (λ (o : Option Request). turn_with b map k c w (intent b map k row w.book c) o (served_by b map k w o)) e

  answered_same : (w v : World) (i : Intent) → wants_by c.data_slots i ≡ None → answered b map k c v (untransferred v) i ≡ answered b map k c w (untransferred w) i
  answered_same w v Samples e = absurd (cc)
  answered_same w v (Evicts set) e = refl
  answered_same w v Interrupts e = refl
  answered_same w v (Stops stop) e = refl
  answered_same w v (FillsCode number) e = absurd (cc)
  answered_same w v (Does f tasks.Done) e = refl
  answered_same w v (Does f tasks.Raise) e = refl
  answered_same w v (Does f tasks.Break) e = refl
  answered_same w v (Does f (tasks.CodeOp a)) e = refl
  answered_same w v (Does f (tasks.LineOp op a)) e = refl
  answered_same w v (Does f (tasks.Load a width signed to)) e = refl
  answered_same w v (Does f (tasks.Store a width value)) e = refl
  answered_same w v (Does f (tasks.LoadPast a width signed to)) e = absurd (cc)
  answered_same w v (Does f (tasks.StorePast a width value)) e = absurd (cc)

  -- it writes nothing that cores share
  pub local_world : (w : World) → wants b map k row w.book c ≡ None → (core_turn b map k row c w).world ≡ w
  local_world w e = ap (λ (t : CoreTurn). t.world) (local_is w e)

  pub local_request : (w : World) → wants b map k row w.book c ≡ None → (core_turn b map k row c w).request ≡ None
  local_request w e = ap (λ (t : CoreTurn). t.request) (local_is w e)

  pub local_count : (w : World) → wants b map k row w.book c ≡ None → (core_turn b map k row c w).core.local ≡ c.local + 1
  local_count w e = ap (λ (t : CoreTurn). t.core.local) (local_is w e)

  turned_same : (w v : World) → KnowsSame b k w.book v.book → wants b map k row w.book c ≡ None → answered b map k c v (untransferred v) (intent b map k row v.book c) ≡ answered b map k c w (untransferred w) (intent b map k row w.book c)
  turned_same w v same e =
      ap (λ (i : Intent). answered b map k c v (untransferred v) i) (intent_same b map k w.book v.book same row c)
      ∙ answered_same w v (intent b map k row w.book c) e

  -- and its core and its act are the same in each world of which the core knows the same
  pub local_core : (w v : World) → KnowsSame b k w.book v.book → wants b map k row w.book c ≡ None → (core_turn b map k row c v).core ≡ (core_turn b map k row c w).core
  local_core w v same e =
      ap (λ (t : CoreTurn). t.core) (local_is v (wants_same b map k w.book v.book same row c ∙ e))
      ∙ ap (λ (t : Turned). core_after b c t None) (turned_same w v same e)
      ∙ sym (ap (λ (t : CoreTurn). t.core) (local_is w e))

  pub local_act : (w v : World) → KnowsSame b k w.book v.book → wants b map k row w.book c ≡ None → (core_turn b map k row c v).act ≡ (core_turn b map k row c w).act
  local_act w v same e =
      ap (λ (t : CoreTurn). t.act) (local_is v (wants_same b map k w.book v.book same row c ∙ e))
      ∙ ap (λ (t : Turned). t.act) (turned_same w v same e)
      ∙ sym (ap (λ (t : CoreTurn). t.act) (local_is w e))

  -- after a turn with a transfer it counts anew
  pub entered_local : (w : World) (request : Request) → wants b map k row w.book c ≡ Some request → (core_turn b map k row c w).core.local ≡ 0
  unfolding core_turn
  entered_local w request e = ap (λ (o : Option Request). (turn_with b map k c w (intent b map k row w.book c) o (served_by b map k w o)).core.local) e
