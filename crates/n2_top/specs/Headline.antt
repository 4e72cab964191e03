-- The sentence that a run by threads carries, part by part:
--
-- Whatever the images, the board and the order in which threads get the bus, the written journal replays as a finished run of
-- the caching machine, and along its order the reported registers, UART bytes, stops and refusals, and every load, are those
-- of one flat memory without caches, each core's instructions in their own order, refused exactly where the discipline is
-- broken.
use Rattle.std.specs.Prelude.{◌≡◌, ◌≢◌, ◌↔◌, ℕ, List, [], ◌∷◌, ◌++◌, length, Option, Some, None, option_map, Result, Ok, if◌then◌else◌, slice_get, codes, IsTrue, ⊤}
use Rattle.n2_word.specs.declared.Width.TheVariants.{Word}
use Rattle.n2_exec.specs.declared.Outcome.{Outcome}
use Rattle.n2_exec.specs.Registers.{is_waiting}
use Rattle.n2_exec.specs.Outcomes.{regs_of, asked_of}
use Rattle.n2_exec.specs.Effect.{effect_of_word}
use Rattle.n2_parts.specs.declared.board.Board.{Board}
use Rattle.n2_parts.specs.declared.stops.Stop.{Stop}
use Rattle.n2_parts.specs.declared.stops.Act.{Act}
use Rattle.n2_parts.specs.declared.stops.Act.TheVariants.{Retire, Sample, Device}
use Rattle.n2_board.specs.AddressMap.{AddressMap}
use Rattle.n2_memory.specs.Memories.{read_at}
use Rattle.n2_memory.specs.Start as first
use Rattle.n2_journal.specs.Journals.{Content}
use Rattle.n2_journal.specs.Texts.{journal_text}
use Rattle.n2_journal.specs.Reading.{read}
use Rattle.n2_watch.specs.declared.access.Access.TheVariants.{Fetch}
use Rattle.n2_watch.specs.Discipline.{Breach, breach}
use Rattle.n2_watch.specs.World.{World}
use Rattle.n2_front.specs.Front.{Front, with_regs}
use Rattle.n2_front.specs.Tasks.{Task, task_of, task_breach, task_address, stop_for}
use Rattle.n2_front.specs.Retire.{who}
use Rattle.n2_runs.specs.Machine.{start, turn}
use Rattle.n2_runs.specs.Agree.{Agree}
use Rattle.n2_runs.specs.Along.{after}
use Rattle.n2_runs.specs.Recorded.{Records, actors_of}
use Rattle.n2_runs.specs.Replay.{replayed}
use Rattle.n2_report.specs.Stops.{is_refused}
use Rattle.n2_report.specs.OfFlat.{flat_flat_part}
use Rattle.n2_report.specs.OfRun.{run_report, run_status}
use Rattle.n2_outside.specs.Bytes.{appended}
use Rattle.n2_inputs.specs.declared.inputs.Inputs.{Inputs}
use Rattle.n2_inputs.specs.declared.refusal.Refusal.{Refusal}
use Rattle.n2_inputs.specs.Asked.{IsReady}
use Rattle.n2_top.specs.Machines.{caching, without_caches}

-- ---- the flat machine beside the machine with caches, along an order of turns

abbrev pub Agreeing : Inputs → List ℕ → Type 0
Agreeing inputs order =
    Agree inputs.board inputs.layout (first.start inputs.board.memory inputs.images) (caching inputs order) (without_caches inputs order)

-- ---- each core's instructions in their own order

-- the act of an actor's turn after the turns of others: the next instruction of its core, an interrupt or a sample, or the
-- next event; none where its turn moves lines alone, or where it is over
abbrev pub next_act : Inputs → List ℕ → ℕ → Option Act
next_act inputs order actor = (turn inputs.board inputs.layout (caching inputs order) actor).act

abbrev pub IsOwn : Board → ℕ → Option Act → Type 0
IsOwn b actor None = ⊤
IsOwn b actor (Some (Retire core)) = core ≡ actor
IsOwn b actor (Some (Sample core)) = core ≡ actor
IsOwn b actor (Some (Device event)) = actor ≡ length b.core

-- the flat machine makes the act of the actor's turn, which is the actor's own, and no other core sees it
pub record IsOwnTurn (inputs : Inputs) (order : List ℕ) (actor : ℕ) : Type 0 where
  pub own : IsOwn inputs.board actor (next_act inputs order actor)
  pub made : without_caches inputs (order ++ actor ∷ []) ≡ after inputs.board inputs.layout (without_caches inputs order) (next_act inputs order actor)
  pub others : (core : ℕ) → core ≢ actor → slice_get (without_caches inputs (order ++ actor ∷ [])).cores core ≡ slice_get (without_caches inputs order).cores core

-- ---- where the discipline is broken

-- a load, a store or an operation on the data cache that breaks it
abbrev pub broken_task : Board → AddressMap → ℕ → Front → World → ℕ → Task → Option Stop
broken_task b map k f w word task = option_map (λ (why : Breach). stop_for why f.regs.pc word (task_address task)) (task_breach b map (who b k f w.book) task)

unfoldable pub broken_word : Board → AddressMap → ℕ → Front → World → ℕ → Outcome → Option Stop
broken_word b map k f w word outcome = broken_task b map k (with_regs f (regs_of f.regs outcome)) w word (task_of (asked_of outcome))

-- a fetch that breaks it, or else what the word at the program counter asks for
abbrev pub broken_by : Board → AddressMap → ℕ → Front → World → Option Breach → Option Stop
broken_by b map k f w None = broken_word b map k f w (read_at w.memory f.regs.pc Word) (effect_of_word f.regs (read_at w.memory f.regs.pc Word))
broken_by b map k f w (Some why) = Some (stop_for why f.regs.pc 0 f.regs.pc)

-- the stop of core k at its next instruction, where that breaks the discipline in the flat machine; an interrupt that waits
-- comes before it
unfoldable pub broken : Board → AddressMap → ℕ → Front → World → Option Stop
broken b map k f w = if is_waiting f.regs then None else broken_by b map k f w (breach b map (who b k f w.book) (Fetch f.regs.pc) Word)

-- a core that ran before its turn is refused or strays by the turn exactly where its turn is that of its next instruction and this
-- breaks the discipline, with this kind, program counter, word, address and line
abbrev pub IsRefusedWhereBroken : Inputs → List ℕ → ℕ → Front → Front → Type 0
IsRefusedWhereBroken inputs order core f g =
    (stop : Stop) → IsTrue (is_refused (Some stop))
    → (g.stop ≡ Some stop) ↔ ((next_act inputs order core ≡ Some (Retire core)) × (broken inputs.board inputs.layout core f (without_caches inputs order).world ≡ Some stop))

-- ---- the sentence, of what was asked, of the status, and of what the two sinks told before and tell now
pub record Headline (asked : Result Inputs Refusal) (status : ℕ) (journal journal_now report report_now : Option (List ℕ)) : Type 0 where
  -- whatever the images, the board
  pub inputs : Inputs
  pub images_and_board : (asked ≡ Ok inputs) × IsReady inputs
  -- and the order in which threads get the bus
  pub drawn : Content
  -- the written journal
  pub written : (journal_now ≡ appended journal (journal_text drawn)) × (read (journal_text drawn) ≡ Ok drawn)
  -- replays as a finished run of the caching machine
  pub replays : Records inputs.board inputs.layout (start inputs.board inputs.images) drawn × (replayed inputs.board inputs.layout (start inputs.board inputs.images) drawn ≡ Ok (caching inputs (actors_of drawn)))
  -- and along its order the reported
  pub reported : (report_now ≡ appended report (run_report inputs.board inputs.layout (caching inputs (actors_of drawn)))) × (status ≡ run_status (caching inputs (actors_of drawn)))
  -- registers, UART bytes, stops and refusals
  pub registers_bytes_and_stops : (rest : List ℕ) × (run_report inputs.board inputs.layout (caching inputs (actors_of drawn)) ≡ codes "nios2 report 1\n" ++ flat_flat_part inputs.board (without_caches inputs (actors_of drawn)) ++ rest)
  -- and every load, are those of one flat memory without caches
  pub every_load : (order rest : List ℕ) → order ++ rest ≡ actors_of drawn → Agreeing inputs order
  -- each core's instructions in their own order
  pub own_order : (order rest : List ℕ) (actor : ℕ) → order ++ actor ∷ rest ≡ actors_of drawn → IsOwnTurn inputs order actor
  -- refused exactly where the discipline is broken
  pub refused : (order rest : List ℕ) (core : ℕ) (f g : Front) → order ++ core ∷ rest ≡ actors_of drawn → f.stop ≡ None
      → slice_get (without_caches inputs order).cores core ≡ Some f → slice_get (without_caches inputs (order ++ core ∷ [])).cores core ≡ Some g
      → IsRefusedWhereBroken inputs order core f g
