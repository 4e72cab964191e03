-- What a core's code is about to do, as the definition's intents.
use Rattle.std.specs.Prelude.{◌≡◌, ℕ, ◌<◌, ◌^◌, nat_le, if◌then◌else◌, List, Option, Some, None}
use Rattle.n2_word.specs.declared.Width.TheVariants.{Word}
use Rattle.n2_exec.specs.declared.registers.Regs.{Regs}
use Rattle.n2_exec.specs.declared.Asked.{Asked}
use Rattle.n2_exec.specs.declared.Asked.TheVariants as asked
use Rattle.n2_exec.specs.Outcomes.{IsProper, HasAddress}
use Rattle.n2_parts.specs.declared.board.Board.{Board}
use Rattle.n2_parts.specs.MemoryLines.{HasLine}
use Rattle.n2_board.specs.declared.classes.Class.TheVariants.{Code}
use Rattle.n2_board.specs.AddressMap.{AddressMap, class_of}
use Rattle.n2_dcache.specs.declared.Held.{Held}
use Rattle.n2_dcache.specs.Cache.{slot_at, found}
use Rattle.n2_watch.specs.declared.past.Past.{Past}
use Rattle.n2_watch.specs.Book.{Book, knowledge}
use Rattle.n2_front.specs.Front.{Front, with_regs}
use Rattle.n2_front.specs.Tasks.{task_of, task_breach}
use Rattle.n2_cpu.specs.declared.aim.Aim.{Aim}
use Rattle.n2_cpu.specs.declared.aim.Aim.TheVariants as aims
use Rattle.n2_front.specs.Core as fronts
use Rattle.n2_cpu.specs.declared.state.TurnKind.{TurnKind}
use Rattle.n2_cpu.specs.declared.state.TurnKind.TheVariants as kinds
use Rattle.n2_front.specs.Turn.{Intent, Samples, Evicts, Interrupts, Stops, FillsCode, Does}

-- the kind of a turn, as the definition names it
abbrev pub kind_of : TurnKind → fronts.TurnKind
kind_of kinds.Sample = fronts.SampleTurn
kind_of kinds.Evict = fronts.EvictTurn
kind_of kinds.Step = fronts.StepTurn

-- with the registers as the instruction left them
abbrev pub intent_of : Front → Regs → Aim → Intent
intent_of f regs aims.Sample = Samples
intent_of f regs (aims.Evict set) = Evicts set
intent_of f regs aims.Interrupt = Interrupts
intent_of f regs (aims.Stop stop) = Stops stop
intent_of f regs (aims.FillCode number) = FillsCode number
intent_of f regs (aims.Do what at) = Does (with_regs f regs) (task_of what)

-- a set is one of the cache, and what an instruction asks for is aligned
abbrev pub IsFit : ℕ → Aim → Type 0
IsFit sets aims.Sample = Unit {0}
IsFit sets (aims.Evict set) = set < sets
IsFit sets aims.Interrupt = Unit {0}
IsFit sets (aims.Stop stop) = Unit {0}
IsFit sets (aims.FillCode number) = Unit {0}
IsFit sets (aims.Do what at) = IsProper what × HasAddress what

-- registers change only where nothing is left to do
abbrev pub AskedKeeps : Asked → Regs → Regs → Type 0
AskedKeeps asked.Done old new = Unit {0}
AskedKeeps _ old new = new ≡ old

abbrev pub Keeps : Aim → Regs → Regs → Type 0
Keeps (aims.Do what at) old new = AskedKeeps what old new
Keeps _ old new = new ≡ old

-- ---- what a core keeps of the lines that it holds: each is in a memory of the board, and code lines have class Code
abbrev pub AreThere : Board → List (Option Held) → Type 0
AreThere b slots = (set : ℕ) (held : Held) → slot_at slots set ≡ Some held → HasLine b.memory held.line

pub record AreCode (b : Board) (map : AddressMap) (slots : List (Option Held)) : Type 0 where
  pub there : AreThere b slots
  pub code : (set : ℕ) (held : Held) → slot_at slots set ≡ Some held → class_of map held.line ≡ Code

-- the word at a program counter below bit 31, where its line is held
abbrev pub held_word : List (Option Held) → ℕ → Option ℕ
held_word slots pc = if nat_le (2 ^ 31) pc then None else found slots pc Word

-- what is known of what a core is about to do: a fetched line is code in a memory, and a task breaks nothing
abbrev pub IsMeant : Board → AddressMap → ℕ → Book → List Past → Intent → Type 0
IsMeant b map k book past Samples = Unit {0}
IsMeant b map k book past (Evicts set) = Unit {0}
IsMeant b map k book past Interrupts = Unit {0}
IsMeant b map k book past (Stops stop) = Unit {0}
IsMeant b map k book past (FillsCode number) = HasLine b.memory number × (class_of map number ≡ Code)
IsMeant b map k book past (Does f task) = task_breach b map (knowledge b book k past) task ≡ None
