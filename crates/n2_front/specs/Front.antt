-- The front of a core: what a core is in both machines, with caches and without.
use Rattle.std.specs.Prelude.{ℕ, List, [], ◌∷◌, Bool, true, false, Option, Some, None}
use Rattle.n2_word.specs.declared.Width.{Width}
use Rattle.n2_elf.specs.declared.image.Image.{Image}
use Rattle.n2_exec.specs.declared.registers.Regs.{Regs}
use Rattle.n2_exec.specs.Registers.{reset_regs, passed_regs, loaded_regs, latched}
use Rattle.n2_exec.specs.Outcomes.{loaded_value}
use Rattle.n2_parts.specs.declared.board.CoreRow.{CoreRow}
use Rattle.n2_parts.specs.declared.stops.Stop.{Stop}
use Rattle.n2_board.specs.Placement.{first_pc}
use Rattle.n2_watch.specs.declared.past.Past.{Past}
use Rattle.n2_watch.specs.declared.past.Past.TheVariants.{Touch}

-- its registers; why it stopped, if it did, by `break`, a refusal or a stray access; and its past events, the newest first
pub record Front : Type 0 where
  pub regs : Regs
  pub stop : Option Stop
  pub past : List Past

-- before the first instruction: the program counter is the board's or else the image's, and all that is not given is 0
abbrev pub started_front : CoreRow → Image → Front
started_front row image = record { regs = reset_regs (first_pc row image.entry) row.cpuid row.exception; stop = None; past = [] }

-- with other registers
abbrev pub with_regs : Front → Regs → Front
with_regs f regs = record { regs = regs; stop = f.stop; past = f.past }

-- on to the next instruction
abbrev pub advanced : Front → Front
advanced f = with_regs f (passed_regs f.regs)

-- the core stops, and nothing else changes
abbrev pub stopped : Front → Stop → Front
stopped f stop = record { regs = f.regs; stop = Some stop; past = f.past }

-- with one more past event
abbrev pub noted : Front → Past → Front
noted f event = record { regs = f.regs; stop = f.stop; past = event ∷ f.past }

-- these interrupt lines are latched
abbrev pub sampled : Front → ℕ → Front
sampled f lines = with_regs f (latched f.regs lines)

-- a load through the cache that read a value from a line
abbrev pub loaded_front : Front → ℕ → Width → Bool → ℕ → ℕ → Front
loaded_front f line width signed to value = noted (with_regs f (loaded_regs f.regs to (loaded_value width signed value))) (Touch line false)

-- a store through the cache to a line
abbrev pub stored_front : Front → ℕ → Front
stored_front f line = noted (advanced f) (Touch line true)
