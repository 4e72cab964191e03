-- The kinds of outcome of an instruction.
use Rattle.std.specs.Prelude.{ℕ, ◌+◌, ◌*◌, ◌/◌, ◌%◌, ◌^◌, ◌<◌, ◌==◌, Bool, true, false, IsTrue, if◌then◌else◌}
use Rattle.n2_word.specs.declared.Width.{Width}
use Rattle.n2_word.specs.declared.Width.TheVariants.{Byte, Half, Word}
use Rattle.n2_word.specs.Words.{size, is_aligned, low_bits, signed_byte, signed_half}
use Rattle.n2_insn.specs.declared.LoadOp.{LoadOp}
use Rattle.n2_insn.specs.declared.LoadOp.TheVariants.{Ldbu, Ldb, Ldhu, Ldh, Ldw}
use Rattle.n2_insn.specs.declared.JumpOp.{JumpOp}
use Rattle.n2_insn.specs.declared.JumpOp.TheVariants.{Call, Jmpi}
use Rattle.n2_insn.specs.declared.BranchOp.{BranchOp}
use Rattle.n2_insn.specs.declared.RegOp.{RegOp}
use Rattle.n2_exec.specs.declared.registers.Regs.{Regs}
use Rattle.n2_exec.specs.declared.Cause.TheVariants.{MisalignedData, MisalignedTarget, Division}
use Rattle.n2_exec.specs.declared.Outcome.{Outcome}
use Rattle.n2_exec.specs.declared.Outcome.TheVariants.{Next, Load, Store, LineOp, CodeOp, Raise, Broke}
use Rattle.n2_exec.specs.declared.Asked.{Asked}
use Rattle.n2_exec.specs.declared.Asked.TheVariants as asked
use Rattle.n2_exec.specs.Registers.{reg, passed_regs, loaded_regs, linked}
use Rattle.n2_exec.specs.Values.{is_taken, has_quotient, reg_value}

-- a register is written and the next instruction follows
abbrev pub computed : Regs → ℕ → ℕ → Outcome
computed regs n value = Next (loaded_regs regs n value)

-- on at an address, which has to be a multiple of 4
abbrev pub jumped : Regs → ℕ → Outcome
jumped regs address = if address % 4 == 0 then Next (record regs { pc = address }) else Raise MisalignedTarget

-- bits 31 to 28 of the program counter joined to 4 times the target
abbrev pub joined : ℕ → ℕ → ℕ
joined pc target = pc / 2 ^ 28 * 2 ^ 28 + target * 4

-- a jump to a given place: call writes the address of the next instruction to r31
abbrev pub jump : Regs → JumpOp → ℕ → Outcome
jump regs Call target = Next (record (linked regs) { pc = joined regs.pc target })
jump regs Jmpi target = Next (record regs { pc = joined regs.pc target })

-- where a branch goes: past the next instruction by the immediate with its sign
abbrev pub branched : Regs → ℕ → Outcome
branched regs imm = jumped regs ((regs.pc + 4 + signed_half imm) % 2 ^ 32)

-- a conditional branch, by rA and rB
abbrev pub branch : Regs → BranchOp → ℕ → ℕ → ℕ → Outcome
branch regs op a b imm = if is_taken op a b then branched regs imm else Next (passed_regs regs)

-- a value of rA and rB; a division without a quotient raises
abbrev pub reg_outcome : Regs → RegOp → ℕ → ℕ → ℕ → Outcome
reg_outcome regs op a b to = if has_quotient op a b then computed regs to (reg_value op a b) else Raise Division

-- rA + the immediate with its sign
abbrev pub data_address : Regs → ℕ → ℕ → ℕ
data_address regs a imm = (reg regs a + signed_half imm) % 2 ^ 32

-- how many bytes a load has
abbrev pub load_width : LoadOp → Width
load_width Ldbu = Byte
load_width Ldb = Byte
load_width Ldhu = Half
load_width Ldh = Half
load_width Ldw = Word

-- whether a load extends a sign
abbrev pub load_signed : LoadOp → Bool
load_signed Ldbu = false
load_signed Ldb = true
load_signed Ldhu = false
load_signed Ldh = true
load_signed Ldw = false

-- a load, whose address has to be a multiple of its size
abbrev pub loads : ℕ → LoadOp → Bool → ℕ → Outcome
loads address op io to =
    if is_aligned address (load_width op) then Load address (load_width op) (load_signed op) io to
    else Raise MisalignedData

-- a store of the low bits of a register, whose address has to be a multiple of its size
abbrev pub stores : ℕ → Width → ℕ → Bool → Outcome
stores address width value io =
    if is_aligned address width then Store address width (low_bits width value) io
    else Raise MisalignedData

-- what a load writes, by the byte, half or word that it read: the sign is extended where the load says so
abbrev pub loaded_value : Width → Bool → ℕ → ℕ
loaded_value Byte signed value = if signed then signed_byte (value % 2 ^ 8) else value % 2 ^ 8
loaded_value Half signed value = if signed then signed_half (value % 2 ^ 16) else value % 2 ^ 16
loaded_value Word signed value = value % 2 ^ 32

-- the registers after an outcome: as before it where something is left to do
abbrev pub regs_of : Regs → Outcome → Regs
regs_of regs (Next next) = next
regs_of regs _ = regs

-- what an outcome leaves to do
abbrev pub asked_of : Outcome → Asked
asked_of (Next regs) = asked.Done
asked_of (Load address width signed io to) = asked.Load address width signed io to
asked_of (Store address width value io) = asked.Store address width value io
asked_of (LineOp op address) = asked.LineOp op address
asked_of (CodeOp address) = asked.CodeOp address
asked_of (Raise cause) = asked.Raise cause
asked_of Broke = asked.Broke

-- the outcome of these registers and of what is left to do
abbrev pub outcome_of : Regs → Asked → Outcome
outcome_of regs asked.Done = Next regs
outcome_of regs (asked.Load address width signed io to) = Load address width signed io to
outcome_of regs (asked.Store address width value io) = Store address width value io
outcome_of regs (asked.LineOp op address) = LineOp op address
outcome_of regs (asked.CodeOp address) = CodeOp address
outcome_of regs (asked.Raise cause) = Raise cause
outcome_of regs asked.Broke = Broke

-- an access that is asked for is aligned, a loaded register is there, and a stored value fits its width
abbrev pub IsProper : Asked → Type 0
IsProper (asked.Load address width signed io to) = IsTrue (is_aligned address width) × (to < 32)
IsProper (asked.Store address width value io) = IsTrue (is_aligned address width) × (value < 2 ^ (8 * size width))
IsProper _ = Unit {0}

-- an address that is asked for is of 32 bits
abbrev pub HasAddress : Asked → Type 0
HasAddress (asked.Load address width signed io to) = address < 2 ^ 32
HasAddress (asked.Store address width value io) = address < 2 ^ 32
HasAddress (asked.LineOp op address) = address < 2 ^ 32
HasAddress (asked.CodeOp address) = address < 2 ^ 32
HasAddress _ = Unit {0}
