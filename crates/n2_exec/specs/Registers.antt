-- The registers of a core, and exceptions (Nios II Processor Reference Guide, "Registers" and "Exception Processing").
use Rattle.std.specs.Prelude.{◌≡◌, ℕ, ◌+◌, ◌%◌, ◌^◌, ◌<◌, ◌==◌, ◌&&◌, Bool, not, List, length, replicate, All, slice_index, slice_set, bit_and, if◌then◌else◌}
use Rattle.n2_exec.specs.declared.registers.Regs.{Regs}

-- before the first instruction: all that is not given is 0
abbrev pub reset_regs : ℕ → ℕ → ℕ → Regs
reset_regs pc cpuid vector =
    record { pc = pc; gpr = replicate 32 0; status = 0; estatus = 0; bstatus = 0; ienable = 0; latch = 0; cpuid = cpuid; vector = vector }

-- what a register reads: r0 reads 0
abbrev pub reg : Regs → ℕ → ℕ
reg regs n = if n == 0 then 0 else slice_index regs.gpr n

-- the registers after a write of one of them: a write to r0 is dropped
abbrev pub written : List ℕ → ℕ → ℕ → List ℕ
written gpr n value = if n == 0 then gpr else slice_set gpr n value

-- with a register written
abbrev pub with_reg : Regs → ℕ → ℕ → Regs
with_reg regs n value = record regs { gpr = written regs.gpr n value }

-- the address of the next instruction
abbrev pub next_pc : Regs → ℕ
next_pc regs = (regs.pc + 4) % 2 ^ 32

-- on to the next instruction
abbrev pub passed_regs : Regs → Regs
passed_regs regs = record regs { pc = next_pc regs }

-- on to the next instruction, with a register written
abbrev pub loaded_regs : Regs → ℕ → ℕ → Regs
loaded_regs regs to value = passed_regs (with_reg regs to value)

-- with the address of the next instruction in r31
abbrev pub linked : Regs → Regs
linked regs = with_reg regs 31 (next_pc regs)

-- with status as it was before the exception
abbrev pub restored : Regs → Regs
restored regs = record regs { status = regs.estatus }

-- a control register: status 0, estatus 1, bstatus 2, ienable 3, ipending 4, cpuid 5; others read 0
abbrev pub control : Regs → ℕ → ℕ
control regs n =
    if n == 0 then regs.status
    else (if n == 1 then regs.estatus
    else (if n == 2 then regs.bstatus
    else (if n == 3 then regs.ienable
    else (if n == 4 then bit_and regs.latch regs.ienable
    else (if n == 5 then regs.cpuid
    else 0)))))

-- after a write of a control register: status, estatus and bstatus keep bit 0, writes to others than 0 to 3 are ignored
abbrev pub with_control : Regs → ℕ → ℕ → Regs
with_control regs n value =
    record regs {
      status = if n == 0 then value % 2 else regs.status;
      estatus = if n == 1 then value % 2 else regs.estatus;
      bstatus = if n == 2 then value % 2 else regs.bstatus;
      ienable = if n == 3 then value else regs.ienable;
    }

-- an exception: estatus takes status, PIE is cleared, r29 takes the address after the instruction, and the core goes to its exception address
abbrev pub raised : Regs → Regs
raised regs =
    record regs {
      estatus = regs.status;
      status = 0;
      gpr = written regs.gpr 29 (next_pc regs);
      pc = regs.vector;
    }

-- an interrupt: the same, where the program counter is at the instruction that would have run next
abbrev pub interrupted : Regs → Regs
interrupted regs = raised regs

-- with these interrupt lines latched, in place of those latched before
abbrev pub latched : Regs → ℕ → Regs
latched regs lines = record regs { latch = lines }

-- whether an interrupt waits: PIE is 1 and a latched line is enabled
abbrev pub is_waiting : Regs → Bool
is_waiting regs = regs.status % 2 == 1 && not (bit_and regs.latch regs.ienable == 0)

-- registers of 32 bits
pub record AreWords (regs : Regs) : Type 0 where
  pub pc : regs.pc < 2 ^ 32
  pub count : length regs.gpr ≡ 32
  pub gpr : All (λ value. value < 2 ^ 32) regs.gpr
  pub status : regs.status < 2 ^ 32
  pub estatus : regs.estatus < 2 ^ 32
  pub bstatus : regs.bstatus < 2 ^ 32
  pub ienable : regs.ienable < 2 ^ 32
  pub latch : regs.latch < 2 ^ 32
  pub cpuid : regs.cpuid < 2 ^ 32
  pub vector : regs.vector < 2 ^ 32
