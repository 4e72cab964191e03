-- What every instruction leaves as it was.
use Rattle.std.specs.Prelude.{◌≡◌, ◌%◌, ◌<◌, length}
use Rattle.n2_exec.specs.declared.registers.Regs.{Regs}

-- latched lines, cpuid and exception address stay, and so does the number of registers; the program counter stays a multiple of 4
pub record Follows (regs next : Regs) : Type 0 where
  pub latch : next.latch ≡ regs.latch
  pub cpuid : next.cpuid ≡ regs.cpuid
  pub vector : next.vector ≡ regs.vector
  pub count : length next.gpr ≡ length regs.gpr
  pub aligned : regs.pc % 4 ≡ 0 → next.pc % 4 ≡ 0

-- status, estatus and bstatus have bit 0 alone
pub record HasBits (regs : Regs) : Type 0 where
  pub status : regs.status < 2
  pub estatus : regs.estatus < 2
  pub bstatus : regs.bstatus < 2
