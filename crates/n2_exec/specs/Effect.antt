-- The effects of the instructions (Nios II Processor Reference Guide, "Instruction Set Reference").
use Rattle.std.specs.Prelude.{ℕ, Option, Some, None}
use Rattle.n2_insn.specs.declared.Insn.{Insn}
use Rattle.n2_insn.specs.declared.Insn.TheVariants.{Jump, Imm, Br, Branch, Load, Store, Data, Code, Reg, Shift, Jmp, Callr, Ret, Eret, Nextpc, Rdctl, Wrctl, Trap, Break, Flushp, Sync}
use Rattle.n2_insn.specs.Table.{table_insn}
use Rattle.n2_exec.specs.declared.registers.Regs.{Regs}
use Rattle.n2_exec.specs.declared.Cause.TheVariants.{Illegal}
use Rattle.n2_exec.specs.declared.Cause.TheVariants as Cause
use Rattle.n2_exec.specs.declared.Outcome.{Outcome}
use Rattle.n2_exec.specs.declared.Outcome.TheVariants.{Next, LineOp, CodeOp, Raise, Broke}
use Rattle.n2_exec.specs.Registers.{reg, next_pc, passed_regs, linked, restored, control, with_control}
use Rattle.n2_exec.specs.Values.{imm_value, shift_value}
use Rattle.n2_exec.specs.Outcomes.{computed, jumped, jump, branched, branch, reg_outcome, data_address, loads, stores}

-- what an instruction does
unfoldable pub effect_of : Regs → Insn → Outcome
effect_of regs (Jump op target) = jump regs op target
effect_of regs (Imm op a b imm) = computed regs b (imm_value op (reg regs a) imm)
effect_of regs (Br imm) = branched regs imm
effect_of regs (Branch op a b imm) = branch regs op (reg regs a) (reg regs b) imm
effect_of regs (Load op io a b imm) = loads (data_address regs a imm) op io b
effect_of regs (Store width io a b imm) = stores (data_address regs a imm) width (reg regs b) io
effect_of regs (Data op a imm) = LineOp op (data_address regs a imm)
effect_of regs (Code op a) = CodeOp (reg regs a)
effect_of regs (Reg op a b c) = reg_outcome regs op (reg regs a) (reg regs b) c
effect_of regs (Shift op a c by) = computed regs c (shift_value op (reg regs a) by)
effect_of regs (Jmp a) = jumped regs (reg regs a)
effect_of regs (Callr a) = jumped (linked regs) (reg regs a)
effect_of regs Ret = jumped regs (reg regs 31)
effect_of regs Eret = jumped (restored regs) (reg regs 29)
effect_of regs (Nextpc c) = computed regs c (next_pc regs)
effect_of regs (Rdctl c n) = computed regs c (control regs n)
effect_of regs (Wrctl n a) = Next (passed_regs (with_control regs n (reg regs a)))
effect_of regs (Trap imm) = Raise Cause.Trap
effect_of regs (Break imm) = Broke
effect_of regs Flushp = Next (passed_regs regs)
effect_of regs Sync = Next (passed_regs regs)

-- what a word does: one outside the instruction table raises
abbrev pub effect_found : Regs → Option Insn → Outcome
effect_found regs None = Raise Illegal
effect_found regs (Some insn) = effect_of regs insn

unfoldable pub effect_of_word : Regs → ℕ → Outcome
effect_of_word regs word = effect_found regs (table_insn word)
