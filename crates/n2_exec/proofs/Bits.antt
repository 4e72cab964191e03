-- The status registers keep one bit each, whatever the instruction.
use Rattle.std.proofs.Common.{◌≡◌, ℕ, ◌%◌, ◌<◌, ◌==◌, cond, Bool, true, false, refl, arith}
use Rattle.n2_insn.specs.declared.Insn.{Insn}
use Rattle.n2_insn.specs.declared.Insn.TheVariants.{Jump, Imm, Br, Branch, Load, Store, Data, Code, Reg, Shift, Jmp, Callr, Ret, Eret, Nextpc, Rdctl, Wrctl, Trap, Break, Flushp, Sync}
use Rattle.n2_insn.specs.declared.JumpOp.TheVariants.{Call, Jmpi}
use Rattle.n2_word.specs.Words.{is_aligned}
use Rattle.n2_exec.specs.declared.registers.Regs.{Regs}
use Rattle.n2_exec.specs.Registers.{reset_regs, reg, passed_regs, loaded_regs, linked, restored, with_control, raised, latched}
use Rattle.n2_exec.specs.Values.{is_taken, has_quotient}
use Rattle.n2_exec.specs.Outcomes.{jumped, load_width, regs_of}
use Rattle.n2_exec.specs.Effect.{effect_of}
use Rattle.n2_exec.specs.Follow.{HasBits}
use Rattle.n2_exec.proofs.Proper.{either}

same : (regs next : Regs) → next.status ≡ regs.status → next.estatus ≡ regs.estatus → next.bstatus ≡ regs.bstatus → HasBits regs → HasBits next
same regs next s e b h = record { status = omega (arith, h.status); estatus = omega (arith, h.estatus); bstatus = omega (arith, h.bstatus) }

pub passed-bits : (regs : Regs) → HasBits regs → HasBits (passed_regs regs)
passed-bits regs h = same regs (passed_regs regs) refl refl refl h

pub loaded-bits : (regs : Regs) (to value : ℕ) → HasBits regs → HasBits (loaded_regs regs to value)
loaded-bits regs to value h = same regs (loaded_regs regs to value) refl refl refl h

pub raised-bits : (regs : Regs) → HasBits regs → HasBits (raised regs)
raised-bits regs h = record { status = omega arith; estatus = h.status; bstatus = h.bstatus }

at-bits : (next : Regs) (address : ℕ) → HasBits next → HasBits (record next { pc = address })
at-bits next address h = record { status = h.status; estatus = h.estatus; bstatus = h.bstatus }

jumped-bits : (regs next : Regs) (address : ℕ) → HasBits regs → HasBits next → HasBits (regs_of regs (jumped next address))
jumped-bits regs next address h n =
    either (λ o. HasBits (regs_of regs o)) (address % 4 == 0) _ _ (λ _. at-bits next address n) h

linked-bits : (regs : Regs) → HasBits regs → HasBits (linked regs)
linked-bits regs h = record { status = h.status; estatus = h.estatus; bstatus = h.bstatus }

bit : (chosen : Bool) (value kept : ℕ) → kept < 2 → cond chosen (value % 2) kept < 2
bit true value kept h = omega arith
bit false value kept h = h

control-bits : (regs : Regs) (n value : ℕ) → HasBits regs → HasBits (with_control regs n value)
control-bits regs n value h =
    record { status = bit (n == 0) value regs.status h.status; estatus = bit (n == 1) value regs.estatus h.estatus; bstatus = bit (n == 2) value regs.bstatus h.bstatus }

restored-bits : (regs : Regs) → HasBits regs → HasBits (restored regs)
restored-bits regs h = record { status = h.estatus; estatus = h.estatus; bstatus = h.bstatus }

pub latched-bits : (regs : Regs) (lines : ℕ) → HasBits regs → HasBits (latched regs lines)
latched-bits regs lines h = record { status = h.status; estatus = h.estatus; bstatus = h.bstatus }

pub reset-bits : (pc cpuid vector : ℕ) → HasBits (reset_regs pc cpuid vector)
reset-bits pc cpuid vector = record { status = omega arith; estatus = omega arith; bstatus = omega arith }

pub bits : (regs : Regs) (insn : Insn) → HasBits regs → HasBits (regs_of regs (effect_of regs insn))
unfolding effect_of
bits regs (Jump Call target) h = at-bits (linked regs) _ (linked-bits regs h)
bits regs (Jump Jmpi target) h = at-bits regs _ h
bits regs (Imm op a b imm) h = loaded-bits regs b _ h
bits regs (Br imm) h = jumped-bits regs regs _ h h
bits regs (Branch op a b imm) h =
    either (λ o. HasBits (regs_of regs o)) (is_taken op (reg regs a) (reg regs b)) _ _ (λ _. jumped-bits regs regs _ h h) (passed-bits regs h)
bits regs (Load op io a b imm) h = either (λ o. HasBits (regs_of regs o)) (is_aligned _ (load_width op)) _ _ (λ _. h) h
bits regs (Store width io a b imm) h = either (λ o. HasBits (regs_of regs o)) (is_aligned _ width) _ _ (λ _. h) h
bits regs (Data op a imm) h = h
bits regs (Code op a) h = h
bits regs (Reg op a b c) h =
    either (λ o. HasBits (regs_of regs o)) (has_quotient op (reg regs a) (reg regs b)) _ _ (λ _. loaded-bits regs c _ h) h
bits regs (Shift op a c by) h = loaded-bits regs c _ h
bits regs (Jmp a) h = jumped-bits regs regs _ h h
bits regs (Callr a) h = jumped-bits regs (linked regs) _ h (linked-bits regs h)
bits regs Ret h = jumped-bits regs regs _ h h
bits regs Eret h = jumped-bits regs (restored regs) _ h (restored-bits regs h)
bits regs (Nextpc c) h = loaded-bits regs c _ h
bits regs (Rdctl c n) h = loaded-bits regs c _ h
bits regs (Wrctl n a) h = passed-bits (with_control regs n (reg regs a)) (control-bits regs n (reg regs a) h)
bits regs (Trap imm) h = h
bits regs (Break imm) h = h
bits regs Flushp h = passed-bits regs h
bits regs Sync h = passed-bits regs h
