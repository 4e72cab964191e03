-- What holds of the registers after every instruction, and of what it asks for.
use Rattle.std.proofs.Common.{◌≡◌, ℕ, ◌*◌, ◌/◌, ◌+◌, ◌%◌, ◌^◌, ◌<◌, ◌==◌, cond, Bool, true, false, nat_lt, List, length, IsTrue, refl, arith}
use Rattle.std.proofs.Math.ListN.{set, length-set}
use Rattle.std.proofs.lemmas.Bool.Decides.{nat_tests}
use Rattle.n2_word.specs.declared.Width.{Width}
use Rattle.n2_word.specs.declared.Width.TheVariants.{Byte, Half, Word}
use Rattle.n2_word.specs.Words.{size, is_aligned, low_bits}
use Rattle.n2_insn.specs.declared.Insn.{Insn}
use Rattle.n2_insn.specs.declared.Insn.TheVariants.{Jump, Imm, Br, Branch, Load, Store, Data, Code, Reg, Shift, Jmp, Callr, Ret, Eret, Nextpc, Rdctl, Wrctl, Trap, Break, Flushp, Sync}
use Rattle.n2_insn.specs.declared.JumpOp.TheVariants.{Call, Jmpi}
use Rattle.n2_insn.specs.Table.{is_valid}
use Rattle.n2_insn.proofs.Bounds.{below, second}
use Rattle.n2_exec.specs.declared.registers.Regs.{Regs}
use Rattle.n2_exec.specs.declared.Outcome.{Outcome}
use Rattle.n2_exec.specs.declared.Outcome.TheVariants as outcome
use Rattle.n2_exec.specs.declared.Asked.{Asked}
use Rattle.n2_exec.specs.Registers.{reg, written, next_pc, passed_regs, loaded_regs, linked, restored, raised}
use Rattle.n2_exec.specs.Values.{is_taken, has_quotient}
use Rattle.n2_exec.specs.Outcomes.{jumped, load_width, regs_of, asked_of, outcome_of, IsProper}
use Rattle.n2_exec.specs.Effect.{effect_of}
use Rattle.n2_exec.specs.Follow.{Follows}

-- an outcome is that of its registers and of what it leaves to do
pub again : (regs : Regs) (o : Outcome) → outcome_of (regs_of regs o) (asked_of o) ≡ o
again regs (outcome.Next next) = refl
again regs (outcome.Load address width signed io to) = refl
again regs (outcome.Store address width value io) = refl
again regs (outcome.LineOp op address) = refl
again regs (outcome.CodeOp address) = refl
again regs (outcome.Raise cause) = refl
again regs outcome.Broke = refl

pub put_together : (regs next : Regs) (left : Asked) (o : Outcome) → next ≡ regs_of regs o → left ≡ asked_of o → outcome_of next left ≡ o
put_together regs next left o n l = rw (n, l) (again regs o)

pub either : (P : Outcome → Type 0) (b : Bool) (x y : Outcome) → (b ≡ true → P x) → P y → P (cond b x y)
either P true x y p q = p refl
either P false x y p q = q

-- ---- what is asked for is proper

jumped-proper : (regs : Regs) (address : ℕ) → IsProper (asked_of (jumped regs address))
jumped-proper regs address = either (λ o. IsProper (asked_of o)) (address % 4 == 0) _ _ (λ _. tt) tt

low_bits-small : (width : Width) (value : ℕ) → low_bits width value < 2 ^ (8 * size width)
low_bits-small Byte value = omega arith
low_bits-small Half value = omega arith
low_bits-small Word value = omega arith

pub proper : (regs : Regs) (insn : Insn) → IsTrue (is_valid insn) → IsProper (asked_of (effect_of regs insn))
unfolding effect_of
proper regs (Jump Call target) v = tt
proper regs (Jump Jmpi target) v = tt
proper regs (Imm op a b imm) v = tt
proper regs (Br imm) v = jumped-proper regs _
proper regs (Branch op a b imm) v =
    either (λ o. IsProper (asked_of o)) (is_taken op (reg regs a) (reg regs b)) _ _ (λ _. jumped-proper regs _) tt
proper regs (Load op io a b imm) v =
    either (λ o. IsProper (asked_of o)) (is_aligned _ (load_width op)) _ _ (λ e. (e, below b 32 (second (nat_lt a 32) _ v))) tt
proper regs (Store width io a b imm) v =
    either (λ o. IsProper (asked_of o)) (is_aligned _ width) _ _ (λ e. (e, low_bits-small width _)) tt
proper regs (Data op a imm) v = tt
proper regs (Code op a) v = tt
proper regs (Reg op a b c) v =
    either (λ o. IsProper (asked_of o)) (has_quotient op (reg regs a) (reg regs b)) _ _ (λ _. tt) tt
proper regs (Shift op a c by) v = tt
proper regs (Jmp a) v = jumped-proper regs _
proper regs (Callr a) v = jumped-proper (linked regs) _
proper regs Ret v = jumped-proper regs _
proper regs Eret v = jumped-proper (restored regs) _
proper regs (Nextpc c) v = tt
proper regs (Rdctl c n) v = tt
proper regs (Wrctl n a) v = tt
proper regs (Trap imm) v = tt
proper regs (Break imm) v = tt
proper regs Flushp v = tt
proper regs Sync v = tt

-- ---- what every instruction leaves as it was

length-chosen : (b : Bool) (gpr : List ℕ) (n value : ℕ) → length (cond b gpr (set gpr n value)) ≡ length gpr
length-chosen true gpr n value = refl
length-chosen false gpr n value = length-set gpr n value

pub length-written : (gpr : List ℕ) (n value : ℕ) → length (written gpr n value) ≡ length gpr
length-written gpr n value = length-chosen (n == 0) gpr n value

next_pc-aligned : (regs : Regs) → regs.pc % 4 ≡ 0 → next_pc regs % 4 ≡ 0
next_pc-aligned regs h = omega arith

pub same-follows : (regs : Regs) → Follows regs regs
same-follows regs = record { latch = refl; cpuid = refl; vector = refl; count = refl; aligned = λ h. h }

pub passed-follows : (regs : Regs) → Follows regs (passed_regs regs)
passed-follows regs = record { latch = refl; cpuid = refl; vector = refl; count = refl; aligned = next_pc-aligned regs }

pub loaded-follows : (regs : Regs) (to value : ℕ) → Follows regs (loaded_regs regs to value)
loaded-follows regs to value =
    record { latch = refl; cpuid = refl; vector = refl; count = length-written regs.gpr to value; aligned = next_pc-aligned regs }

pub raised-follows : (regs : Regs) → regs.vector % 4 ≡ 0 → Follows regs (raised regs)
raised-follows regs h =
    record { latch = refl; cpuid = refl; vector = refl; count = length-written regs.gpr 29 (next_pc regs); aligned = λ _. h }

linked-follows : (regs : Regs) → Follows regs (linked regs)
linked-follows regs =
    record { latch = refl; cpuid = refl; vector = refl; count = length-written regs.gpr 31 (next_pc regs); aligned = λ h. h }

restored-follows : (regs : Regs) → Follows regs (restored regs)
restored-follows regs = record { latch = refl; cpuid = refl; vector = refl; count = refl; aligned = λ h. h }

-- on from these registers to an address that is a multiple of 4
at-follows : (regs next : Regs) (address : ℕ) → address % 4 ≡ 0 → Follows regs next → Follows regs (record next { pc = address })
at-follows regs next address h f = record { latch = f.latch; cpuid = f.cpuid; vector = f.vector; count = f.count; aligned = λ _. h }

test : (m n : ℕ) → (m == n) ≡ true → m ≡ n
test m n h = grind (arith, nat_tests)

jumped-follows : (regs next : Regs) (address : ℕ) → Follows regs next → Follows regs (regs_of regs (jumped next address))
jumped-follows regs next address f =
    either (λ o. Follows regs (regs_of regs o)) (address % 4 == 0) _ _ (λ e. at-follows regs next address (test (address % 4) 0 e) f) (same-follows regs)

joined-aligned : (pc target : ℕ) → (pc / 2 ^ 28 * 2 ^ 28 + target * 4) % 4 ≡ 0
joined-aligned pc target = omega arith

pub follows : (regs : Regs) (insn : Insn) → Follows regs (regs_of regs (effect_of regs insn))
unfolding effect_of
follows regs (Jump Call target) = at-follows regs (linked regs) _ (joined-aligned regs.pc target) (linked-follows regs)
follows regs (Jump Jmpi target) = at-follows regs regs _ (joined-aligned regs.pc target) (same-follows regs)
follows regs (Imm op a b imm) = loaded-follows regs b _
follows regs (Br imm) = jumped-follows regs regs _ (same-follows regs)
follows regs (Branch op a b imm) =
    either (λ o. Follows regs (regs_of regs o)) (is_taken op (reg regs a) (reg regs b)) _ _ (λ _. jumped-follows regs regs _ (same-follows regs)) (passed-follows regs)
follows regs (Load op io a b imm) =
    either (λ o. Follows regs (regs_of regs o)) (is_aligned _ (load_width op)) _ _ (λ _. same-follows regs) (same-follows regs)
follows regs (Store width io a b imm) =
    either (λ o. Follows regs (regs_of regs o)) (is_aligned _ width) _ _ (λ _. same-follows regs) (same-follows regs)
follows regs (Data op a imm) = same-follows regs
follows regs (Code op a) = same-follows regs
follows regs (Reg op a b c) =
    either (λ o. Follows regs (regs_of regs o)) (has_quotient op (reg regs a) (reg regs b)) _ _ (λ _. loaded-follows regs c _) (same-follows regs)
follows regs (Shift op a c by) = loaded-follows regs c _
follows regs (Jmp a) = jumped-follows regs regs _ (same-follows regs)
follows regs (Callr a) = jumped-follows regs (linked regs) _ (linked-follows regs)
follows regs Ret = jumped-follows regs regs _ (same-follows regs)
follows regs Eret = jumped-follows regs (restored regs) _ (restored-follows regs)
follows regs (Nextpc c) = loaded-follows regs c _
follows regs (Rdctl c n) = loaded-follows regs c _
follows regs (Wrctl n a) = record { latch = refl; cpuid = refl; vector = refl; count = refl; aligned = next_pc-aligned regs }
follows regs (Trap imm) = same-follows regs
follows regs (Break imm) = same-follows regs
follows regs Flushp = passed-follows regs
follows regs Sync = passed-follows regs
