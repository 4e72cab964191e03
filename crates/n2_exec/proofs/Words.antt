-- Registers of 32 bits stay so, and what is asked for has an address of 32 bits.
use Rattle.std.proofs.Common.{◌&&◌, ℕ, ◌+◌, ◌%◌, ◌^◌, ◌<◌, ◌==◌, cond, Bool, true, false, nat_lt, List, length, get_or, All, IsTrue, refl, ◌∙◌, arith}
use Rattle.std.proofs.Math.ListN.{set}
use Rattle.std.proofs.lemmas.Nat.{and_le_l}
use Rattle.std.proofs.lemmas.List.Elements.{All-set, All-get_or, All-replicate}
use Rattle.n2_word.specs.Words.{is_aligned, signed_half}
use Rattle.n2_insn.specs.declared.Insn.{Insn}
use Rattle.n2_insn.specs.declared.Insn.TheVariants.{Jump, Imm, Br, Branch, Load, Store, Data, Code, Reg, Shift, Jmp, Callr, Ret, Eret, Nextpc, Rdctl, Wrctl, Trap, Break, Flushp, Sync}
use Rattle.n2_insn.specs.declared.JumpOp.TheVariants.{Call, Jmpi}
use Rattle.n2_insn.specs.Table.{is_valid, has_half}
use Rattle.n2_insn.proofs.Bounds.{below, first, second}
use Rattle.n2_exec.specs.declared.registers.Regs.{Regs}
use Rattle.n2_exec.specs.Registers.{reset_regs, reg, written, next_pc, passed_regs, loaded_regs, linked, restored, control, with_control, raised, latched, AreWords}
use Rattle.n2_exec.specs.Values.{imm_value, is_taken, has_quotient, reg_value, shift_value}
use Rattle.n2_exec.specs.Outcomes.{joined, jumped, branched, data_address, load_width, regs_of, asked_of, HasAddress}
use Rattle.n2_exec.specs.Effect.{effect_of}
use Rattle.n2_exec.proofs.Proper.{either, length-written}
use Rattle.n2_exec.proofs.Sizes.{small_imm, small_reg, small_shift_value}

small_choice : (b : Bool) (x y : ℕ) → x < 2 ^ 32 → y < 2 ^ 32 → cond b x y < 2 ^ 32
small_choice true x y hx hy = hx
small_choice false x y hx hy = hy

small_place : (gpr : List ℕ) (n : ℕ) → n < length gpr → All (λ value. value < 2 ^ 32) gpr → get_or gpr n 0 < 2 ^ 32
small_place gpr n lt all = All-get_or (λ value. value < 2 ^ 32) gpr n 0 lt all

pub small_read : (regs : Regs) (n : ℕ) → AreWords regs → n < 32 → reg regs n < 2 ^ 32
small_read regs n w lt = small_choice (n == 0) 0 (get_or regs.gpr n 0) (omega arith) (small_place regs.gpr n (omega (arith, w.count)) w.gpr)

all_chosen : (b : Bool) (gpr : List ℕ) (n value : ℕ) → value < 2 ^ 32 → All (λ value. value < 2 ^ 32) gpr → All (λ value. value < 2 ^ 32) (cond b gpr (set gpr n value))
all_chosen true gpr n value lt all = all
all_chosen false gpr n value lt all = All-set (λ value. value < 2 ^ 32) gpr n value lt all

all_written : (gpr : List ℕ) (n value : ℕ) → value < 2 ^ 32 → All (λ value. value < 2 ^ 32) gpr → All (λ value. value < 2 ^ 32) (written gpr n value)
all_written gpr n value lt all = all_chosen (n == 0) gpr n value lt all

pub passed-words : (regs : Regs) → AreWords regs → AreWords (passed_regs regs)
passed-words regs w =
    record { pc = omega arith; count = w.count; gpr = w.gpr; status = w.status; estatus = w.estatus; bstatus = w.bstatus; ienable = w.ienable; latch = w.latch; cpuid = w.cpuid; vector = w.vector }

pub loaded-words : (regs : Regs) (to value : ℕ) → value < 2 ^ 32 → AreWords regs → AreWords (loaded_regs regs to value)
loaded-words regs to value lt w =
    record { pc = omega arith; count = length-written regs.gpr to value ∙ w.count; gpr = all_written regs.gpr to value lt w.gpr; status = w.status; estatus = w.estatus; bstatus = w.bstatus; ienable = w.ienable; latch = w.latch; cpuid = w.cpuid; vector = w.vector }

linked-words : (regs : Regs) → AreWords regs → AreWords (linked regs)
linked-words regs w =
    record { pc = w.pc; count = length-written regs.gpr 31 (next_pc regs) ∙ w.count; gpr = all_written regs.gpr 31 (next_pc regs) (omega arith) w.gpr; status = w.status; estatus = w.estatus; bstatus = w.bstatus; ienable = w.ienable; latch = w.latch; cpuid = w.cpuid; vector = w.vector }

pub raised-words : (regs : Regs) → AreWords regs → AreWords (raised regs)
raised-words regs w =
    record { pc = w.vector; count = length-written regs.gpr 29 (next_pc regs) ∙ w.count; gpr = all_written regs.gpr 29 (next_pc regs) (omega arith) w.gpr; status = omega arith; estatus = w.status; bstatus = w.bstatus; ienable = w.ienable; latch = w.latch; cpuid = w.cpuid; vector = w.vector }

at_address : (regs : Regs) (address : ℕ) → address < 2 ^ 32 → AreWords regs → AreWords (record regs { pc = address })
at_address regs address lt w =
    record { pc = lt; count = w.count; gpr = w.gpr; status = w.status; estatus = w.estatus; bstatus = w.bstatus; ienable = w.ienable; latch = w.latch; cpuid = w.cpuid; vector = w.vector }

restored-words : (regs : Regs) → AreWords regs → AreWords (restored regs)
restored-words regs w =
    record { pc = w.pc; count = w.count; gpr = w.gpr; status = w.estatus; estatus = w.estatus; bstatus = w.bstatus; ienable = w.ienable; latch = w.latch; cpuid = w.cpuid; vector = w.vector }

jumped-words : (regs next : Regs) (address : ℕ) → address < 2 ^ 32 → AreWords regs → AreWords next → AreWords (regs_of regs (jumped next address))
jumped-words regs next address lt w n = either (λ o. AreWords (regs_of regs o)) (address % 4 == 0) _ _ (λ _. at_address next address lt n) w

branched-words : (regs : Regs) (imm : ℕ) → AreWords regs → AreWords (regs_of regs (branched regs imm))
branched-words regs imm w = jumped-words regs regs ((regs.pc + 4 + signed_half imm) % 2 ^ 32) (omega arith) w w

pub latched-words : (regs : Regs) (lines : ℕ) → lines < 2 ^ 32 → AreWords regs → AreWords (latched regs lines)
latched-words regs lines lt w =
    record { pc = w.pc; count = w.count; gpr = w.gpr; status = w.status; estatus = w.estatus; bstatus = w.bstatus; ienable = w.ienable; latch = lt; cpuid = w.cpuid; vector = w.vector }

pub reset-words : (pc cpuid vector : ℕ) → pc < 2 ^ 32 → cpuid < 2 ^ 32 → vector < 2 ^ 32 → AreWords (reset_regs pc cpuid vector)
reset-words pc cpuid vector p c v =
    record { pc = p; count = refl; gpr = All-replicate (λ value. value < 2 ^ 32) 32 0 (omega arith); status = omega arith; estatus = omega arith; bstatus = omega arith; ienable = omega arith; latch = omega arith; cpuid = c; vector = v }

small_control : (regs : Regs) (n : ℕ) → AreWords regs → control regs n < 2 ^ 32
small_control regs n w =
    small_choice (n == 0) _ _ w.status
    (small_choice (n == 1) _ _ w.estatus
    (small_choice (n == 2) _ _ w.bstatus
    (small_choice (n == 3) _ _ w.ienable
    (small_choice (n == 4) _ _ (omega (arith, and_le_l regs.latch regs.ienable, w.latch))
    (small_choice (n == 5) _ _ w.cpuid (omega arith))))))

control-words : (regs : Regs) (n value : ℕ) → value < 2 ^ 32 → AreWords regs → AreWords (with_control regs n value)
control-words regs n value lt w =
    record { pc = w.pc; count = w.count; gpr = w.gpr; status = small_choice (n == 0) _ _ (omega arith) w.status; estatus = small_choice (n == 1) _ _ (omega arith) w.estatus; bstatus = small_choice (n == 2) _ _ (omega arith) w.bstatus; ienable = small_choice (n == 3) _ _ lt w.ienable; latch = w.latch; cpuid = w.cpuid; vector = w.vector }

small_joined : (pc target : ℕ) → pc < 2 ^ 32 → target < 2 ^ 26 → joined pc target < 2 ^ 32
small_joined pc target h t = omega arith

small_address : (regs : Regs) (a imm : ℕ) → data_address regs a imm < 2 ^ 32
small_address regs a imm = omega arith

pub words : (regs : Regs) (insn : Insn) → AreWords regs → IsTrue (is_valid insn) → IsTrue (has_half insn) → AreWords (regs_of regs (effect_of regs insn))
unfolding effect_of
words regs (Jump Call target) w v h = at_address (linked regs) (joined regs.pc target) (small_joined regs.pc target w.pc (below target (2 ^ 26) v)) (linked-words regs w)
words regs (Jump Jmpi target) w v h = at_address regs (joined regs.pc target) (small_joined regs.pc target w.pc (below target (2 ^ 26) v)) w
words regs (Imm op a b imm) w v h =
    loaded-words regs b (imm_value op (reg regs a) imm) (small_imm op (reg regs a) imm (small_read regs a w (below a 32 (first _ _ v))) (below imm (2 ^ 16) h)) w
words regs (Br imm) w v h = branched-words regs imm w
words regs (Branch op a b imm) w v h =
    either (λ o. AreWords (regs_of regs o)) (is_taken op (reg regs a) (reg regs b)) _ _ (λ _. branched-words regs imm w) (passed-words regs w)
words regs (Load op io a b imm) w v h = either (λ o. AreWords (regs_of regs o)) (is_aligned (data_address regs a imm) (load_width op)) _ _ (λ _. w) w
words regs (Store width io a b imm) w v h = either (λ o. AreWords (regs_of regs o)) (is_aligned (data_address regs a imm) width) _ _ (λ _. w) w
words regs (Data op a imm) w v h = w
words regs (Code op a) w v h = w
words regs (Reg op a b c) w v h =
    let ab : IsTrue (nat_lt a 32 && nat_lt b 32) = first _ _ v in
    let value = small_reg op (reg regs a) (reg regs b) (small_read regs a w (below a 32 (first _ _ ab))) (small_read regs b w (below b 32 (second (nat_lt a 32) _ ab))) in
    either (λ o. AreWords (regs_of regs o)) (has_quotient op (reg regs a) (reg regs b)) _ _ (λ _. loaded-words regs c (reg_value op (reg regs a) (reg regs b)) value w) w
words regs (Shift op a c by) w v h =
    let ac : IsTrue (nat_lt a 32 && nat_lt c 32) = first _ _ v in
    loaded-words regs c (shift_value op (reg regs a) by) (small_shift_value op (reg regs a) by (small_read regs a w (below a 32 (first _ _ ac)))) w
words regs (Jmp a) w v h = jumped-words regs regs (reg regs a) (small_read regs a w (below a 32 v)) w w
words regs (Callr a) w v h = jumped-words regs (linked regs) (reg regs a) (small_read regs a w (below a 32 v)) w (linked-words regs w)
words regs Ret w v h = jumped-words regs regs (reg regs 31) (small_read regs 31 w (omega arith)) w w
words regs Eret w v h = jumped-words regs (restored regs) (reg regs 29) (small_read regs 29 w (omega arith)) w (restored-words regs w)
words regs (Nextpc c) w v h = loaded-words regs c (next_pc regs) (omega arith) w
words regs (Rdctl c n) w v h = loaded-words regs c (control regs n) (small_control regs n w) w
words regs (Wrctl n a) w v h =
    passed-words (with_control regs n (reg regs a)) (control-words regs n (reg regs a) (small_read regs a w (below a 32 (second (nat_lt n 32) _ v))) w)
words regs (Trap imm) w v h = w
words regs (Break imm) w v h = w
words regs Flushp w v h = passed-words regs w
words regs Sync w v h = passed-words regs w

jumped-address : (next : Regs) (address : ℕ) → HasAddress (asked_of (jumped next address))
jumped-address next address = either (λ o. HasAddress (asked_of o)) (address % 4 == 0) _ _ (λ _. tt) tt

pub addresses : (regs : Regs) (insn : Insn) → AreWords regs → IsTrue (is_valid insn) → HasAddress (asked_of (effect_of regs insn))
unfolding effect_of
addresses regs (Jump Call target) w v = tt
addresses regs (Jump Jmpi target) w v = tt
addresses regs (Imm op a b imm) w v = tt
addresses regs (Br imm) w v = jumped-address regs _
addresses regs (Branch op a b imm) w v =
    either (λ o. HasAddress (asked_of o)) (is_taken op (reg regs a) (reg regs b)) _ _ (λ _. jumped-address regs _) tt
addresses regs (Load op io a b imm) w v = either (λ o. HasAddress (asked_of o)) (is_aligned (data_address regs a imm) (load_width op)) _ _ (λ _. small_address regs a imm) tt
addresses regs (Store width io a b imm) w v = either (λ o. HasAddress (asked_of o)) (is_aligned (data_address regs a imm) width) _ _ (λ _. small_address regs a imm) tt
addresses regs (Data op a imm) w v = small_address regs a imm
addresses regs (Code op a) w v = small_read regs a w (below a 32 v)
addresses regs (Reg op a b c) w v = either (λ o. HasAddress (asked_of o)) (has_quotient op (reg regs a) (reg regs b)) _ _ (λ _. tt) tt
addresses regs (Shift op a c by) w v = tt
addresses regs (Jmp a) w v = jumped-address regs _
addresses regs (Callr a) w v = jumped-address (linked regs) _
addresses regs Ret w v = jumped-address regs _
addresses regs Eret w v = jumped-address (restored regs) _
addresses regs (Nextpc c) w v = tt
addresses regs (Rdctl c n) w v = tt
addresses regs (Wrctl n a) w v = tt
addresses regs (Trap imm) w v = tt
addresses regs (Break imm) w v = tt
addresses regs Flushp w v = tt
addresses regs Sync w v = tt
