-- Fields of 16 bits.
use Rattle.std.proofs.Common.{◌≡◌, ℕ, ◌^◌, refl}
use Rattle.n2_insn.specs.declared.ImmOp.{ImmOp}
use Rattle.n2_insn.specs.declared.ImmOp.TheVariants.{Addi, Muli, Andi, Ori, Xori, Andhi, Orhi, Xorhi, Cmpgei, Cmplti, Cmpnei, Cmpeqi, Cmpgeui, Cmpltui}
use Rattle.n2_statement.specs.Values.{imm_field, field_size}

pub half_field : (op : ImmOp) → field_size (imm_field op) ≡ 2 ^ 16
half_field Addi = refl
half_field Muli = refl
half_field Andi = refl
half_field Ori = refl
half_field Xori = refl
half_field Andhi = refl
half_field Orhi = refl
half_field Xorhi = refl
half_field Cmpgei = refl
half_field Cmplti = refl
half_field Cmpnei = refl
half_field Cmpeqi = refl
half_field Cmpgeui = refl
half_field Cmpltui = refl
