use Rattle.std.proofs.Common.{◌+◌, ◌-◌, Option, sym, ap, ◌∙◌, arith}
use Rattle.std.proofs.lemmas.Result.{err_from_is_err_and}
use Rattle.std.specs.Option.{option_or}
use Rattle.n2_elf.specs.declared.image.ElfFault.{ElfFault}
use Rattle.n2_elf.specs.Reading.{programs_fault}
use Rattle.n2_elf.proofs.Steps.{programs_fault-next, programs_fault-done}
use Rattle.n2_elf.proofs.reading.check_programs.Goals as goal

pub returns-in_err-check_program : goal.returns-in_err-check_program
returns-in_err-check_program c =
    let p = err_from_is_err_and c.from_residual.result c.from_residual.ensures.1 in
    rw (p.1, p.2)
    (ap (λ (f : Option ElfFault). option_or f (programs_fault c.args.bytes.now (c.loop-i.i + 1) (c.half_at-headers.result - (c.loop-i.i + 1)))) c.in_err-check_program.ensures
    ∙ sym (programs_fault-next c.args.bytes.now c.loop-i.i c.half_at-headers.result c.loop-i-test.true)
    ∙ c.loop-i.invariant ∙ ap (λ n. programs_fault c.args.bytes.now 0 n) c.half_at-headers.ensures)

pub loop-i-preserved : goal.loop-i-preserved
loop-i-preserved c = ap (λ (f : Option ElfFault). option_or f (programs_fault c.args.bytes.now (c.loop-i.i + 1) (c.half_at-headers.result - (c.loop-i.i + 1)))) c.in_ok-check_program.ensures
    ∙ sym (programs_fault-next c.args.bytes.now c.loop-i.i c.half_at-headers.result c.loop-i-test.true)
    ∙ c.loop-i.invariant

pub returns : goal.returns
returns c = sym (programs_fault-done c.args.bytes.now c.loop-i.i c.half_at-headers.result (omega arith)) ∙ c.loop-i.invariant ∙ ap (λ n. programs_fault c.args.bytes.now 0 n) c.half_at-headers.ensures
