-- `bench N`: what is asked, and what its run answers.
use Rattle.std.specs.Prelude.{ℕ, [], Result, Ok, Err}
use Rattle.n2_asm.specs.declared.faults.AsmFault.{AsmFault}
use Rattle.n2_asm.specs.declared.faults.AsmFault.TheVariants as faults
use Rattle.n2_make.specs.declared.work.Work.{Work}
use Rattle.n2_make.specs.Works.{work_of}
use Rattle.n2_order.specs.Orders.{BySeed}
use Rattle.n2_inputs.specs.declared.inputs.Inputs.{Inputs}
use Rattle.n2_inputs.specs.declared.refusal.Role.TheVariants as roles
use Rattle.n2_inputs.specs.declared.refusal.Refusal.{Refusal}
use Rattle.n2_inputs.specs.declared.refusal.Refusal.TheVariants as refusals
use Rattle.n2_inputs.specs.Asked.{fitted}
use Rattle.n2_inputs.specs.Files.{◌>>=◌}
use Rattle.n2_top.specs.declared.answers.Answer.{Answer}
use Rattle.n2_top.specs.Asked.{Asked, SeedRun}
use Rattle.n2_top.specs.Runs.{end_by, report_answer}

-- a workload without a faulty row in its sources; to assemble never wants memory
abbrev pub assembled_work : Result Work AsmFault → Result Work Refusal
assembled_work (Ok work) = Ok work
assembled_work (Err (faults.Row row kind)) = Err (refusals.SourceRow row kind)
assembled_work (Err faults.NoMemory) = Err (refusals.Absent roles.Source)

-- the workload of so many critical sections a core, by its own seed
unfoldable pub asked_bench : ℕ → Result Asked Refusal
asked_bench sections = do
  work ← assembled_work (work_of sections)
  inputs ← fitted work.board work.images
  Ok (SeedRun inputs work.seed)

unfoldable pub bench_answer : Inputs → ℕ → Answer
bench_answer inputs seed = report_answer inputs.board inputs.layout (end_by inputs (BySeed seed) [])
