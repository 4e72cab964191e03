use Rattle.n2_top.proofs.Replaying.{untouched}
use Rattle.n2_top.proofs.Written.{any_answer}
use Rattle.n2_top.proofs.answers.answer_command.Goals as goal

pub returns-in-Bench-clause-folder : goal.returns-in-Bench-clause-folder
returns-in-Bench-clause-folder g c = untouched _ _ c.answer_bench.result c.answer_bench.ensures.unread

pub returns-in-Bench-clause-answer : goal.returns-in-Bench-clause-answer
returns-in-Bench-clause-answer g c = λ files known. rw c.in-Bench.is (c.answer_bench.ensures.answer files)

pub returns-in-Plain-clause-stepped : goal.returns-in-Plain-clause-stepped
returns-in-Plain-clause-stepped g c = rw c.in-Plain.is (any_answer c.answer_plain.result)

pub returns-in-Replay-clause-stepped : goal.returns-in-Replay-clause-stepped
returns-in-Replay-clause-stepped g c = rw c.in-Replay.is (any_answer c.answer_replay.result)

pub returns-in-Flat-clause-stepped : goal.returns-in-Flat-clause-stepped
returns-in-Flat-clause-stepped g c = rw c.in-Flat.is (any_answer c.answer_flat.result)

pub returns-in-Assemble-clause-stepped : goal.returns-in-Assemble-clause-stepped
returns-in-Assemble-clause-stepped g c = rw c.in-Assemble.is (any_answer c.answer_source.result)

pub returns-in-Disassemble-clause-stepped : goal.returns-in-Disassemble-clause-stepped
returns-in-Disassemble-clause-stepped g c = rw c.in-Disassemble.is (any_answer c.answer_listing.result)

pub returns-in-Bench-clause-stepped : goal.returns-in-Bench-clause-stepped
returns-in-Bench-clause-stepped g c = rw c.in-Bench.is (any_answer c.answer_bench.result)
