-- What `step` writes reads back, replays, and has the flat part of the flat machine.
use Rattle.std.proofs.Common.{◌≡◌, ℕ, ◌≤◌, ◌<◌, List, [], ◌∷◌, ◌++◌, length, Bool, true, false, cond, nat_lt, codes, Option, Some, None, Result, Ok, Err, refl, sym, ap, ◌∙◌, subst, arith}
use Rattle.std.specs.Prelude.{IsTrue, IfOk, if◌then◌else◌, ⊤}
use Rattle.std.specs.List.{flat_map}
use Rattle.std.proofs.lemmas.Bool.Decides.{nat_tests}
use Rattle.n2_outside.specs.Files.{Files, file_at}
use Rattle.n2_elf.specs.declared.image.Image.{Image}
use Rattle.n2_parts.specs.declared.board.Board.{Board}
use Rattle.n2_board.specs.AddressMap.{AddressMap}
use Rattle.n2_order.specs.Orders.{Asked as Order}
use Rattle.n2_order.specs.Choices.{start_of}
use Rattle.n2_journal.specs.Journals.{Content, IsWithinLimits}
use Rattle.n2_journal.specs.Texts.{journal_text}
use Rattle.n2_journal.specs.Reading.{read}
use Rattle.n2_journal.proofs.Runs.{read_again}
use Rattle.n2_runs.specs.Machine.{Machine, start, run, is_finished}
use Rattle.n2_runs.specs.FlatRun.{Flat}
use Rattle.n2_runs.specs.Recorded.{Records, actors_of, journal_of}
use Rattle.n2_runs.specs.Replay.{Differs, replayed}
use Rattle.n2_runs.proofs.Ahead.{run_replays}
use Rattle.n2_runs.proofs.Followed.{replays_all}
use Rattle.n2_driver.proofs.Ending.{run_finished}
use Rattle.n2_smp.specs.declared.machine.Ran.{Ran}
use Rattle.n2_report.specs.Flat.{flat_text, memory_row}
use Rattle.n2_report.specs.OfFlat.{flat_flat_part, flat_report, dumped}
use Rattle.n2_report.specs.OfRun.{run_report}
use Rattle.n2_report.proofs.Sent.{same_flat_part}
use Rattle.n2_inputs.specs.declared.inputs.Inputs.{Inputs}
use Rattle.n2_inputs.specs.declared.refusal.Refusal.{Refusal}
use Rattle.n2_inputs.specs.declared.refusal.Refusal.TheVariants as refusals
use Rattle.n2_inputs.specs.declared.refusal.Role.TheVariants.{Journal}
use Rattle.n2_inputs.specs.Refusals.{limit_of}
use Rattle.n2_inputs.specs.Files.{◌>>=◌, file_of}
use Rattle.n2_inputs.specs.Boards.{asked_machine}
use Rattle.n2_inputs.specs.Orders.{asked_list}
use Rattle.n2_inputs.specs.Journals.{asked_journal, journal_in}
use Rattle.n2_inputs.specs.Asked.{fitted, asked_run, asked_replay, IsReady}
use Rattle.n2_inputs.proofs.Steps.{after_step}
use Rattle.n2_top.specs.declared.answers.Answer.{Answer}
use Rattle.n2_top.specs.Machines.{caching, without_caches}
use Rattle.n2_top.specs.Run.{IsRunOf}
use Rattle.n2_top.specs.Runs.{EndsAs, picked, end_by, or_wrong, run_answer, report_answer}
use Rattle.n2_top.specs.Step.{step_answer}
use Rattle.n2_top.specs.Replay.{replay_answer}
use Rattle.n2_top.specs.Flat.{flat_answer, flat_run_answer}
use Rattle.n2_top.specs.Answers.{settled}
use Rattle.n2_top.specs.Written.{unwritten, HaveFlatPart}
use Rattle.n2_top.proofs.Carried.{refuses, in_report, agreeing}

-- ---- the journal of a finished run

pub recorded_replay : (inputs : Inputs) (j : Content) → IsReady inputs → Records inputs.board inputs.layout (start inputs.board inputs.images) j → replay_answer inputs j ≡ Ok (report_answer inputs.board inputs.layout (caching inputs (actors_of j)))
unfolding replay_answer
recorded_replay inputs j ready records =
    ap (λ (r : Result Machine Differs). or_wrong r >>= λ m. Ok (report_answer inputs.board inputs.layout m)) (replays_all inputs.board inputs.images inputs.layout j ready.images records)

pub recorded_flat : (inputs : Inputs) (j : Content) → IsReady inputs → Records inputs.board inputs.layout (start inputs.board inputs.images) j → flat_run_answer inputs j ≡ Ok (flat_answer inputs.board (without_caches inputs (actors_of j)))
unfolding flat_run_answer
recorded_flat inputs j ready records =
    ap (λ (r : Result Machine Differs). or_wrong r >>= λ _. Ok (flat_answer inputs.board (without_caches inputs (actors_of j)))) (replays_all inputs.board inputs.images inputs.layout j ready.images records)

in_flat_report : (b : Board) (m : Flat) → (lines : List ℕ) × (flat_report b m ≡ codes "nios2 flat 1\n" ++ flat_flat_part b m ++ lines)
unfolding flat_report flat_text
in_flat_report b m = (flat_map memory_row (dumped m.world.memory b.dump), refl)

pub flat_parts_of : (inputs : Inputs) (order : List ℕ) → IsReady inputs → HaveFlatPart inputs.board (without_caches inputs order) (report_answer inputs.board inputs.layout (caching inputs order)).report (flat_answer inputs.board (without_caches inputs order)).report
flat_parts_of inputs order ready =
    let b = inputs.board in
    let made = in_report b inputs.layout (caching inputs order) (without_caches inputs order) (same_flat_part b inputs.images inputs.layout order ready.valid ready.layout ready.images (agreeing inputs ready order)) in
    let flat = in_flat_report b (without_caches inputs order) in
    record { rest = made.0; lines = flat.0; report_is = made.1; flat_report_is = flat.1 }

-- ---- the journal that `step` writes

-- the run along its journal's order ends where it ended
pub same_end : (inputs : Inputs) (order : Order) (list : List ℕ) → IsReady inputs → caching inputs (actors_of (journal_of (end_by inputs order list))) ≡ end_by inputs order list
same_end inputs order list ready = run_replays inputs.board inputs.images inputs.layout (picked inputs order list) ready.valid ready.layout ready.images

pub written_records : (inputs : Inputs) (order : Order) (list : List ℕ) → IsReady inputs → Records inputs.board inputs.layout (start inputs.board inputs.images) (journal_of (end_by inputs order list))
written_records inputs order list ready =
    let e = same_end inputs order list ready in
    record {
      finished = subst (λ (m : Machine). IsTrue (is_finished inputs.board m)) (sym e) (run_finished inputs.board inputs.images inputs.layout (start_of order list) ready.valid ready.images);
      journal = ap journal_of e;
    }

pub written_read : (inputs : Inputs) (order : Order) (list : List ℕ) → IsWithinLimits (journal_of (end_by inputs order list)) → read (step_answer inputs order list).journal ≡ Ok (journal_of (end_by inputs order list))
unfolding step_answer
written_read inputs order list within = read_again (journal_of (end_by inputs order list)) within

pub written_replay : (inputs : Inputs) (order : Order) (list : List ℕ) → IsReady inputs → replay_answer inputs (journal_of (end_by inputs order list)) ≡ Ok (unwritten (step_answer inputs order list))
unfolding step_answer
written_replay inputs order list ready =
    recorded_replay inputs (journal_of (end_by inputs order list)) ready (written_records inputs order list ready)
    ∙ ap (λ (m : Machine). Ok (report_answer inputs.board inputs.layout m)) (same_end inputs order list ready)

-- a step that gave a value, and the next of it
record Stepped {A B : Type 0} (step : Result A Refusal) (next : A → Result B Refusal) (b : B) : Type 0 where
  value : A
  is : step ≡ Ok value
  gives : next value ≡ Ok b

stepped : {A B : Type 0} (step : Result A Refusal) (next : A → Result B Refusal) (b : B) → (step >>= next) ≡ Ok b → Stepped step next b
stepped (Ok a) next b e = record { value = a; is = refl; gives = e }
stepped (Err refusal) next b e = absurd (cc)

inputs_in : Inputs → Result (Inputs × List ℕ) Refusal → Inputs
inputs_in inputs (Ok found) = found.0
inputs_in inputs (Err refusal) = inputs

not_longer : (limit n : ℕ) (x : Bool) → nat_lt limit n ≡ x → n ≤ limit → x ≡ false
not_longer limit n true e le = absurd (grind (arith, nat_tests))
not_longer limit n false e le = refl

written_journal : (files : Files) (name text : List ℕ) (j : Content) → file_at files name ≡ Some text → length text ≤ limit_of Journal → read text ≡ Ok j → asked_journal files name ≡ Ok j
unfolding asked_journal
written_journal files name text j found short reads =
    after_step (file_of (file_at files name) Journal) text (λ bytes. journal_in (read bytes)) (Ok j)
    (ap (λ (o : Option (List ℕ)). file_of o Journal) found ∙ ap (λ (x : Bool). if x then Err (refusals.TooLong Journal) else Ok text) (not_longer (limit_of Journal) (length text) (nat_lt (limit_of Journal) (length text)) refl short))
    (ap journal_in reads)

pub written_asked : (files after : Files) (board name : List ℕ) (order : Order) (inputs : Inputs) (list : List ℕ) → asked_run files board order ≡ Ok (inputs, list) → IsWithinLimits (journal_of (end_by inputs order list)) → asked_machine after board ≡ asked_machine files board → file_at after name ≡ Some (step_answer inputs order list).journal → length (step_answer inputs order list).journal ≤ limit_of Journal → asked_replay after board name ≡ Ok (inputs, journal_of (end_by inputs order list))
unfolding asked_run asked_replay stepped inputs_in
written_asked files after board name order inputs list asked within same found short =
    let j = journal_of (end_by inputs order list) in
    let machine = stepped (asked_machine files board) _ (inputs, list) asked in
    let listed = stepped (asked_list files order (length machine.value.0.core)) _ (inputs, list) machine.gives in
    let fits = stepped (fitted machine.value.0 machine.value.1) _ (inputs, list) listed.gives in
    let fitting : fitted machine.value.0 machine.value.1 ≡ Ok inputs = fits.is ∙ ap (λ (x : Result (Inputs × List ℕ) Refusal). Ok (inputs_in inputs x)) fits.gives in
    after_step (asked_machine after board) machine.value _ (Ok (inputs, j)) (same ∙ machine.is)
    (after_step (asked_journal after name) j _ (Ok (inputs, j)) (written_journal after name (step_answer inputs order list).journal j found short (written_read inputs order list within))
    (after_step (fitted machine.value.0 machine.value.1) inputs _ (Ok (inputs, j)) fitting refl))

-- ---- the run that `step` makes is one of what it asks for

pub run_stepped : (inputs : Inputs) (order : Order) (list : List ℕ) (ran : Ran) (a : Answer) → IsReady inputs → EndsAs inputs ran (end_by inputs order list) → a ≡ step_answer inputs order list → IsRunOf inputs a
unfolding step_answer
run_stepped inputs order list ran a ready ends is =
    record {
      ready = ready;
      drawn = journal_of (end_by inputs order list);
      within = subst IsWithinLimits ends.stands.journal ends.stands.within;
      records = written_records inputs order list ready;
      answer_is = is ∙ ap (λ (m : Machine). run_answer inputs.board inputs.layout m) (sym (same_end inputs order list ready));
    }

pub any_answer : {A E : Type 0} (result : Result A E) → IfOk result (λ a. ⊤)
any_answer (Ok a) = tt
any_answer (Err e) = tt

-- no refusal has a small status
pub refused_status : (a : Answer) (refusal : Refusal) → a ≡ settled (Err refusal) → a.status < 3 → ⊥
refused_status a refusal is small =
    let e = ap (λ (x : Answer). x.status) is in
    let le = refuses refusal in
    absurd (omega arith)
