-- A run by an order: what is asked, and where the machine ends.
use Rattle.std.proofs.Common.{◌≡◌, ℕ, List, length, Option, Result, Ok, Err, refl, sym, ap, ◌∙◌, subst}
use Rattle.n2_outside.specs.Files.{Files}
use Rattle.n2_parts.specs.declared.board.Board.{Board}
use Rattle.n2_board.specs.AddressMap.{AddressMap}
use Rattle.n2_order.specs.Orders.{Asked as Order}
use Rattle.n2_order.specs.Choices.{State, start_of}
use Rattle.n2_runs.specs.Machine.{Machine, start, run}
use Rattle.n2_runs.proofs.Begins.{as_many}
use Rattle.n2_runs.proofs.Counted.{count_run}
use Rattle.n2_smp.specs.declared.machine.Ran.{Ran}
use Rattle.n2_smp.specs.Standing.{Parts, StandsFor, RanStandsFor}
use Rattle.n2_driver.specs.Chosen.{chosen_order}
use Rattle.n2_inputs.specs.declared.inputs.Inputs.{Inputs}
use Rattle.n2_inputs.specs.declared.refusal.Failure.{Failure}
use Rattle.n2_inputs.specs.Asked.{asked_run, IsReady}
use Rattle.n2_inputs.specs.declared.refusal.Failure.TheVariants.{NoAnswer}
use Rattle.n2_inputs.specs.declared.refusal.NoAnswer.TheVariants.{NoMemory}
use Rattle.n2_inputs.specs.Calls.{Gives, LeavesFolder}
use Rattle.n2_inputs.specs.Files.{◌>>=◌}
use Rattle.n2_inputs.proofs.Steps.{failed_step, after_step}
use Rattle.n2_top.specs.declared.answers.Answer.{Answer}
use Rattle.n2_top.specs.Commands.{Step}
use Rattle.n2_top.specs.Asked.{Asked, OrderRun}
use Rattle.n2_top.specs.Answers.{answered, reply_to}
use Rattle.n2_top.specs.Runs.{EndsAs, end_by}
use Rattle.n2_top.specs.Step.{asked_step, step_answer}

pub step_refused : {A : Type 0} (seen : A → Inputs × List ℕ) (files : Files) (board : List ℕ) (order : Order) (failure : Failure) → Gives seen (asked_run files board order) (Err failure) → Gives (λ (a : Answer). a) (reply_to (Step board order) files) (Err failure)
unfolding asked_step
step_refused seen files board order failure h =
    failed_step (λ (a : Asked). a) (λ (a : Answer). a) (asked_step files board order) answered failure
    (failed_step seen (λ (a : Asked). a) (asked_run files board order) (λ found. Ok (OrderRun found.0 order found.1)) failure h)

pub step_answered : (files : Files) (board : List ℕ) (order : Order) (inputs : Inputs) (list : List ℕ) (a : Answer) → asked_run files board order ≡ Ok (inputs, list) → a ≡ step_answer inputs order list → reply_to (Step board order) files ≡ Ok a
unfolding asked_step
step_answered files board order inputs list a h e =
    after_step (asked_step files board order) (OrderRun inputs order list) answered (Ok a)
    (after_step (asked_run files board order) (inputs, list) (λ found. Ok (OrderRun found.0 order found.1)) (Ok (OrderRun inputs order list)) h refl)
    (ap (λ (x : Answer). Ok x) (sym e))

pub ends_as : (inputs : Inputs) (order : Order) (list : List ℕ) (now : State) (v after : Parts) (ran : Ran) → IsReady inputs → v.map ≡ inputs.layout → after.board ≡ inputs.board → after.map ≡ inputs.layout → now ≡ start_of order list → StandsFor after (run inputs.board v.map (start inputs.board inputs.images) (chosen_order inputs.board v.map (start inputs.board inputs.images) now)) → ((m : Machine) → StandsFor after m → length m.cores ≡ length after.board.core → RanStandsFor after.board after.map ran m) → EndsAs inputs ran (end_by inputs order list)
ends_as inputs order list now v after ran ready map after_board after_map state stands finish =
    let b = inputs.board in
    let s = start b inputs.images in
    let end = end_by inputs order list in
    let count : length end.cores ≡ length b.core = count_run b inputs.layout (chosen_order b inputs.layout s (start_of order list)) s (as_many b.core inputs.images ready.images) in
    let at_state : StandsFor after (run b v.map s (chosen_order b v.map s (start_of order list))) = subst (λ (o : State). StandsFor after (run b v.map s (chosen_order b v.map s o))) state stands in
    let at_map : StandsFor after end = subst (λ (g : AddressMap). StandsFor after (run b g s (chosen_order b g s (start_of order list)))) map at_state in
    let ran_stands = finish end at_map (count ∙ ap (λ (x : Board). length x.core) (sym after_board)) in
    record {
      stands = subst (λ (x : Board). RanStandsFor x inputs.layout ran end) after_board (subst (λ (g : AddressMap). RanStandsFor after.board g ran end) after_map ran_stands);
      count = count;
    }

-- want of memory after all files were read
pub without_memory : {A B : Type 0} (files_before files_now : Option Files) (before now : ℕ) (a : A) (result : Result B Failure) (ok : Result A Failure) → ok ≡ Ok a → LeavesFolder files_before files_now before now ok → result ≡ Err (NoAnswer NoMemory) → LeavesFolder files_before files_now before now result
without_memory {A} {B} files_before files_now before now a result ok is h e =
    subst (λ (r : Result B Failure). LeavesFolder files_before files_now before now r) (sym e)
    (record { files = h.files; later = h.later; failed = λ r. absurd (cc); kept = tt })
