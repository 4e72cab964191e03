-- The run that a journal tells: where the machine ends, the row that is refused, and what is answered.
use Rattle.std.proofs.Common.{◌≡◌, length, Result, Ok, Err, refl, sym, ap, ◌∙◌, arith, subst}
use Rattle.n2_parts.specs.declared.board.Board.{Board}
use Rattle.n2_board.specs.AddressMap.{AddressMap}
use Rattle.n2_journal.specs.Journals.{Content}
use Rattle.n2_runs.specs.Machine.{Machine, start}
use Rattle.n2_runs.specs.Knows.{IsBookKept}
use Rattle.n2_runs.specs.Recorded.{actors_of, HasCounts}
use Rattle.n2_runs.specs.Replay.{Differs, replayed}
use Rattle.n2_runs.proofs.Followed.{replays_only}
use Rattle.n2_runs.proofs.Limits.{counts}
use Rattle.n2_smp.specs.declared.machine.Ran.{Ran}
use Rattle.n2_smp.specs.declared.replay.Wrong.{Wrong}
use Rattle.n2_smp.specs.Standing.{Parts, StandsFor, RanStandsFor}
use Rattle.n2_smp.specs.Replayed.{IsReplayed}
use Rattle.n2_inputs.specs.declared.inputs.Inputs.{Inputs}
use Rattle.n2_inputs.specs.declared.refusal.Refusal.TheVariants.{JournalWrong}
use Rattle.std.specs.Prelude.{ℕ, List, Option, OnOk}
use Rattle.n2_outside.specs.Files.{Files}
use Rattle.n2_inputs.specs.declared.refusal.Refusal.{Refusal}
use Rattle.n2_inputs.specs.Asked.{asked_replay, IsReady}
use Rattle.n2_inputs.specs.Files.{◌>>=◌}
use Rattle.n2_inputs.specs.declared.refusal.Failure.{Failure}
use Rattle.n2_inputs.specs.declared.refusal.Failure.TheVariants.{Refused, NoAnswer}
use Rattle.n2_inputs.specs.Calls.{Gives, LeavesFolder, ReadFails}
use Rattle.n2_inputs.proofs.Steps.{after_step}
use Rattle.n2_top.specs.declared.answers.Answer.{Answer}
use Rattle.n2_top.specs.Asked.{Asked}
use Rattle.n2_top.specs.Commands.{Command}
use Rattle.n2_top.specs.Answers.{asked_of, answered, reply_to}
use Rattle.n2_top.specs.Runs.{IsTold, Tells, or_wrong, told_end}

record Reached (after : Parts) (told : Result Machine Differs) : Type 0 where
  machine : Machine
  is : told ≡ Ok machine
  stands : StandsFor after machine
  kept : IsBookKept after.board after.map machine

reached : (after : Parts) (done : Unit {0}) (told : Result Machine Differs) → IsReplayed after (Ok done) told → Reached after told
reached after done (Ok m) h = record { machine = m; is = refl; stands = h.0; kept = h.1 }
reached after done (Err why) h = absurd h

pub replay_ends : (inputs : Inputs) (j : Content) (v after : Parts) (done : Unit {0}) (ran : Ran) → v.board ≡ inputs.board → v.map ≡ inputs.layout → after.board ≡ v.board → after.map ≡ v.map → IsReplayed after (Ok done) (replayed v.board v.map (start inputs.board inputs.images) j) → ((m : Machine) → StandsFor after m → length m.cores ≡ length after.board.core → RanStandsFor after.board after.map ran m) → IsTold inputs j ran
replay_ends inputs j v after done ran board map after_board after_map replay finish =
    let s = start inputs.board inputs.images in
    let r = reached after done (replayed v.board v.map s j) replay in
    let same_board : after.board ≡ inputs.board = after_board ∙ board in
    let same_map : after.map ≡ inputs.layout = after_map ∙ map in
    record {
      machine = r.machine;
      is = subst (λ (b : Board). replayed b inputs.layout s j ≡ Ok r.machine) board (subst (λ (g : AddressMap). replayed v.board g s j ≡ Ok r.machine) map r.is);
      ends = record {
        stands = subst (λ (x : Board). RanStandsFor x inputs.layout ran r.machine) same_board (subst (λ (g : AddressMap). RanStandsFor after.board g ran r.machine) same_map (finish r.machine r.stands r.kept.count));
        count = r.kept.count ∙ ap (λ (x : Board). length x.core) same_board;
      };
    }

row_of : (inputs : Inputs) (after : Parts) (told : Result Machine Differs) (wrong : Wrong) → IsReplayed after (Err wrong) told → or_wrong told ≡ Err (JournalWrong wrong.row)
row_of inputs after (Ok m) wrong h = absurd h
row_of inputs after (Err why) wrong h = ap (λ (n : ℕ). Err (JournalWrong n)) (sym h.0)

-- the first row that differs is refused
pub replay_differs : (inputs : Inputs) (j : Content) (v after : Parts) (wrong : Wrong) → v.board ≡ inputs.board → v.map ≡ inputs.layout → IsReplayed after (Err wrong) (replayed v.board v.map (start inputs.board inputs.images) j) → told_end inputs j ≡ Err (JournalWrong wrong.row)
replay_differs inputs j v after wrong board map replay =
    let s = start inputs.board inputs.images in
    subst (λ (b : Board). or_wrong (replayed b inputs.layout s j) ≡ Err (JournalWrong wrong.row)) board
    (subst (λ (g : AddressMap). or_wrong (replayed v.board g s j) ≡ Err (JournalWrong wrong.row)) map (row_of inputs after (replayed v.board v.map s j) wrong replay))

-- the books of an opened machine
pub opened_kept : (inputs : Inputs) (v : Parts) (m : Machine) → v.board ≡ inputs.board → v.map ≡ inputs.layout → IsBookKept inputs.board inputs.layout m → IsBookKept v.board v.map m
opened_kept inputs v m board map kept =
    subst (λ (b : Board). IsBookKept b v.map m) (sym board) (subst (λ (g : AddressMap). IsBookKept inputs.board g m) (sym map) kept)

-- what is given once the files were read
pub told_given : (files : Files) (board journal : List ℕ) (command : Command) (asked : Inputs → Content → Asked) (inputs : Inputs) (j : Content) (result : Result Answer Failure) → asked_of command files ≡ (asked_replay files board journal >>= λ found. Ok (asked found.0 found.1)) → asked_replay files board journal ≡ Ok (inputs, j) → Gives (λ (a : Answer). a) (answered (asked inputs j)) result → Gives (λ (a : Answer). a) (reply_to command files) result
told_given files board journal command asked inputs j result is h given =
    subst (λ r. Gives (λ (a : Answer). a) r result)
    (sym (after_step (asked_of command files) (asked inputs j) answered (answered (asked inputs j))
    (is ∙ after_step (asked_replay files board journal) (inputs, j) (λ found. Ok (asked found.0 found.1)) (Ok (asked inputs j)) h refl) refl))
    given

-- what a run is refused with is refused, and what is made of it is given
pub told_refused : (inputs : Inputs) (j : Content) (failure : Failure) (next : Machine → Result Answer Refusal) → Tells inputs j (Err failure) → Gives (λ (a : Answer). a) (told_end inputs j >>= next) (Err failure)
told_refused inputs j (Refused refusal) next h = ap (λ r. r >>= next) h
told_refused inputs j (NoAnswer cause) next h = tt

pub told_answered : (inputs : Inputs) (j : Content) (ran : Ran) (next : Machine → Result Answer Refusal) (told : IsTold inputs j ran) → (told_end inputs j >>= next) ≡ next told.machine
told_answered inputs j ran next told = ap (λ (r : Result Machine Differs). or_wrong r >>= next) told.is

-- its counts are within the limits
pub told_counts : (inputs : Inputs) (j : Content) (ran : Ran) → IsReady inputs → IsTold inputs j ran → HasCounts (length inputs.board.core) j
told_counts inputs j ran ready told =
    let b = inputs.board in
    let records = (replays_only b inputs.images inputs.layout j ready.images told.machine told.is).0 in
    subst (λ (k : Content). HasCounts (length b.core) k) records.journal (counts b inputs.images inputs.layout (actors_of j) ready.valid ready.images)

on_ok : {A E P : Type 0} (result : Result A E) → P → OnOk result P
on_ok (Ok a) p = p
on_ok (Err e) p = tt

-- an answer that reads nothing more after all files were read
pub without_reading : {A B : Type 0} (files_before files_now : Option Files) (before now : ℕ) (a : A) (result : Result B Failure) → LeavesFolder {A = A} files_before files_now before now (Ok a) → ¬ ReadFails result → LeavesFolder files_before files_now before now result
without_reading files_before files_now before now a result h unread =
    record { files = h.files; later = h.later; failed = λ r. absurd (unread r); kept = on_ok result h.kept }

-- a folder that was not looked at
pub untouched : {A : Type 0} (files : Option Files) (count : ℕ) (result : Result A Failure) → ¬ ReadFails result → LeavesFolder files files count count result
untouched files count result unread = record { files = refl; later = omega arith; failed = λ r. absurd (unread r); kept = on_ok result refl }
