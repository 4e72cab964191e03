-- A finished run that threads drew carries the sentence.
use Rattle.std.proofs.Common.{◌≡◌, ◌≢◌, ℕ, ◌<◌, ◌≤◌, List, [], ◌∷◌, ◌++◌, length, slice_get, Bool, true, false, cond, IsTrue, codes, map, Option, Some, None, Result, Ok, Err, refl, sym, ap, ◌∙◌, subst, append_assoc, arith}
use Rattle.std.specs.List.{flat_map, list_all, list_any}
use Rattle.n2_parts.specs.declared.board.Board.{Board}
use Rattle.n2_board.specs.AddressMap.{AddressMap}
use Rattle.n2_memory.specs.Start as first
use Rattle.n2_journal.specs.Journals.{Content}
use Rattle.n2_journal.specs.Texts.{journal_text}
use Rattle.n2_journal.proofs.Runs.{read_again}
use Rattle.n2_front.specs.Front.{Front}
use Rattle.n2_front.specs.Core.{Core, stop_of}
use Rattle.n2_runs.specs.Machine.{Machine, start, run}
use Rattle.n2_runs.specs.FlatRun.{Flat, flat_start}
use Rattle.n2_runs.specs.Recorded.{Records, actors_of}
use Rattle.n2_runs.proofs.Begins.{as_many, starts_along}
use Rattle.n2_runs.proofs.Counted.{count_run}
use Rattle.n2_runs.proofs.Turns.{run_keeps}
use Rattle.n2_runs.proofs.Agreed.{agreed}
use Rattle.n2_runs.proofs.Followed.{replays_all}
use Rattle.n2_report.specs.Stops.{has_broken, is_refused}
use Rattle.n2_report.specs.Flat.{memory_row}
use Rattle.n2_report.specs.Transfers.{transfers_of}
use Rattle.n2_report.specs.Report.{report_text, ends_text, transfers_row}
use Rattle.n2_report.specs.OfFlat.{flat_flat_part, dumped}
use Rattle.n2_report.specs.OfRun.{core_end, turns_of, run_flat_part, run_report}
use Rattle.n2_report.proofs.Sent.{same_flat_part}
use Rattle.n2_smp.specs.declared.machine.Ran.{Ran}
use Rattle.n2_smp.specs.Standing.{RanStandsFor}
use Rattle.n2_threads.specs.Recorded.{IsRecorded}
use Rattle.n2_outside.specs.Bytes.{appended}
use Rattle.n2_inputs.specs.declared.inputs.Inputs.{Inputs}
use Rattle.n2_inputs.specs.declared.refusal.Role.{Role}
use Rattle.n2_inputs.specs.declared.refusal.Role.TheVariants as roles
use Rattle.n2_inputs.specs.declared.refusal.Refusal.{Refusal}
use Rattle.n2_inputs.specs.declared.refusal.Refusal.TheVariants as refusals
use Rattle.n2_inputs.specs.Refusals.{role_status, status_of}
use Rattle.n2_inputs.specs.Asked.{IsReady}
use Rattle.n2_top.specs.declared.answers.Answer.{Answer}
use Rattle.n2_top.specs.Machines.{caching, without_caches}
use Rattle.n2_top.specs.Answers.{is_final}
use Rattle.n2_top.specs.Runs.{run_answer}
use Rattle.n2_top.specs.Run.{IsRunOf, Answers, IsStatusFor}
use Rattle.n2_top.specs.Headline.{Agreeing, next_act, IsOwnTurn, IsRefusedWhereBroken, Headline}
use Rattle.n2_top.proofs.Ordered.{one_more, turn_is_own, other_core, refused_is}

-- ---- statuses

role_refuses : (role : Role) → 3 ≤ role_status role
role_refuses roles.Board = omega arith
role_refuses (roles.Image core) = omega arith
role_refuses roles.Journal = omega arith
role_refuses roles.Source = omega arith
role_refuses roles.Order = omega arith

pub refuses : (refusal : Refusal) → 3 ≤ status_of refusal
refuses refusals.Usage = omega arith
refuses refusals.RunUsage = omega arith
refuses (refusals.Absent role) = role_refuses role
refuses (refusals.TooLong role) = role_refuses role
refuses (refusals.BoardText fault) = omega arith
refuses (refusals.Image core fault) = omega arith
refuses (refusals.Misfit fault) = omega arith
refuses (refusals.OrderRow row) = omega arith
refuses (refusals.JournalText fault) = omega arith
refuses (refusals.JournalWrong row) = omega arith
refuses (refusals.SourceRow row kind) = omega arith

run_status_of : (broke refused : Bool) → cond broke 0 (cond refused 1 2) < 3
run_status_of true refused = omega arith
run_status_of false true = omega arith
run_status_of false false = omega arith

pub status_for : (asked : Result Inputs Refusal) (a : Answer) → Answers asked a → IsStatusFor asked a.status
status_for (Ok inputs) a h =
    let stops = map (λ (c : Core). stop_of c) (caching inputs (actors_of h.drawn)).cores in
    subst (λ (n : ℕ). n < 3) (ap (λ (x : Answer). x.status) (sym h.answer_is)) (run_status_of (list_all has_broken stops) (list_any is_refused stops))
status_for (Err refusal) a h = ap (λ (x : Answer). x.status) h

pub not_final : (n : ℕ) → n ≡ 7 → IsTrue (is_final n) → ⊥
not_final n seven final = let z : IsTrue (is_final 7) = subst (λ (m : ℕ). IsTrue (is_final m)) seven final in cc

-- an answer that was put, whatever its status
pub final_status : (asked : Result Inputs Refusal) (a : Answer) (status : ℕ) → Answers asked a → (status ≢ 7 → status ≡ a.status) → IsTrue (is_final status) → IsStatusFor asked status
final_status asked a status h put final =
    let e : status ≡ a.status = put (λ seven. not_final status seven final) in
    subst (λ (n : ℕ). IsStatusFor asked n) (sym e) (status_for asked a h)

pub put_status : (asked : Result Inputs Refusal) (a : Answer) (status : ℕ) → Answers asked a → (status ≢ 7 → status ≡ a.status) → (status ≡ 7 → ⊥) → IsStatusFor asked status
put_status asked a status h put kept = subst (λ (n : ℕ). IsStatusFor asked n) (sym (put (λ seven. kept seven))) (status_for asked a h)

-- ---- the answer of a run

pub run_of : (inputs : Inputs) (ran : Ran) (a : Answer) → IsReady inputs → IsRecorded inputs.board inputs.images ran → ((m : Machine) → RanStandsFor inputs.board inputs.layout ran m → length m.cores ≡ length inputs.board.core → a ≡ run_answer inputs.board inputs.layout m) → IsRunOf inputs a
run_of inputs ran a ready recorded answered =
    let b = inputs.board in
    let s = start b inputs.images in
    let j = ran.journal.content in
    let stands : RanStandsFor b inputs.layout ran (caching inputs (actors_of j)) =
    subst (λ (g : AddressMap). RanStandsFor b g ran (run b g s (actors_of j))) (sym ready.layout) recorded.stands in
    record {
      ready = ready;
      drawn = j;
      within = stands.within;
      records = subst (λ (g : AddressMap). Records b g s j) (sym ready.layout) recorded.records;
      answer_is = answered (caching inputs (actors_of j)) stands (count_run b inputs.layout (actors_of j) s (as_many b.core inputs.images ready.images));
    }

-- ---- the sentence, part by part

pub in_report : (b : Board) (g : AddressMap) (m : Machine) (f : Flat) → run_flat_part b g m ≡ flat_flat_part b f → (rest : List ℕ) × (run_report b g m ≡ codes "nios2 report 1\n" ++ flat_flat_part b f ++ rest)
unfolding run_report report_text
in_report b g m f e =
    let ends = ends_text 0 (map core_end m.cores) (map turns_of m.cores) in
    let transfers = transfers_row (transfers_of m.entries) in
    let memory = flat_map memory_row (dumped m.world.memory b.dump) in
    let start = codes "nios2 report 1\n" ++ run_flat_part b g m in (
      ends ++ transfers ++ memory,
      ap (λ (text : List ℕ). text ++ memory) (append_assoc start ends transfers)
          ∙ append_assoc start (ends ++ transfers) memory
          ∙ ap (λ (part : List ℕ). (codes "nios2 report 1\n" ++ part) ++ (ends ++ transfers ++ memory)) e,
    )

module _ (inputs : Inputs) (ready : IsReady inputs) where
  counted : (order : List ℕ) → length (caching inputs order).cores ≡ length inputs.board.core
  counted order = count_run inputs.board inputs.layout order (start inputs.board inputs.images) (as_many inputs.board.core inputs.images ready.images)

  pub agreeing : (order : List ℕ) → Agreeing inputs order
  agreeing order =
      let b = inputs.board in
      let memory = first.start b.memory inputs.images in
      agreed b inputs.layout memory (caching inputs order) (without_caches inputs order)
      (run_keeps b inputs.images inputs.layout ready.valid ready.layout memory order (start b inputs.images) (flat_start b inputs.images)
      (starts_along b inputs.images inputs.layout ready.valid ready.images ready.fits ready.sized))

  pub own_turn : (order : List ℕ) (actor : ℕ) → IsOwnTurn inputs order actor
  own_turn order actor =
      let own = turn_is_own inputs.board inputs.layout (caching inputs order) (counted order) actor in
      record {
        own = own;
        made = one_more inputs order actor;
        others = λ core other. ap (λ (f : Flat). slice_get f.cores core) (one_more inputs order actor) ∙ other_core inputs.board inputs.layout (without_caches inputs order) core actor (next_act inputs order actor) own other;
      }

  pub refused_where : (order : List ℕ) (core : ℕ) (f g : Front) → f.stop ≡ None → slice_get (without_caches inputs order).cores core ≡ Some f → slice_get (without_caches inputs (order ++ core ∷ [])).cores core ≡ Some g → IsRefusedWhereBroken inputs order core f g
  refused_where order core f g none there now =
      λ stop refused.
      refused_is inputs.board inputs.layout (without_caches inputs order) core f none there g stop refused (next_act inputs order core)
      (turn_is_own inputs.board inputs.layout (caching inputs order) (counted order) core)
      (ap (λ (x : Flat). slice_get x.cores core) (sym (one_more inputs order core)) ∙ now)

-- ---- the whole sentence

pub carried : (asked : Result Inputs Refusal) (a : Answer) (status : ℕ) (journal journal_now report report_now : Option (List ℕ)) → Answers asked a → status < 3 → status ≡ a.status → journal_now ≡ appended journal a.journal → report_now ≡ appended report a.report → Headline asked status journal journal_now report report_now
carried (Err refusal) a status journal journal_now report report_now h small same written reported =
    let e : status ≡ status_of refusal = same ∙ ap (λ (x : Answer). x.status) h in
    let le = refuses refusal in
    absurd (omega arith)
carried (Ok inputs) a status journal journal_now report report_now h small same written reported =
    let j = h.drawn in
    let order = actors_of j in
    record {
      inputs = inputs;
      images_and_board = (refl, h.ready);
      drawn = j;
      written = (
        written ∙ ap (λ (text : List ℕ). appended journal text) (ap (λ (x : Answer). x.journal) h.answer_is ∙ ap (λ (k : Content). journal_text k) h.records.journal),
        read_again j h.within,
      );
      replays = (h.records, replays_all inputs.board inputs.images inputs.layout j h.ready.images h.records);
      reported = (reported ∙ ap (λ (x : Answer). appended report x.report) h.answer_is, same ∙ ap (λ (x : Answer). x.status) h.answer_is);
      registers_bytes_and_stops = in_report inputs.board inputs.layout (caching inputs order) (without_caches inputs order) (same_flat_part inputs.board inputs.images inputs.layout order h.ready.valid h.ready.layout h.ready.images (agreeing inputs h.ready order));
      every_load = λ o rest e. agreeing inputs h.ready o;
      own_order = λ o rest actor e. own_turn inputs h.ready o actor;
      refused = λ o rest core f g e none there now. refused_where inputs h.ready o core f g none there now;
    }
