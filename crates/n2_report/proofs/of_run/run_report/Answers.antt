use Rattle.std.proofs.Common.{◌≡◌, ℕ, List, length, map, ap, sym, ◌∙◌, Vec, Global}
use Rattle.n2_parts.specs.declared.board.UartRow.{UartRow}
use Rattle.n2_journal.specs.declared.entry.Entry.{Entry}
use Rattle.n2_journal.specs.Journals.{Content}
use Rattle.n2_memory.specs.Memories.{Contents}
use Rattle.n2_runs.specs.Machine.{Machine}
use Rattle.n2_smp.specs.Standing.{RanStandsFor}
use Rattle.n2_report.specs.Flat.{uart_of}
use Rattle.n2_report.specs.Report.{report_text}
use Rattle.n2_report.specs.Transfers.{transfers_of}
use Rattle.n2_report.specs.OfFlat.{dumped}
use Rattle.n2_report.specs.OfRun.{run_report, uarts_given}
use Rattle.n2_report.specs.Ran.{all_given, named, end_of, turns_of}
use Rattle.n2_report.proofs.RunEnds.{if_ok, given_count, named_given, same_ends, same_turns, same_report}
use Rattle.n2_report.proofs.of_run.run_report.Goals as goal

pub uart_ends-requires : goal.uart_ends-requires
uart_ends-requires c =
    ap length (c.as_slice-4.ensures ∙ c.in_ok-given.ensures)
    ∙ given_count c.args.layout.now c.entries-entries.result.now 0 c.len.result
    ∙ c.len.ensures
    ∙ ap length (sym c.as_slice-3.ensures)

pub returns : goal.returns
unfolding run_report
returns c =
    let b = c.args.board.now in
    let g = c.args.layout.now in
    let ran = c.args.ran.now in
    if_ok (λ (text : Vec ℕ Global). text.items ≡ report_text c.deref.result.now c.deref-2.result.now (map uart_of c.deref-3.result.now) c.of_entries-transfers.result c.deref-4.result.now)
    (λ (text : Vec ℕ Global). (m : Machine) → RanStandsFor b g ran m → length m.cores ≡ length b.core → text.items ≡ run_report b g m) c.report_text.result
    (λ text e m h count.
    let entries : c.entries-entries.result.now ≡ m.entries = c.entries-entries.ensures ∙ ap (λ (j : Content). j.entries) h.journal in
    let given : c.as_slice-4.result.now ≡ all_given g m.entries 0 (length b.uart) =
    c.as_slice-4.ensures ∙ c.in_ok-given.ensures ∙ ap (λ (es : List Entry). all_given g es 0 c.len.result) entries ∙ ap (λ (n : ℕ). all_given g m.entries 0 n) c.len.ensures in
    let uarts : map uart_of c.deref-3.result.now ≡ uarts_given g 0 b.uart m.entries =
    ap (λ us. map uart_of us) c.deref-3.ensures.value ∙ c.in_ok-uarts.ensures
    ∙ ap (λ (rows : List UartRow). named rows c.as_slice-4.result.now) c.as_slice-3.ensures
    ∙ ap (λ (bytes : List (List ℕ)). named b.uart bytes) given
    ∙ named_given g m.entries 0 b.uart in
    e
    ∙ same_report _ _ _ _ _ _ _ _ _ _
    (c.deref.ensures.value ∙ c.in_ok-cores.ensures ∙ ap (λ ss. map end_of ss) c.as_slice.ensures ∙ same_ends b g ran m h count)
    (c.deref-2.ensures.value ∙ c.in_ok-turns.ensures ∙ ap (λ ss. map turns_of ss) c.as_slice-2.ensures ∙ same_turns b g ran m h count)
    uarts
    (c.of_entries-transfers.ensures ∙ ap transfers_of entries)
    (c.deref-4.ensures.value ∙ c.in_ok-lines.ensures ∙ ap (λ (memory : Contents). dumped memory b.dump) h.bus.memory))
    c.report_text.ensures
