use Rattle.std.proofs.Common.{◌∙◌, ap, sym, take}
use Rattle.std.proofs.lemmas.List.{take_more}
use Rattle.n2_report.specs.Transfers.{transfers_of}
use Rattle.n2_report.proofs.transfers.Transfers.of_entries.Goals as goal

pub loop-entry-preserved : goal.loop-entry-preserved
loop-entry-preserved c =
    c.add.ensures (take c.loop-entry.entry-index c.args.entries.now) c.loop-entry.invariant
    ∙ ap transfers_of (sym (take_more c.args.entries.now c.loop-entry.entry-index _ c.loop-entry-test.true))
