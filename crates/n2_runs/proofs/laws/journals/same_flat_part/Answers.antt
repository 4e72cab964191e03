use Rattle.std.proofs.Common.{◌≡◌, ℕ, List, length, None, ap, sym, ◌∙◌}
use Rattle.std.specs.List.{AllByRecursion}
use Rattle.n2_elf.specs.declared.image.Image.{Image}
use Rattle.n2_elf.specs.Reading.{IsSized}
use Rattle.n2_parts.specs.declared.board.Board.{Board}
use Rattle.n2_parts.specs.Valid.{IsValid}
use Rattle.n2_board.specs.AddressMap.{AddressMap, address_map}
use Rattle.n2_board.specs.Placement.{open_fault}
use Rattle.n2_memory.specs.Start as first
use Rattle.n2_runs.specs.Machine.{Machine, start, run, acts}
use Rattle.n2_runs.specs.FlatRun.{flat_start, flat}
use Rattle.n2_runs.specs.Agree.{fronts_of}
use Rattle.n2_runs.specs.Along.{IsAlong}
use Rattle.n2_runs.specs.Recorded.{journal_of, actors_of}
use Rattle.n2_runs.proofs.Turns.{run_keeps}
use Rattle.n2_runs.proofs.Begins.{starts_along}
use Rattle.n2_runs.proofs.Ahead.{run_replays}
use Rattle.n2_runs.proofs.laws.journals.same_flat_part.Goals as goal

along : (b : Board) (images : List Image) (map' : AddressMap) (order : List ℕ) → IsValid b → map' ≡ address_map b images → length images ≡ length b.core → open_fault b images ≡ None → AllByRecursion IsSized images → IsAlong b map' (first.start b.memory images) (run b map' (start b images) order) (flat b map' (flat_start b images) (acts b map' (start b images) order))
along b images map' order valid is long fits sized = run_keeps b images map' valid is (first.start b.memory images) order (start b images) (flat_start b images) (starts_along b images map' valid long fits sized)

pub returns-clause-fronts : goal.returns-clause-fronts
returns-clause-fronts c = λ b images map' order valid is long fits sized.
    let again = actors_of (journal_of (run b map' (start b images) order)) in
    (along b images map' again valid is long fits sized).fronts
    ∙ ap (λ (m : Machine). fronts_of m.cores) (run_replays b images map' order valid is long)
    ∙ sym (along b images map' order valid is long fits sized).fronts

pub returns-clause-book : goal.returns-clause-book
returns-clause-book c = λ b images map' order valid is long fits sized.
    let again = actors_of (journal_of (run b map' (start b images) order)) in
    (along b images map' again valid is long fits sized).book_is
    ∙ ap (λ (m : Machine). m.world.book) (run_replays b images map' order valid is long)
    ∙ sym (along b images map' order valid is long fits sized).book_is
