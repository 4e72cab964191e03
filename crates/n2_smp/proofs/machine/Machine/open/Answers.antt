use Rattle.std.proofs.Common.{◌≡◌, ℕ, length, ap, sym, ◌∙◌, subst, arith}
use Rattle.n2_parts.specs.declared.board.Board.{Board}
use Rattle.n2_parts.proofs.Small.{valid_small}
use Rattle.n2_board.specs.AddressMap.{AddressMap, address_map}
use Rattle.n2_journal.specs.Journals.{Limited}
use Rattle.n2_runs.specs.Machine.{start}
use Rattle.n2_runs.specs.Knows.{IsBookKept}
use Rattle.n2_runs.proofs.Books.{start_kept}
use Rattle.n2_runs.proofs.Begins.{starts_along}
use Rattle.n2_smp.specs.Standing.{StandsFor, IsSound}
use Rattle.n2_smp.proofs.Opening.{start_stands, start_sound}
use Rattle.n2_smp.proofs.machine.Machine.open.Goals as goal

pub overflow_cast-len : goal.overflow_cast-len
overflow_cast-len c =
    let count = c.in_ok-cores.ensures.count in
    let few = (valid_small c.args.board.now c.requires.valid).core in
    omega arith

pub invariant_of-result : goal.invariant_of-result
invariant_of-result c =
    let count : length c.in_ok-cores.cores.items ≡ length c.args.board.now.core = c.in_ok-cores.ensures.count ∙ c.requires.images in
    let many : length c.args.board.now.core ≡ c.len.result = omega arith in
    let stands = start_stands c.args.board.now c.in_ok-layout.layout c.args.images.now c.in_ok-cores.cores.items c.in_ok-bus.bus c.new.result c.len.result count c.in_ok-cores.ensures.opened c.in_ok-bus.ensures.stands (c.new.ensures.all c.args.board.now) in
    let sound = start_sound c.args.board.now c.in_ok-layout.layout c.args.images.now c.in_ok-cores.cores.items c.in_ok-bus.bus c.new.result c.len.result c.requires.valid c.requires.images c.in_ok-layout.ensures.opened (start_kept c.args.board.now c.args.images.now c.in_ok-layout.layout c.requires.images) (c.new.ensures.reached c.args.board.now c.requires.valid) many stands in
    subst (λ (b : Board). IsSound (record { board = b; map = c.in_ok-layout.layout; cores = c.in_ok-cores.cores.items; bus = c.in_ok-bus.bus; journal = c.in_ok-journal.journal; script = c.new.result })) (sym c.in_ok-copy.ensures)
    (subst (λ (j : Limited). IsSound (record { board = c.args.board.now; map = c.in_ok-layout.layout; cores = c.in_ok-cores.cores.items; bus = c.in_ok-bus.bus; journal = j; script = c.new.result })) (sym c.in_ok-journal.ensures) sound)

pub returns-clause-stands : goal.returns-clause-stands
returns-clause-stands c =
    let count : length c.in_ok-cores.cores.items ≡ length c.args.board.now.core = c.in_ok-cores.ensures.count ∙ c.requires.images in
    let stands = start_stands c.args.board.now c.in_ok-layout.layout c.args.images.now c.in_ok-cores.cores.items c.in_ok-bus.bus c.new.result c.len.result count c.in_ok-cores.ensures.opened c.in_ok-bus.ensures.stands (c.new.ensures.all c.args.board.now) in
    subst (λ (b : Board). StandsFor (record { board = b; map = c.in_ok-layout.layout; cores = c.in_ok-cores.cores.items; bus = c.in_ok-bus.bus; journal = c.in_ok-journal.journal; script = c.new.result }) (start c.args.board.now c.args.images.now)) (sym c.in_ok-copy.ensures)
    (subst (λ (j : Limited). StandsFor (record { board = c.args.board.now; map = c.in_ok-layout.layout; cores = c.in_ok-cores.cores.items; bus = c.in_ok-bus.bus; journal = j; script = c.new.result }) (start c.args.board.now c.args.images.now)) (sym c.in_ok-journal.ensures) stands)

pub returns-clause-kept : goal.returns-clause-kept
returns-clause-kept c = start_kept c.args.board.now c.args.images.now (address_map c.args.board.now c.args.images.now) c.requires.images

pub returns-clause-agrees : goal.returns-clause-agrees
returns-clause-agrees c = starts_along c.args.board.now c.args.images.now (address_map c.args.board.now c.args.images.now) c.requires.valid c.requires.images c.in_ok-layout.ensures.fits c.requires.sized
