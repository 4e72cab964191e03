use Rattle.std.proofs.Common.{ℕ, ◌≤◌, List, length, sym, ◌∙◌, subst}
use Rattle.std.specs.Prelude.{All}
use Rattle.std.proofs.lemmas.Result.{on_ok_weaker}
use Rattle.n2_journal.specs.Journals.{order_of}
use Rattle.n2_runs.specs.Recorded.{actors_of}
use Rattle.n2_flat.specs.State.{machine_of}
use Rattle.n2_driver.proofs.Together.{led, along_after, groups_within, order_told}
use Rattle.n2_driver.proofs.beside.run_beside.Goals as goal

pub order-requires : goal.order-requires
order-requires c = order_told _ _ c.requires.counts

pub groups_beside-requires-clause-beside : goal.groups_beside-requires-clause-beside
groups_beside-requires-clause-beside c = record { board = c.requires.board; map_is = c.requires.map; whole = c.requires.whole; state = c.requires.stands.0; stands = c.requires.stands.1 }

pub groups_beside-requires-clause-actors : goal.groups_beside-requires-clause-actors
groups_beside-requires-clause-actors c =
    subst (λ (groups : List (ℕ × ℕ)). All (λ group. group.0 ≤ length c.args.machine.now.board.core) groups) (sym (c.as_slice.ensures.value ∙ c.in_ok-groups.ensures)) (groups_within _ _ c.requires.counts)

pub returns-clause-stands : goal.returns-clause-stands
returns-clause-stands c =
    on_ok_weaker c.groups_beside.result
    (λ leads m stands kept. (led c.args.machine.now c.groups_beside.new.machine (machine_of c.args.flat.now) (machine_of c.groups_beside.new.flat) c.as_slice.result.now (order_of c.args.journal.now.content) (c.as_slice.ensures.value ∙ c.in_ok-groups.ensures) leads m stands kept).0)
    c.groups_beside.ensures.underway

pub returns-clause-flat : goal.returns-clause-flat
returns-clause-flat c =
    on_ok_weaker c.groups_beside.result
    (λ leads m stands kept. (led c.args.machine.now c.groups_beside.new.machine (machine_of c.args.flat.now) (machine_of c.groups_beside.new.flat) c.as_slice.result.now (order_of c.args.journal.now.content) (c.as_slice.ensures.value ∙ c.in_ok-groups.ensures) leads m stands kept).1)
    c.groups_beside.ensures.underway

pub returns-clause-agrees : goal.returns-clause-agrees
returns-clause-agrees c =
    on_ok_weaker c.groups_beside.result
    (λ leads first m stands kept along.
    along_after c.args.machine.now c.args.layout.now c.args.flat.now (record { board = c.requires.board; map_is = c.requires.map; whole = c.requires.whole; state = c.requires.stands.0; stands = c.requires.stands.1 }) first m (actors_of c.args.journal.now.content) (machine_of c.groups_beside.new.flat)
    (led c.args.machine.now c.groups_beside.new.machine (machine_of c.args.flat.now) (machine_of c.groups_beside.new.flat) c.as_slice.result.now (order_of c.args.journal.now.content) (c.as_slice.ensures.value ∙ c.in_ok-groups.ensures) leads m stands kept).1 along)
    c.groups_beside.ensures.underway
