use Rattle.std.proofs.Common.{ℕ, ◌+◌, List, drop, ◌∙◌, subst}
use Rattle.std.proofs.lemmas.List.{drop_more}
use Rattle.n2_runs.specs.Recorded.{actors_in}
use Rattle.n2_flat.specs.State.{machine_of}
use Rattle.n2_driver.specs.Beside.{AreUnderway}
use Rattle.n2_driver.proofs.beside.groups_beside.Goals as goal

pub loop-group-preserved : goal.loop-group-preserved
loop-group-preserved c =
    let inv = c.loop-group.invariant in
    let made = c.turns_beside.ensures in
    let i = c.loop-group.group-index in
    record {
      beside = made.beside;
      board = made.board ∙ inv.board;
      map = made.map ∙ inv.map;
      flat_board = made.flat_board ∙ inv.flat_board;
      underway = λ end flat_end u.
          c.in_ok-turns_beside.ensures.underway end flat_end (actors_in (drop (i + 1) c.args.groups.now))
          (subst (λ (groups : List (ℕ × ℕ)). AreUnderway end flat_end c.loop-group.machine (machine_of c.loop-group.flat) (actors_in groups)) (drop_more c.args.groups.now i _ c.loop-group-test.true) (inv.underway end flat_end u));
    }
