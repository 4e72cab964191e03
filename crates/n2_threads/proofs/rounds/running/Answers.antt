use Rattle.std.proofs.Common.{◌≡◌, ℕ, ◌++◌, ◌∷◌, [], List, length, sym, ap, subst, ◌∙◌, arith}
use Rattle.arrayvec.specs.ArrayVec.{ArrayVec}
use Rattle.n2_parts.specs.declared.board.Board.{Board}
use Rattle.n2_runs.specs.Machine.{Machine, is_over}
use Rattle.n2_smp.specs.Standing.{StandsFor}
use Rattle.n2_threads.proofs.Lists.{running_skips, running_adds}
use Rattle.n2_threads.proofs.rounds.running.Goals.{then-not-over, else-not-over}
use Rattle.n2_threads.proofs.rounds.running.Goals as goal

pub loop-actor-preserved : goal.loop-actor-preserved
loop-actor-preserved c =
    let b = c.args.board.now in
    let actor = c.loop-actor.actor in
    let inv = c.loop-actor.invariant in
    let few = inv.count in
    let told : (m : Machine) → StandsFor c.args.machine.now m → length m.cores ≡ length b.core → c.over.result ≡ is_over b m actor =
    λ m s count. subst (λ (a : Board). length m.cores ≡ length a.core → c.over.result ≡ is_over a m actor) c.requires.board (c.over.ensures m s) count in
    elim c.if-not-over.branch [
      | then-not-over w ↦ record {
        count = let is = ap (λ (r : ArrayVec ℕ). length r.items) w.running-is in let long = w.push.ensures.len in omega (arith, is, long, few);
        running = λ m s count.
            ap (λ (r : ArrayVec ℕ). r.items) w.running-is ∙ w.push.ensures.items ∙ ap (λ (l : List ℕ). l ++ actor ∷ []) (inv.running m s count)
            ∙ running_adds b m actor (sym w.if-not-over.true ∙ told m s count);
      }
      | else-not-over w ↦ record {
        count = let is = ap (λ (r : ArrayVec ℕ). length r.items) w.running-is in omega (arith, is, few);
        running = λ m s count. ap (λ (r : ArrayVec ℕ). r.items) w.running-is ∙ inv.running m s count ∙ running_skips b m actor (sym w.if-not-over.false ∙ told m s count);
      }
    ]
