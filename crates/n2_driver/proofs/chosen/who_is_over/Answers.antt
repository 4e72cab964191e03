use Rattle.std.proofs.Common.{◌≡◌, ℕ, ◌+◌, ◌++◌, ◌∷◌, [], Bool, List, length, ap, sym, ◌∙◌, subst, length-append}
use Rattle.n2_parts.specs.declared.board.Board.{Board}
use Rattle.n2_runs.specs.Machine.{is_over}
use Rattle.n2_driver.specs.Chosen.{overs_from}
use Rattle.n2_driver.proofs.Picking.{overs_push, zero_more}
use Rattle.n2_driver.proofs.chosen.who_is_over.Goals as goal

pub loop-actor-preserved : goal.loop-actor-preserved
loop-actor-preserved c =
    let inv = c.loop-actor.invariant in
    let k = c.loop-actor.actor in
    let items : c.push.new.self.items ≡ c.loop-actor.over.items ++ c.over.result ∷ [] = c.in_ok-push.ensures.items in
    record {
      count = ap length items ∙ length-append c.loop-actor.over.items (c.over.result ∷ []) ∙ ap (λ (n : ℕ). n + 1) inv.count;
      over = λ m h count.
          let told : c.over.result ≡ is_over c.args.board.now m k =
          subst (λ (b : Board). length m.cores ≡ length b.core → c.over.result ≡ is_over b m k) c.requires.board (c.over.ensures m h) count in
          items
          ∙ ap (λ (x : Bool). c.loop-actor.over.items ++ x ∷ []) told
          ∙ ap (λ (l : List Bool). l ++ is_over c.args.board.now m k ∷ []) (inv.over m h count)
          ∙ ap (λ (i : ℕ). overs_from c.args.board.now m 0 k ++ is_over c.args.board.now m i ∷ []) (sym (zero_more k))
          ∙ overs_push c.args.board.now m 0 k;
    }
