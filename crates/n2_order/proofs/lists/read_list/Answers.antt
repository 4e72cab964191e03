use Rattle.std.proofs.Common.{◌≡◌, ◌≤◌, ℕ, Err, ◌∷◌, [], ◌++◌, sym, ap, ◌∙◌, arith}
use Rattle.std.proofs.lemmas.List.Elements.{All-push}
use Rattle.n2_order.proofs.Rows.{joined_more, joined_fault}
use Rattle.n2_order.proofs.lists.read_list.Goals as goal

pub returns-in_default-actor_of-clause-row : goal.returns-in_default-actor_of-clause-row
returns-in_default-actor_of-clause-row c =
    λ row e.
    let same : c.loop-piece.row ≡ row = cc in
    sym c.loop-piece.invariant.actors
    ∙ joined_fault c.args.cores c.loop-piece.row c.loop-piece.list.items c.loop-piece.rest.now c.in-Some.piece.now c.in-Some.behind.now c.in-Some.ensures.some c.in_default-actor_of.ensures.value
    ∙ ap (λ (n : ℕ). Err n) same

pub loop-piece-preserved : goal.loop-piece-preserved
loop-piece-preserved c =
    let added : c.push.new.self.items ≡ c.loop-piece.list.items ++ c.in-Some-actor_of.actor ∷ [] = c.in-Ok.ensures.items in
    rw added
    (record {
      actors = joined_more c.args.cores c.loop-piece.row c.in-Some-actor_of.actor c.loop-piece.list.items c.loop-piece.rest.now c.in-Some.piece.now c.in-Some.behind.now c.in-Some.ensures.some c.in-Some-actor_of.ensures.value ∙ c.loop-piece.invariant.actors;
      small = All-push (λ actor. actor ≤ c.args.cores) c.loop-piece.list.items c.in-Some-actor_of.actor c.loop-piece.invariant.small c.in-Some-actor_of.ensures.small;
      short = omega (arith, c.in-Some.ensures.shorter);
    })
