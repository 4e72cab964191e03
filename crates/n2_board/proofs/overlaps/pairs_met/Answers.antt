use Rattle.std.proofs.Common.{◌≡◌, ℕ, ◌+◌, ◌*◌, min, false, Bool, ◌&&◌, ◌||◌, nat_lt, List, length, refl, sym, ap, ◌∙◌, arith}
use Rattle.std.specs.Prelude.{slice_index}
use Rattle.std.proofs.Math.ListN.{length-set}
use Rattle.std.proofs.lemmas.List.{get_or-replicate}
use Rattle.n2_board.specs.declared.segments.LoadedSegment.{LoadedSegment}
use Rattle.n2_board.proofs.Meeting.{greatest-nil, met_more, ends_more}
use Rattle.n2_board.proofs.overlaps.pairs_met.Goals as goal

join : (new old met more of_a of_b : Bool) (from end last_a last_b greatest_a greatest_b : ℕ)
    → new ≡ (old || (of_b && nat_lt from (min end last_a)) || (of_a && nat_lt from (min end last_b)))
    → old ≡ met → last_a ≡ greatest_a → last_b ≡ greatest_b
    → more ≡ (met || (of_b && nat_lt from (min end greatest_a)) || (of_a && nat_lt from (min end greatest_b)))
    → new ≡ more
join new old met more of_a of_b from end last_a last_b greatest_a greatest_b e f g h k = rw (e, f, g, h, k) refl

pub loop-segment-init : goal.loop-segment-init
loop-segment-init c = record { ends = λ a lt. get_or-replicate 8 a 0 0 lt ∙ sym (greatest-nil a); met = λ a b lt less. get_or-replicate 64 (8 * a + b) false false (omega arith) }

pub loop-segment-preserved : goal.loop-segment-preserved
loop-segment-preserved c =
    let sorted : List LoadedSegment = c.args.sorted.now in
    let i : ℕ = c.loop-segment.segment-index in
    let long : length c.loop-segment.ends ≡ 8 = omega (arith, c.note_end.array_long, ap length c.note_end.ensures, length-set {A = ℕ}) in
    record {
      ends = λ a lt. ap (λ (es : List ℕ). slice_index es a) c.note_end.ensures
          ∙ ends_more c.loop-segment.ends a sorted i _ c.loop-segment-test.true long (c.requires.cores i _ c.loop-segment-test.true) lt c.loop-segment.invariant.ends;
      met = λ a b lt less.
          join _ _ _ _ _ _ _ _ _ _ _ _ (c.note_pairs.ensures a b lt less) (c.loop-segment.invariant.met a b lt less) (c.loop-segment.invariant.ends a (omega arith)) (c.loop-segment.invariant.ends b less)
          (met_more a b sorted i _ c.requires.rising c.loop-segment-test.true lt);
    }
