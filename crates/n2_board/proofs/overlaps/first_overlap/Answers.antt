use Rattle.std.proofs.Common.{◌≡◌, ℕ, ◌+◌, ◌*◌, ◌<◌, Bool, false, ◌&&◌, nat_lt, List, Some, None, refl, sym, ap, subst, ◌∙◌, inl, inr, arith}
use Rattle.std.specs.Prelude.{if◌then◌else◌, slice_index_or}
use Rattle.std.specs.List.{All}
use Rattle.std.proofs.lemmas.Bool.{cases_lt, le-ltb}
use Rattle.std.proofs.lemmas.List.Sorted.{All-permutation}
use Rattle.n2_parts.specs.Parts.{first_from}
use Rattle.n2_parts.proofs.Steps.{first_from-same}
use Rattle.n2_board.specs.declared.segments.LoadedSegment.{LoadedSegment}
use Rattle.n2_board.specs.declared.placement.OpenFault.TheVariants.{Overlap}
use Rattle.n2_board.specs.Placement.{images_meet, overlap_of}
use Rattle.n2_board.proofs.Meeting.{meet_permuted}
use Rattle.n2_board.proofs.overlaps.first_overlap.Goals as goal

same_pair : (met : List Bool) (segments : List LoadedSegment) (a b : ℕ) → (a < b → slice_index_or met (8 * a + b) false ≡ images_meet a b segments) → (if nat_lt a b && slice_index_or met (8 * a + b) false then Some (Overlap a b) else None) ≡ overlap_of segments a b
unfolding overlap_of
same_pair met segments a b same = elim (cases_lt a b) [
  | inl lt ↦ rw (same lt) refl
  | inr le ↦ rw (le-ltb a b le) refl
]

pub pairs_met-requires-clause-cores : goal.pairs_met-requires-clause-cores
pairs_met-requires-clause-cores c =
    let few : All (λ (s : LoadedSegment). s.core < 8) c.args.segments.now = λ k d lt. (let low = c.requires.cores k d lt in omega arith) in
    subst (λ (xs : List LoadedSegment). All (λ (s : LoadedSegment). s.core < 8) xs) (sym c.deref.ensures.value) (All-permutation (λ (s : LoadedSegment). s.core < 8) c.args.segments.now c.in_ok-sorted.sorted.items c.in_ok-sorted.ensures.same few)

pub returns : goal.returns
returns c =
    let right : (a b : ℕ) → a < b → b < 8 → slice_index_or c.pairs_met.result (8 * a + b) false ≡ images_meet a b c.args.segments.now =
    λ a b lt less. c.pairs_met.ensures a b lt less ∙ ap (images_meet a b) c.deref.ensures.value ∙ meet_permuted a b c.args.segments.now c.in_ok-sorted.sorted.items c.in_ok-sorted.ensures.same
    in
    c.overlap_in.ensures
    ∙ first_from-same
    (λ a. first_from (λ b. if nat_lt a b && slice_index_or c.pairs_met.result (8 * a + b) false then Some (Overlap a b) else None) 0 c.args.count)
    (λ a. first_from (λ b. overlap_of c.args.segments.now a b) 0 c.args.count) 0 c.args.count
    (λ a low high. first_from-same
    (λ b. if nat_lt a b && slice_index_or c.pairs_met.result (8 * a + b) false then Some (Overlap a b) else None)
    (λ b. overlap_of c.args.segments.now a b) 0 c.args.count
    (λ b low' high'. same_pair c.pairs_met.result c.args.segments.now a b (λ lt. right a b lt (omega arith))))
