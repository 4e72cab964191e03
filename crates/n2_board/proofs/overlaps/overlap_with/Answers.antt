use Rattle.std.proofs.Common.{◌≡◌, ℕ, ◌+◌, ◌-◌, ◌*◌, ◌<◌, ◌≤◌, min, max, Bool, true, false, ◌&&◌, nat_lt, List, Option, Some, None, refl, sym, ap, ◌∙◌, arith}
use Rattle.std.specs.Prelude.{if◌then◌else◌, slice_index_or}
use Rattle.std.specs.Option.{option_or}
use Rattle.std.proofs.lemmas.Bool.{lt-ltb, le-ltb}
use Rattle.n2_parts.specs.Parts.{first_from}
use Rattle.n2_parts.proofs.Steps.{first_from-next, first_from-done}
use Rattle.n2_board.specs.declared.placement.OpenFault.{OpenFault}
use Rattle.n2_board.specs.declared.placement.OpenFault.TheVariants.{Overlap}
use Rattle.n2_board.proofs.overlaps.overlap_with.Goals as goal
use Rattle.n2_board.proofs.overlaps.overlap_with.Goals.{else-a-b-via-then-a-b+else-met-pair, else-a-b-via-else-a-b}

abbrev found : ℕ → List Bool → ℕ → Option OpenFault
found a met b = if nat_lt a b && slice_index_or met (8 * a + b) false then Some (Overlap a b) else None

at_pair : (a b p : ℕ) → a < b → p ≡ 8 * min a b + max a b → 8 * a + b ≡ p
at_pair a b p lt e = omega arith

hit : (a b p : ℕ) (met : List Bool) → a < b → p ≡ 8 * min a b + max a b → slice_index_or met p false ≡ true → found a met b ≡ Some (Overlap a b)
hit a b p met lt e h = rw (lt-ltb a b lt, at_pair a b p lt e, h) refl

miss : (a b p : ℕ) (met : List Bool) → a < b → p ≡ 8 * min a b + max a b → slice_index_or met p false ≡ false → found a met b ≡ None
miss a b p met lt e h = rw (lt-ltb a b lt, at_pair a b p lt e, h) refl

below : (a b : ℕ) (met : List Bool) → b ≤ a → found a met b ≡ None
below a b met le = rw (le-ltb a b le) refl

pub returns-then-met-pair : goal.returns-then-met-pair
returns-then-met-pair c =
    let here : found c.args.a c.args.met.now c.loop-b.b ≡ Some (Overlap c.args.a c.loop-b.b) = hit _ _ c.pair.result c.args.met.now c.if-a-b.true c.pair.ensures c.if-met-pair.true in
    ap (λ (o : Option OpenFault). option_or o (first_from (found c.args.a c.args.met.now) (c.loop-b.b + 1) (c.args.count - (c.loop-b.b + 1)))) (sym here)
    ∙ sym (first_from-next (found c.args.a c.args.met.now) c.loop-b.b c.args.count c.loop-b-test.true)
    ∙ c.loop-b.invariant

pub loop-b-preserved : goal.loop-b-preserved
loop-b-preserved c =
    let here : found c.args.a c.args.met.now c.loop-b.b ≡ None = elim c.else-a-b.branch [
      | else-a-b-via-then-a-b+else-met-pair w ↦ miss _ _ w.pair.result c.args.met.now w.if-a-b.true w.pair.ensures w.if-met-pair.false
      | else-a-b-via-else-a-b w ↦ below _ _ c.args.met.now w.if-a-b.false
    ] in
    ap (λ (o : Option OpenFault). option_or o (first_from (found c.args.a c.args.met.now) (c.loop-b.b + 1) (c.args.count - (c.loop-b.b + 1)))) (sym here)
    ∙ sym (first_from-next (found c.args.a c.args.met.now) c.loop-b.b c.args.count c.loop-b-test.true)
    ∙ c.loop-b.invariant

pub returns : goal.returns
returns c = sym (first_from-done (found c.args.a c.args.met.now) c.loop-b.b c.args.count (omega arith)) ∙ c.loop-b.invariant
