use Rattle.std.proofs.Common.{◌≡◌, ◌∙◌, ℕ, List, length, get_or, ap, sym, subst, arith}
use Rattle.std.specs.Prelude.{IsTrue}
use Rattle.std.specs.Int.{is_power_of_two}
use Rattle.n2_watch.proofs.Starting.{nothing_cleaned, length_zeros}
use Rattle.n2_watch.proofs.records.Records.open.Goals as goal

pub invariant_of-result : goal.invariant_of-result
invariant_of-result c =
    let e : length c.in_ok-cleaned.cleaned.items ≡ c.args.sets = ap (λ (x : List ℕ). length x) c.in_ok-cleaned.ensures ∙ length_zeros c.args.sets in
    let f : length c.in_ok-counts.counts.items ≡ c.args.sets = ap (λ (x : List ℕ). length x) c.in_ok-counts.ensures ∙ length_zeros c.args.sets in
    (subst (λ (n : ℕ). IsTrue (is_power_of_two n)) (sym e) c.requires.power, (omega (arith, e, c.requires.some)), f ∙ sym e, λ set. (omega (arith, ap (λ (x : List ℕ). get_or x set 0) c.in_ok-counts.ensures, nothing_cleaned c.args.sets set)))
