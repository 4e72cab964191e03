use Rattle.std.proofs.Common.{◌∙◌, ℕ, ◌+◌, ◌*◌, List, Bool, false, inl, inr, length, get_or, sym, ap, below_more, arith, length-set}
use Rattle.std.proofs.lemmas.Bool.{cases_lt}
use Rattle.std.proofs.lemmas.List.{get_or-set_same, length-replicate}
use Rattle.n2_watch.proofs.Opened.{none_owned, beside_mutex, beside_region, held_at, past_regions}
use Rattle.n2_watch.proofs.opening.open_owned.Goals as goal

pub loop-i-init : goal.loop-i-init
loop-i-init c =
    let at = λ (k : ℕ). ap (λ (x : List Bool). get_or x k false) c.in_ok-owned.ensures ∙ none_owned 129 k in
    record {
      slots = ap (λ (x : List Bool). length x) c.in_ok-owned.ensures ∙ length-replicate 129 false;
      mutexes = λ m. at (2 * m + 1);
      passed = λ r h. absurd (omega arith);
      others = λ r h. at (2 * r + 2);
    }

pub loop-i-preserved : goal.loop-i-preserved
loop-i-preserved c =
    let inv = c.loop-i.invariant in
    let o = c.loop-i.owned.items in
    let i = c.loop-i.i in
    record {
      slots = length-set o (2 * i + 2) c.is_held.result ∙ inv.slots;
      mutexes = λ m. beside_mutex o i m c.is_held.result ∙ inv.mutexes m;
      passed = below_more _ _ (λ r h. beside_region o i r c.is_held.result (omega arith) ∙ inv.passed r h)
          (get_or-set_same o (2 * i + 2) c.is_held.result false (omega (arith, inv.slots)) ∙ c.is_held.ensures ∙ held_at c.args.core c.args.regions.now i c.index-regions-i.result (omega arith) c.index-regions-i.is);
      others = λ r h. beside_region o i r c.is_held.result (omega arith) ∙ inv.others r (omega arith);
    }

pub returns-clause-regions : goal.returns-clause-regions
returns-clause-regions c = λ r.
    elim (cases_lt r c.loop-i.i) [
      | inl below ↦ c.loop-i.invariant.passed r below
      | inr past ↦ c.loop-i.invariant.others r past ∙ sym (past_regions c.args.core c.args.regions.now r (omega arith))
    ]
