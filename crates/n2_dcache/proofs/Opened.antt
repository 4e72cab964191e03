-- An empty cache is whole.
use Rattle.std.proofs.Common.{◌≡◌, ℕ, ◌/◌, ◌≤◌, sym, ap, subst, ◌∙◌, arith}
use Rattle.std.specs.Prelude.{IsTrue, List, Option, length}
use Rattle.std.specs.Int.{is_power_of_two}
use Rattle.std.proofs.lemmas.Bool.Decides.{nat_tests}
use Rattle.n2_word.specs.Lines.{is_cache_size}
use Rattle.n2_word.proofs.Masks.{power_of_sets}
use Rattle.n2_dcache.specs.declared.Held.{Held}
use Rattle.n2_dcache.specs.Cache.{opened, IsPlaced, IsWhole}
use Rattle.n2_dcache.proofs.Maps.{length-opened, placed-opened}

-- an empty cache has its sets, and no line in another's
pub whole_opened : (slots : List (Option Held)) (bytes : ℕ) → slots ≡ opened bytes → IsTrue (is_cache_size bytes) → IsWhole slots
whole_opened slots bytes empty size =
    let most : bytes ≤ 65536 = grind (arith, nat_tests) in
    let count : length slots ≡ bytes / 32 = ap length empty ∙ length-opened bytes in
    record {
      power = subst (λ n. IsTrue (is_power_of_two n)) (sym count) (power_of_sets bytes size).0;
      most = omega arith;
      placed = subst IsPlaced (sym empty) (placed-opened bytes);
    }
