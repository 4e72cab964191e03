-- How many sets a core has.
use Rattle.std.proofs.Common.{◌≡◌, ℕ, zero, suc, ◌/◌, ◌<◌, ◌≤◌, Bool, true, false, ◌&&◌, List, [], ◌∷◌, length, slice_get, Option, Some, refl, sym, arith, subst}
use Rattle.std.specs.Prelude.{option_map, unwrap_or, nat_le}
use Rattle.std.specs.Int.{is_power_of_two}
use Rattle.std.proofs.lemmas.Bool.Decides.{nat_tests}
use Rattle.n2_word.specs.Lines.{is_cache_size}
use Rattle.n2_parts.specs.declared.board.Board.{Board}
use Rattle.n2_parts.specs.declared.board.CoreRow.{CoreRow}
use Rattle.n2_parts.specs.Valid.{IsValid}
use Rattle.n2_parts.proofs.Sound.{caches}
use Rattle.n2_watch.specs.Book.{sets_of}
use Rattle.n2_watch.proofs.KeptLists.{element_at}

pub within : {X : Type 0} (xs : List X) (i : ℕ) (x : X) → slice_get xs i ≡ Some x → i < length xs
within [] i x e = absurd (cc)
within (y ∷ xs) zero x e = omega arith
within (y ∷ xs) (suc i) x e = let lt : i < length xs = within xs i x e in omega arith

-- every data cache has sets
enough : (n : ℕ) → is_cache_size n ≡ true → 0 < n / 32
enough n e = let lt : 512 ≤ n = parts (is_power_of_two n) (nat_le 512 n) (nat_le n 65536) e (λ q. grind (arith, nat_tests)) in omega arith
  where
    parts : (x y z : Bool) → ((x && y) && z) ≡ true → (y ≡ true → 512 ≤ n) → 512 ≤ n
    parts true true z e f = f refl
    parts true false z e f = absurd (cc)
    parts false y z e f = absurd (cc)

pub some_sets : (b : Board) → IsValid b → (k : ℕ) → k < length b.core → 0 < sets_of b k
some_sets b valid k lt =
    let x = element_at b.core k lt in
    subst (λ (o : Option CoreRow). 0 < unwrap_or (option_map (λ (row : CoreRow). row.dcache / 32) o) 0) (sym x.1) (enough (x.0).dcache (caches b valid k x.0 x.1).0)
