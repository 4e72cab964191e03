-- Arrays that are not too long.
use Rattle.std.proofs.Common.{◌≡◌, ℕ, zero, suc, ◌<◌, ◌^◌, Bool, true, false, List, [], ◌∷◌, length, get_or, map, Option, Some, None, nat_lt, refl, arith}
use Rattle.std.proofs.lemmas.Bool.Decides.{nat_tests}
use Rattle.std.specs.Option.{option_or}
use Rattle.toml.specs.Data.{Members}
use Rattle.n2_text.specs.Firsts.{first_of, unless}
use Rattle.n2_parts.specs.declared.board.PartKind.{PartKind}
use Rattle.n2_parts.specs.declared.board.PartKind.TheVariants as kinds
use Rattle.n2_parts.specs.Parts.{arrays}
use Rattle.n2_boardtext.specs.declared.keys.Named.{Named}
use Rattle.n2_boardtext.specs.declared.keys.Named.TheVariants as named
use Rattle.n2_boardtext.specs.Keys.{kind_of}
use Rattle.n2_boardtext.specs.Values.{items_at}
use Rattle.n2_boardtext.specs.Faults.{length_fault, lengths_fault}

neither : {F : Type 0} (a b : Option F) → option_or a b ≡ None → (a ≡ None) × (b ≡ None)
neither None b e = (refl, e)
neither (Some fault) b e = cc

holds_if_no_fault : {F : Type 0} (b : Bool) (fault : F) → unless b fault ≡ None → b ≡ true
holds_if_no_fault true fault e = refl
holds_if_no_fault false fault e = cc

-- where none of some has a fault, the one at a place has none
no_fault_at : {A F : Type 0} (f : A → Option F) (xs : List A) (k : ℕ) (d : A) → first_of (map f xs) ≡ None → k < length xs → f (get_or xs k d) ≡ None
no_fault_at f [] k d e lt = absurd (omega arith)
no_fault_at f (x ∷ xs) zero d e lt = (neither (f x) (first_of (map f xs)) e).0
no_fault_at f (x ∷ xs) (suc k) d e lt = no_fault_at f xs k d ((neither (f x) (first_of (map f xs)) e).1) (omega arith)

pub is_few : (tree : Members) (kind : PartKind) → length_fault tree kind ≡ None → length (items_at kind tree) < 2 ^ 32
is_few tree kind e = let within : nat_lt (length (items_at kind tree)) (2 ^ 32) ≡ true = holds_if_no_fault _ _ e in grind (arith, nat_tests)

pub named_few : (tree : Members) (array : Named) → lengths_fault tree arrays ≡ None → length (items_at (kind_of array) tree) < 2 ^ 32
unfolding lengths_fault
named_few tree named.Mutex e = is_few tree kinds.Mutex (no_fault_at (length_fault tree) arrays 2 kinds.Top e (omega arith))
named_few tree named.Mailbox e = is_few tree kinds.Mailbox (no_fault_at (length_fault tree) arrays 3 kinds.Top e (omega arith))
named_few tree named.Uart e = is_few tree kinds.Uart (no_fault_at (length_fault tree) arrays 5 kinds.Top e (omega arith))
