-- A fetch from the line of one that was not cut off is not cut off either.
use Rattle.std.proofs.Common.{◌≡◌, ℕ, ◌/◌, ◌%◌, ◌<◌, ◌^◌, false, nat_le, List, None, sym, ap, subst, ◌∙◌, arith}
use Rattle.std.proofs.lemmas.Bool.Decides.{nat_tests}
use Rattle.n2_word.specs.Lines.{line}
use Rattle.n2_elf.specs.declared.image.Image.{Image}
use Rattle.n2_parts.specs.declared.board.Board.{Board}
use Rattle.n2_parts.specs.MemoryLines.{HasLine}
use Rattle.n2_board.specs.declared.classes.Class.{Class}
use Rattle.n2_board.specs.declared.classes.Class.TheVariants.{Code}
use Rattle.n2_board.specs.declared.places.Place.{Place}
use Rattle.n2_board.specs.declared.places.Place.TheVariants.{Memory}
use Rattle.n2_board.specs.AddressMap.{AddressMap, address_map, class_of, place}
use Rattle.n2_board.specs.Access.{fetch_at, fetch_violation}
use Rattle.n2_board.proofs.Reached.{fetch_place, line_of_memory, memory_of_line}
use Rattle.n2_watch.specs.Watched.{IsMapOf}
use Rattle.n2_flat.specs.State.{IsFetchable}

low : (a : ℕ) → a < 2 ^ 31 → nat_le (2 ^ 31) a ≡ false
low a lt = grind (arith, nat_tests)

passes : (map : AddressMap) (a : ℕ) → a < 2 ^ 31 → place map a ≡ Memory → class_of map (line a) ≡ Code → fetch_violation map a ≡ None
unfolding fetch_violation
passes map a lt memory code = rw (low a lt) (ap (λ (p : Place). fetch_at p (class_of map (line a))) memory ∙ ap (λ (x : Class). fetch_at Memory x) code)

near : (a c : ℕ) → c < 2 ^ 31 → a / 32 ≡ c / 32 → a < 2 ^ 31
near a c lt e = omega arith

one_line : (a c : ℕ) → a < 2 ^ 31 → c < 2 ^ 31 → a / 32 ≡ c / 32 → line a ≡ line c
one_line a c lt lt' e = omega arith

fetch_near : (b : Board) (images : List Image) (map : AddressMap) → map ≡ address_map b images → IsMapOf b map → (pc other : ℕ) → fetch_violation map pc ≡ None → other / 32 ≡ pc / 32 → fetch_violation map other ≡ None
fetch_near b images map is m pc other h e =
    let found = fetch_place map pc h in
    let lt = near other pc found.0 e in
    let same : line other ≡ line pc = one_line other pc lt found.0 e in
    let there : HasLine b.memory (line pc) = line_of_memory b images m.valid pc found.0 (subst (λ (x : AddressMap). place x pc ≡ Memory) is found.1) in
    let memory : place map other ≡ Memory = subst (λ (x : AddressMap). place x other ≡ Memory) (sym is) (memory_of_line b images m.valid other lt (subst (λ (n : ℕ). HasLine b.memory n) (sym same) there)) in
    passes map other lt memory (ap (λ (n : ℕ). class_of map n) same ∙ found.2)

pub let_line : (b : Board) (map : AddressMap) (pc : ℕ) → IsMapOf b map → fetch_violation map pc ≡ None → IsFetchable map (pc / 32)
let_line b map pc m h = λ other few e. fetch_near b m.images map m.maps m pc other h e
