-- What an access that is not cut off reaches.
use Rattle.std.proofs.Common.{◌≡◌, ℕ, ◌/◌, ◌%◌, ◌<◌, ◌^◌, Bool, true, false, cond, leb, List, Some, None, Ok, refl, sym, subst, inl, inr, ◌∙◌, arith}
use Rattle.std.proofs.lemmas.Bool.{cases_lt, le-leb, false≢true}
use Rattle.n2_word.specs.declared.Width.{Width}
use Rattle.n2_word.specs.declared.Width.TheVariants.{Byte, Half, Word}
use Rattle.n2_word.specs.Lines.{line, without_bypass}
use Rattle.n2_elf.specs.declared.image.Image.{Image}
use Rattle.n2_parts.specs.declared.board.Board.{Board}
use Rattle.n2_parts.specs.declared.board.Part.{Part}
use Rattle.n2_parts.specs.MemoryLines.{HasLine}
use Rattle.n2_parts.specs.Valid.{IsValid}
use Rattle.n2_board.specs.declared.access.Route.{Route}
use Rattle.n2_board.specs.declared.access.Route.TheVariants.{Cached, Bypassing}
use Rattle.n2_board.specs.declared.access.Direction.{Direction}
use Rattle.n2_board.specs.declared.access.Target.TheVariants as targets
use Rattle.n2_board.specs.declared.access.Violation.TheVariants.{Stray}
use Rattle.n2_board.specs.declared.classes.Class.{Class}
use Rattle.n2_board.specs.declared.classes.Class.TheVariants as classes
use Rattle.n2_board.specs.declared.places.Place.{Place}
use Rattle.n2_board.specs.declared.places.Place.TheVariants as places
use Rattle.n2_board.specs.AddressMap.{AddressMap, address_map, class_of, place}
use Rattle.n2_board.specs.Access.{target_at, data_target, device_target, fetch_of, fetch_at, fetch_violation}
use Rattle.n2_board.proofs.Memories.{is_memory, is_line}

low_line : (address : ℕ) → address < 2 ^ 31 → address / 32 ≡ line address
low_line address lt = let e : address % 2 ^ 31 ≡ address = omega arith in omega arith

pub line_of_memory : (b : Board) (images : List Image) → IsValid b → (address : ℕ) → address < 2 ^ 31 → place (address_map b images) address ≡ places.Memory → HasLine b.memory (line address)
unfolding address_map
line_of_memory b images valid address lt h = subst (HasLine b.memory) (low_line address lt) (is_line b address valid h)

pub memory_of_line : (b : Board) (images : List Image) → IsValid b → (address : ℕ) → address < 2 ^ 31 → HasLine b.memory (line address) → place (address_map b images) address ≡ places.Memory
unfolding address_map
memory_of_line b images valid address lt h = is_memory b address valid (subst (HasLine b.memory) (sym (low_line address lt)) h)

no_memory : (part : Part) (offset : ℕ) (width : Width) (route : Route) → device_target part offset width route ≡ Ok targets.Memory → ⊥
no_memory part offset Byte route h = absurd cc
no_memory part offset Half route h = absurd cc
no_memory part offset Word Cached h = absurd cc
no_memory part offset Word Bypassing h = absurd cc

from_place : (there : Place) (class : Class) (core : ℕ) (width : Width) (route : Route) (direction : Direction) → target_at there class core width route direction ≡ Ok targets.Memory → there ≡ places.Memory
from_place places.Memory class core width route direction h = refl
from_place (places.Device part offset) class core width route direction h = absurd (no_memory part offset width route h)
from_place places.Nothing class core width route direction h = absurd cc

-- a load or store that reaches memory is of an address of memory
pub data_place : (map : AddressMap) (core address : ℕ) (width : Width) (route : Route) (direction : Direction) → data_target map core address width route direction ≡ Ok targets.Memory → place map (without_bypass address) ≡ places.Memory
unfolding data_target
data_place map core address width route direction h = from_place (place map (without_bypass address)) (class_of map (line address)) core width route direction h

pub data_line : (b : Board) (images : List Image) → IsValid b → (core address : ℕ) (width : Width) (route : Route) (direction : Direction) → data_target (address_map b images) core address width route direction ≡ Ok targets.Memory → HasLine b.memory (line address)
unfolding address_map
data_line b images valid core address width route direction h = is_line b (without_bypass address) valid (data_place (address_map b images) core address width route direction h)

code_only : (class : Class) → fetch_of class ≡ None → class ≡ classes.Code
code_only classes.Code h = refl
code_only (classes.Private core) h = absurd cc
code_only (classes.Mutex mutex) h = absurd cc
code_only (classes.Passed region) h = absurd cc
code_only classes.Uncached h = absurd cc
code_only classes.Absent h = absurd cc

from_fetch : (there : Place) (class : Class) → fetch_at there class ≡ None → (there ≡ places.Memory) × (class ≡ classes.Code)
from_fetch places.Memory class h = (refl, code_only class h)
from_fetch (places.Device part offset) class h = absurd cc
from_fetch places.Nothing class h = absurd cc

not_cut : (high : Bool) (there : Place) (class : Class) → cond high (Some Stray) (fetch_at there class) ≡ None → (high ≡ false) × (fetch_at there class ≡ None)
not_cut true there class h = absurd cc
not_cut false there class h = (refl, h)

-- a fetch that is not cut off is of an address of memory whose line is code
pub fetch_place : (map : AddressMap) (address : ℕ) → fetch_violation map address ≡ None → (address < 2 ^ 31) × (place map address ≡ places.Memory) × (class_of map (line address) ≡ classes.Code)
unfolding fetch_violation
fetch_place map address h =
    let passed = not_cut (leb (2 ^ 31) address) (place map address) (class_of map (line address)) h in
    let found = from_fetch (place map address) (class_of map (line address)) passed.1 in
    elim (cases_lt address (2 ^ 31)) [
      | inl lt ↦ (lt, found.0, found.1)
      | inr le ↦ absurd (false≢true (sym passed.0 ∙ le-leb (2 ^ 31) address le))
    ]

pub fetch_line : (b : Board) (images : List Image) → IsValid b → (address : ℕ) → fetch_violation (address_map b images) address ≡ None → HasLine b.memory (line address) × (class_of (address_map b images) (line address) ≡ classes.Code)
fetch_line b images valid address h = let found = fetch_place (address_map b images) address h in (line_of_memory b images valid address found.0 found.1, found.2)
