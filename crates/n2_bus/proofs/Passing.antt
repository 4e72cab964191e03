-- What the layout lets pass is proper.
use Rattle.std.proofs.Common.{◌≡◌, ℕ, ◌^◌, ◌<◌, Bool, true, false, ◌&&◌, nat_lt, nat_le, List, [], ◌∷◌, length, Option, Some, None, Ok, slice_get, IsTrue, refl, sym, ap, subst, ◌∙◌, arith}
use Rattle.std.specs.Prelude.{option_and_then}
use Rattle.std.proofs.lemmas.Bool.{lt-ltb, eq-eqb}
use Rattle.std.proofs.lemmas.Bool.Decides.{nat_tests}
use Rattle.std.proofs.lemmas.Option.{slice_get_within}
use Rattle.std.proofs.lemmas.List.FromFn.{length-map-range_with_len}
use Rattle.n2_word.specs.declared.Width.{Width}
use Rattle.n2_word.specs.declared.Width.TheVariants.{Byte, Half, Word}
use Rattle.n2_word.specs.Words.{is_aligned}
use Rattle.n2_word.specs.Lines.{line, without_bypass}
use Rattle.n2_elf.specs.declared.image.Image.{Image}
use Rattle.n2_parts.specs.declared.board.Board.{Board}
use Rattle.n2_parts.specs.declared.board.ScriptRow.{ScriptRow}
use Rattle.n2_parts.specs.declared.board.Key.TheVariants as keys
use Rattle.n2_parts.specs.declared.board.PartKind.TheVariants.{Script}
use Rattle.n2_parts.specs.declared.board.BoardFault.TheVariants.{NoPart}
use Rattle.n2_parts.specs.declared.board.DeviceEvent.{DeviceEvent}
use Rattle.n2_parts.specs.declared.board.DeviceEvent.TheVariants as events
use Rattle.n2_parts.specs.Numbers.{is_between, is_event, script_numbers, number_fault}
use Rattle.n2_parts.specs.Parts.{part_of}
use Rattle.n2_parts.specs.Rules.{event_has_uart, part_fault}
use Rattle.n2_parts.proofs.Small.{none_good}
use Rattle.n2_parts.proofs.Sound.{keeps, all_good}
use Rattle.n2_text.specs.Firsts.{unless}
use Rattle.n2_parts.specs.MemoryLines.{HasLine, line_place, line_count}
use Rattle.n2_parts.specs.Valid.{IsValid}
use Rattle.n2_board.specs.declared.access.Route.TheVariants.{Cached, Bypassing}
use Rattle.n2_board.specs.declared.access.Direction.{Direction}
use Rattle.n2_board.specs.declared.access.Target.{Target}
use Rattle.n2_board.specs.declared.classes.Class.{Class}
use Rattle.n2_board.specs.declared.places.Place.{Place}
use Rattle.n2_board.specs.declared.places.Place.TheVariants as places
use Rattle.n2_board.specs.AddressMap.{address_map, class_of, place}
use Rattle.n2_board.specs.Access.{target_at, data_target, fetch_violation}
use Rattle.n2_board.specs.Places.{places_of, place_in}
use Rattle.n2_board.proofs.Memories.{is_line}
use Rattle.n2_board.proofs.Reached.{fetch_line}
use Rattle.n2_devices.specs.Wires.{wires_to}
use Rattle.n2_bus.specs.declared.request.Request.TheVariants.{FillCode, FillData, WriteBack, Read, Write, Sample}
use Rattle.n2_bus.specs.Transfer.{request_for}
use Rattle.n2_bus.specs.Wiring.{wiring_of, is_core, is_device_actor, has_line, is_accessed, is_access, proper}

both : (x y : Bool) → x ≡ true → y ≡ true → (x && y) ≡ true
both true true a b = refl
both true false a b = b
both false y a b = a

core_is : (b : Board) (core : ℕ) → core < length b.core → is_core (wiring_of b) core ≡ true
core_is b core there = lt-ltb core _ (subst (λ n. core < n) (sym (length-map-range_with_len (wires_to b) 0 (length b.core))) there)

-- ---- past the caches

accessed : (there : Place) (class : Class) (core : ℕ) (width : Width) (direction : Direction) (target : Target) → target_at there class core width Bypassing direction ≡ Ok target → is_accessed there width ≡ true
accessed places.Memory class core width direction target h = refl
accessed (places.Device part offset) class core Byte direction target h = absurd cc
accessed (places.Device part offset) class core Half direction target h = absurd cc
accessed (places.Device part offset) class core Word direction target h = refl
accessed places.Nothing class core width direction target h = absurd cc

aligned : (address : ℕ) (width : Width) → is_aligned address width ≡ true → is_aligned (without_bypass address) width ≡ true
aligned address Byte h = grind (arith, nat_tests)
aligned address Half h = grind (arith, nat_tests)
aligned address Word h = grind (arith, nat_tests)

target_accessed : (b : Board) (images : List Image) (core address : ℕ) (width : Width) (direction : Direction) (target : Target) → data_target (address_map b images) core address width Bypassing direction ≡ Ok target
    → is_accessed (place_in (places_of b) (without_bypass address)) width ≡ true
unfolding data_target address_map
target_accessed b images core address width direction target h =
    accessed (place (address_map b images) (without_bypass address)) (class_of (address_map b images) (line address)) core width direction target h

access_passes : (b : Board) (images : List Image) (core address : ℕ) (width : Width) (direction : Direction) (target : Target) → core < length b.core → is_aligned address width ≡ true
    → data_target (address_map b images) core address width Bypassing direction ≡ Ok target → (is_core (wiring_of b) core && is_access (wiring_of b) (without_bypass address) width) ≡ true
access_passes b images core address width direction target there even h =
    both _ _ (core_is b core there) (both _ _ (both _ _ (aligned address width even) (lt-ltb (without_bypass address) (2 ^ 31) (omega arith))) (target_accessed b images core address width direction target h))

pub read_passes : (b : Board) (images : List Image) (core address : ℕ) (width : Width) (direction : Direction) (target : Target) → core < length b.core → IsTrue (is_aligned address width)
    → data_target (address_map b images) core address width Bypassing direction ≡ Ok target → IsTrue (proper (wiring_of b) core (Read (without_bypass address) width))
read_passes b images core address width direction target there even h = access_passes b images core address width direction target there even h

pub write_passes : (b : Board) (images : List Image) (core address : ℕ) (width : Width) (value : ℕ) (direction : Direction) (target : Target) → core < length b.core → IsTrue (is_aligned address width)
    → data_target (address_map b images) core address width Bypassing direction ≡ Ok target → IsTrue (proper (wiring_of b) core (Write (without_bypass address) width value))
write_passes b images core address width value direction target there even h = access_passes b images core address width direction target there even h

-- ---- lines

line_passes : (b : Board) (core l : ℕ) → core < length b.core → HasLine b.memory l → (is_core (wiring_of b) core && has_line (wiring_of b) l) ≡ true
line_passes b core l there here = both _ _ (core_is b core there) (lt-ltb (line_place b.memory l) (line_count b.memory) here)

pub fills_pass : (b : Board) (core l : ℕ) → core < length b.core → HasLine b.memory l → IsTrue (proper (wiring_of b) core (FillData l)) × IsTrue (proper (wiring_of b) core (FillCode l))
fills_pass b core l there here = (line_passes b core l there here, line_passes b core l there here)

pub write_back_passes : (b : Board) (core l : ℕ) (words : List ℕ) → core < length b.core → HasLine b.memory l → IsTrue (proper (wiring_of b) core (WriteBack l words))
write_back_passes b core l words there here = line_passes b core l there here

in_memory : (there : Place) (class : Class) (core : ℕ) (width : Width) (direction : Direction) (target : Target) → target_at there class core width Cached direction ≡ Ok target → there ≡ places.Memory
in_memory places.Memory class core width direction target h = refl
in_memory (places.Device part offset) class core Byte direction target h = absurd cc
in_memory (places.Device part offset) class core Half direction target h = absurd cc
in_memory (places.Device part offset) class core Word direction target h = absurd cc
in_memory places.Nothing class core width direction target h = absurd cc

cached_line : (b : Board) (images : List Image) (core address : ℕ) (width : Width) (direction : Direction) (target : Target) → IsValid b → data_target (address_map b images) core address width Cached direction ≡ Ok target → HasLine b.memory (line address)
unfolding data_target address_map
cached_line b images core address width direction target valid h =
    is_line b (without_bypass address) valid (in_memory (place (address_map b images) (without_bypass address)) (class_of (address_map b images) (line address)) core width direction target h)

pub cached_passes : (b : Board) (images : List Image) (core address : ℕ) (width : Width) (direction : Direction) (target : Target) → IsValid b → core < length b.core
    → data_target (address_map b images) core address width Cached direction ≡ Ok target → IsTrue (proper (wiring_of b) core (FillData (line address)))
cached_passes b images core address width direction target valid there h = line_passes b core (line address) there (cached_line b images core address width direction target valid h)

pub fetch_passes : (b : Board) (images : List Image) (core address : ℕ) → IsValid b → core < length b.core → fetch_violation (address_map b images) address ≡ None → IsTrue (proper (wiring_of b) core (FillCode (line address)))
fetch_passes b images core address valid there h = line_passes b core (line address) there (fetch_line b images valid address h).0

pub sample_passes : (b : Board) (core : ℕ) → core < length b.core → IsTrue (proper (wiring_of b) core Sample)
sample_passes b core there = core_is b core there

-- ---- the script

device_actor : (b : Board) → is_device_actor (wiring_of b) (length b.core) ≡ true
device_actor b = eq-eqb (length b.core) _ (sym (length-map-range_with_len (wires_to b) 0 (length b.core)))

one_tick : (n : ℕ) → nat_lt 0 n ≡ true → nat_le 1 n ≡ true
one_tick n h = grind (arith, nat_tests)

event_passes : (b : Board) (event : DeviceEvent) → is_event event ≡ true → event_has_uart (length b.uart) event ≡ true → IsTrue (proper (wiring_of b) (length b.core) (request_for event))
event_passes b (events.Tick n) number uart = both _ _ (device_actor b) (one_tick n number)
event_passes b (events.Receive u) number uart = both _ _ (device_actor b) uart
event_passes b (events.Drain u) number uart = both _ _ (device_actor b) uart

pub script_passes : (b : Board) (i : ℕ) (row : ScriptRow) → IsValid b → slice_get b.script i ≡ Some row → IsTrue (proper (wiring_of b) (length b.core) (request_for row.event))
unfolding part_fault number_fault script_numbers
script_passes b i row valid e =
    let kept = keeps b valid Script i (omega arith) (slice_get_within b.script i row e) in
    let numbers : script_numbers (part_of Script i) row ≡ None = sym (ap (λ (o : Option ScriptRow). option_and_then (script_numbers (part_of Script i)) o) e) ∙ kept.numbers in
    let good = all_good (part_of Script i) ((keys.N, is_event row.event) ∷ (keys.Times, is_between 1 1000000 row.times) ∷ []) numbers in
    let uart : unless (event_has_uart (length b.uart) row.event) (NoPart (part_of Script i)) ≡ None = sym (ap (λ (o : Option ScriptRow). option_and_then (λ r. unless (event_has_uart (length b.uart) r.event) (NoPart (part_of Script i))) o) e) ∙ kept.parts in
    event_passes b row.event good.0 (none_good (event_has_uart (length b.uart) row.event) (NoPart (part_of Script i)) uart)
