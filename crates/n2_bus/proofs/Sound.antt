-- A bus holds what it is wired to, when it is opened and after each transfer.
use Rattle.std.proofs.Common.{◌≡◌, ℕ, ◌/◌, ◌%◌, ◌^◌, ◌<◌, List, IsTrue, ◌&&◌, nat_lt, refl, sym, subst, arith}
use Rattle.std.proofs.lemmas.Bool.Decides.{nat_tests}
use Rattle.std.proofs.lemmas.List.{length-map}
use Rattle.n2_word.specs.Lines.{line}
use Rattle.n2_parts.specs.declared.board.Board.{Board}
use Rattle.n2_parts.specs.declared.board.MemoryRow.{MemoryRow}
use Rattle.n2_parts.specs.declared.board.Part.{Part}
use Rattle.n2_parts.specs.declared.board.PartKind.{PartKind}
use Rattle.n2_parts.specs.declared.board.PartKind.TheVariants.{Mutex, Mailbox, Timer, Uart}
use Rattle.n2_parts.specs.Parts as parts
use Rattle.n2_parts.specs.MemoryLines.{HasLine}
use Rattle.n2_parts.specs.Valid.{IsValid}
use Rattle.n2_board.specs.declared.places.PlaceZone.{PlaceZone}
use Rattle.n2_board.specs.Places.{places_of}
use Rattle.n2_board.proofs.Memories.{is_line}
use Rattle.n2_memory.specs.Memories.{Contents, IsFull}
use Rattle.n2_devices.specs.Devices.{Devices, started_terminal, started, count_of, words_of, has_word, is_word}
use Rattle.n2_devices.specs.Wires as wires
use Rattle.n2_devices.specs.Wires.{Wired}
use Rattle.n2_bus.specs.Wiring.{wiring_of}
use Rattle.n2_bus.specs.Opened.{bus_of, IsSound}
use Rattle.n2_bus.proofs.Registers.{is_word_at}
use Rattle.n2_bus.proofs.Counts.{AreAsMany, same_words}

-- ---- a bus that is opened

as_many : (b : Board) (kind : PartKind) → 0 < words_of kind → count_of (started b) kind ≡ parts.count_of b kind
as_many b Mutex some = length-map b.mutex _
as_many b Mailbox some = length-map b.mailbox _
as_many b Timer some = length-map b.timer _
as_many b Uart some = length-map b.uart started_terminal
as_many b _ some = absurd (omega arith)

some_words : (i count offset words : ℕ) → IsTrue (nat_lt i count && nat_lt offset words) → 0 < words
some_words i count offset words h = grind (arith, nat_tests)

counted : (b : Board) (part : Part) (offset : ℕ) → IsTrue (is_word b part offset) → IsTrue (has_word (started b) part offset)
counted b part offset h =
    subst (λ n. IsTrue (nat_lt part.index n && nat_lt offset (words_of part.kind))) (sym (as_many b part.kind (some_words part.index (parts.count_of b part.kind) offset (words_of part.kind) h))) h

low_line : (address : ℕ) → address < 2 ^ 31 → address / 32 ≡ line address
low_line address lt = let e : address % 2 ^ 31 ≡ address = omega arith in omega arith

pub of_start : (b : Board) (memory : Contents) → IsValid b → memory.memories ≡ b.memory → IsFull memory → IsSound (record { wiring = wiring_of b; shared = record { memory = memory; devices = started b } })
of_start b memory valid same full = record {
  memories = same;
  full = full;
  lines = λ address lt there. subst (HasLine b.memory) (low_line address lt) (is_line b address valid there);
  registers = λ address part offset there. counted b part offset (is_word_at b address part offset there);
  uarts = length-map b.uart started_terminal;
}

of_board : (b : Board) (memory : Contents) → IsValid b → memory.memories ≡ b.memory → IsFull memory → IsSound (bus_of memory (wires.opened b) (places_of b))
of_board b memory valid same full = record {
  memories = refl;
  full = full;
  lines = λ address lt there. subst (λ (rows : List MemoryRow). HasLine rows (line address)) (sym same) (subst (HasLine b.memory) (low_line address lt) (is_line b address valid there));
  registers = λ address part offset there. counted b part offset (is_word_at b address part offset there);
  uarts = refl;
}

pub opened_sound : (b : Board) (memory : Contents) (wired : Wired) (zones : List PlaceZone) → IsValid b → memory.memories ≡ b.memory → IsFull memory → wired ≡ wires.opened b → zones ≡ places_of b → IsSound (bus_of memory wired zones)
opened_sound b memory wired zones valid same full is_wired are_places =
    subst (λ (w : Wired). IsSound (bus_of memory w zones)) (sym is_wired)
    (subst (λ (z : List PlaceZone). IsSound (bus_of memory (wires.opened b) z)) (sym are_places) (of_board b memory valid same full))

-- ---- with other memories or devices

pub memory_sound : (memory new : Contents) (wired : Wired) (zones : List PlaceZone) → IsSound (bus_of memory wired zones) → new.memories ≡ memory.memories → IsFull new → IsSound (bus_of new wired zones)
memory_sound memory new wired zones sound same full = record {
  memories = refl;
  full = full;
  lines = λ address lt there. subst (λ (rows : List MemoryRow). HasLine rows (line address)) (sym same) (sound.lines address lt there);
  registers = sound.registers;
  uarts = refl;
}

pub devices_sound : (memory : Contents) (wired new : Wired) (devices : Devices) (zones : List PlaceZone) → IsSound (bus_of memory wired zones) → new ≡ record wired { devices = devices } → AreAsMany devices wired.devices → IsSound (bus_of memory new zones)
devices_sound memory wired new devices zones sound same many = subst (λ (w : Wired). IsSound (bus_of memory w zones)) (sym same) (record {
  memories = refl;
  full = sound.full;
  lines = sound.lines;
  registers = λ address part offset there. subst (λ x. IsTrue x) (sym (same_words devices wired.devices many part offset)) (sound.registers address part offset there);
  uarts = refl;
})
