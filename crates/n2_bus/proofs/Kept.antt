-- What a proper request leaves of a bus.
use Rattle.std.proofs.Common.{◌≡◌, ℕ, ◌^◌, ◌<◌, Bool, true, ◌&&◌, nat_lt, List, IsTrue, None, refl, sym, subst, ◌∙◌}
use Rattle.std.specs.List.{AllByRecursion}
use Rattle.std.proofs.lemmas.Bool.{ltb-true, and_parts}
use Rattle.n2_word.specs.declared.Width.{Width}
use Rattle.n2_word.specs.Words.{is_aligned}
use Rattle.n2_word.specs.Lines.{line}
use Rattle.n2_elf.specs.Reading.{IsSized}
use Rattle.n2_elf.specs.declared.image.Image.{Image}
use Rattle.n2_parts.specs.declared.board.Board.{Board}
use Rattle.n2_parts.specs.declared.board.MemoryRow.{MemoryRow}
use Rattle.n2_parts.specs.declared.board.PartKind.TheVariants.{Uart}
use Rattle.n2_parts.specs.declared.board.DeviceEvent.TheVariants as events
use Rattle.n2_parts.specs.MemoryLines.{HasLine, line_place, line_count}
use Rattle.n2_parts.specs.Valid.{IsValid}
use Rattle.n2_parts.proofs.WholeLines.{whole_lines, few_lines}
use Rattle.n2_board.specs.declared.places.Place.{Place}
use Rattle.n2_board.specs.declared.places.Place.TheVariants.{Memory, Device, Nothing}
use Rattle.n2_board.specs.Placement.{open_fault}
use Rattle.n2_board.specs.Places.{place_in}
use Rattle.n2_board.proofs.Fitting.{fitting_inside}
use Rattle.n2_memory.specs.Memories.{Contents, IsFull, with_line, written_at}
use Rattle.n2_memory.specs.Start.{start}
use Rattle.n2_memory.proofs.Starts.{start_full}
use Rattle.n2_memory.proofs.WordRanges.{start_memories}
use Rattle.n2_memory.proofs.Writes.{full-with_line, full-written_at}
use Rattle.n2_devices.specs.Devices.{Devices}
use Rattle.n2_bus.specs.declared.request.Request.{Request}
use Rattle.n2_bus.specs.declared.request.Request.TheVariants.{FillCode, FillData, WriteBack, Read, Write, Sample, Tick, Receive, Drain}
use Rattle.n2_bus.specs.Wiring.{is_core, has_line, is_accessed, proper}
use Rattle.n2_bus.specs.Transfer.{BusState, read_served, write_served, served, bus_after, FitsFields}
use Rattle.n2_bus.specs.Opened.{opened, IsSound}
use Rattle.n2_bus.proofs.Counts.{AreAsMany, same_words, after_read, after_write, after_event}
use Rattle.n2_bus.proofs.Sound.{of_start}

pub start_sound : (b : Board) (images : List Image) → IsValid b → AllByRecursion IsSized images → open_fault b images ≡ None → IsSound (opened b images)
start_sound b images valid sized fits =
    of_start b (start b.memory images) valid (start_memories b.memory images) (start_full b.memory images (whole_lines b valid) (few_lines b valid) (fitting_inside b images fits) sized)

-- ---- other memories, other devices

abbrev with_memory : BusState → Contents → BusState
with_memory bus memory = record { wiring = bus.wiring; shared = record { memory = memory; devices = bus.shared.devices } }

abbrev with_devices : BusState → Devices → BusState
with_devices bus devices = record { wiring = bus.wiring; shared = record { memory = bus.shared.memory; devices = devices } }

memory_kept : (bus : BusState) (new : Contents) → IsSound bus → new.memories ≡ bus.shared.memory.memories → IsFull new → IsSound (with_memory bus new)
memory_kept bus new sound same full = record { memories = same ∙ sound.memories; full = full; lines = sound.lines; registers = sound.registers; uarts = sound.uarts }

devices_kept : (bus : BusState) (new : Devices) → IsSound bus → AreAsMany new bus.shared.devices → IsSound (with_devices bus new)
devices_kept bus new sound many = record {
  memories = sound.memories;
  full = sound.full;
  lines = sound.lines;
  registers = λ address part offset there. subst (λ x. IsTrue x) (sym (same_words new bus.shared.devices many part offset)) (sound.registers address part offset there);
  uarts = many.each Uart ∙ sound.uarts;
}

-- ---- each request

read_kept : (bus : BusState) (core address : ℕ) (width : Width) (there : Place) → IsSound bus → IsSound (record { wiring = bus.wiring; shared = (read_served bus.wiring core bus.shared there address width).shared })
read_kept bus core address width Memory sound = sound
read_kept bus core address width (Device part offset) sound = devices_kept bus _ sound (after_read bus.shared.devices part offset)
read_kept bus core address width Nothing sound = sound

write_kept : (bus : BusState) (core address : ℕ) (width : Width) (value : ℕ) (there : Place) → IsSound bus → address < 2 ^ 31 → place_in bus.wiring.places address ≡ there
    → IsSound (record { wiring = bus.wiring; shared = (write_served bus.wiring core bus.shared there address width value).shared })
write_kept bus core address width value Memory sound lt e =
    memory_kept bus (written_at bus.shared.memory address width value) sound refl
    (full-written_at bus.shared.memory address width value sound.full (subst (λ (rows : List MemoryRow). HasLine rows (line address)) (sym sound.memories) (sound.lines address lt e)))
write_kept bus core address width value (Device part offset) sound lt e = devices_kept bus _ sound (after_write bus.shared.devices part offset value)
write_kept bus core address width value Nothing sound lt e = sound

low : (core aligned below accessed : Bool) → IsTrue (core && (aligned && below && accessed)) → below ≡ true
low core aligned below accessed h = (and_parts aligned below (and_parts (aligned && below) accessed (and_parts core _ h).1).0).1

pub next_sound : (bus : BusState) (actor : ℕ) (request : Request) → IsSound bus → IsTrue (proper bus.wiring actor request) → FitsFields request → IsSound (bus_after bus actor request)
unfolding served
next_sound bus actor (FillCode l) sound may fits = sound
next_sound bus actor (FillData l) sound may fits = sound
next_sound bus actor (WriteBack l words) sound may fits =
    let here : HasLine bus.wiring.memories l = ltb-true (line_place bus.wiring.memories l) (line_count bus.wiring.memories) (and_parts (is_core bus.wiring actor) (has_line bus.wiring l) may).1 in
    memory_kept bus (with_line bus.shared.memory l words) sound refl
    (full-with_line bus.shared.memory l words sound.full (subst (λ (rows : List MemoryRow). HasLine rows l) (sym sound.memories) here) fits.0)
next_sound bus actor (Read address width) sound may fits = read_kept bus actor address width (place_in bus.wiring.places address) sound
next_sound bus actor (Write address width value) sound may fits =
    write_kept bus actor address width value (place_in bus.wiring.places address) sound
    (ltb-true address (2 ^ 31) (low (is_core bus.wiring actor) (is_aligned address width) (nat_lt address (2 ^ 31)) (is_accessed (place_in bus.wiring.places address) width) may)) refl
next_sound bus actor Sample sound may fits = sound
next_sound bus actor (Tick n) sound may fits = devices_kept bus _ sound (after_event bus.shared.devices (events.Tick n))
next_sound bus actor (Receive uart) sound may fits = devices_kept bus _ sound (after_event bus.shared.devices (events.Receive uart))
next_sound bus actor (Drain uart) sound may fits = devices_kept bus _ sound (after_event bus.shared.devices (events.Drain uart))
