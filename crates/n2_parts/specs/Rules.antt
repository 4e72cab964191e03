-- The rules on names, on parts that others name, and on places.
use Rattle.std.specs.Prelude.{ℕ, ◌+◌, ◌*◌, List, [], ◌∷◌, length, min, max, Bool, true, false, ◌&&◌, ◌||◌, ◌==◌, nat_lt, nat_le, if◌then◌else◌, Option, Some, None, option_map, option_and_then, slice_get}
use Rattle.std.specs.Str.{bytes_eq}
use Rattle.n2_parts.specs.declared.board.Board.{Board}
use Rattle.n2_parts.specs.declared.board.MemoryRow.{MemoryRow}
use Rattle.n2_parts.specs.declared.board.RegionClass.{RegionClass}
use Rattle.n2_parts.specs.declared.board.RegionClass.TheVariants as classes
use Rattle.n2_parts.specs.declared.board.DeviceEvent.{DeviceEvent}
use Rattle.n2_parts.specs.declared.board.DeviceEvent.TheVariants.{Tick, Receive, Drain}
use Rattle.n2_parts.specs.declared.board.Part.{Part}
use Rattle.n2_parts.specs.declared.board.PartKind.{PartKind}
use Rattle.n2_parts.specs.declared.board.PartKind.TheVariants as kinds
use Rattle.n2_parts.specs.declared.board.BoardFault.{BoardFault}
use Rattle.n2_parts.specs.declared.board.BoardFault.TheVariants.{Name, SameName, SameCpuid, NoCore, NoPart, Overlap, Inside}
use Rattle.n2_parts.specs.declared.spans.Span.{Span}
use Rattle.n2_parts.specs.declared.spans.Spans.{Spans}
use Rattle.n2_text.specs.Firsts.{unless}
use Rattle.n2_parts.specs.Parts.{at_row, same_part}

-- a-z, 0-9 and _
abbrev pub is_letter : ℕ → Bool
is_letter c = nat_le 97 c && nat_le c 122 || nat_le 48 c && nat_le c 57 || c == 95

abbrev pub are_letters : List ℕ → Bool
are_letters [] = true
are_letters (c ∷ cs) = is_letter c && are_letters cs

abbrev pub is_name : List ℕ → Bool
is_name name = nat_le 1 (length name) && nat_le (length name) 16 && are_letters name

-- the name of a part, if its kind has one
abbrev pub name_at : Board → PartKind → ℕ → Option (List ℕ)
name_at b kinds.Mutex i = option_map (λ row. row.name) (slice_get b.mutex i)
name_at b kinds.Mailbox i = option_map (λ row. row.name) (slice_get b.mailbox i)
name_at b kinds.Timer i = option_map (λ row. row.name) (slice_get b.timer i)
name_at b kinds.Uart i = option_map (λ row. row.name) (slice_get b.uart i)
name_at b kinds.Region i = option_map (λ row. row.name) (slice_get b.region i)
name_at b _ i = None

abbrev pub name_of : Board → Part → Option (List ℕ)
name_of b part = name_at b part.kind part.index

unfoldable pub name_fault : Board → Part → Option BoardFault
name_fault b part = option_and_then (λ name. unless (is_name name) (Name part)) (name_of b part)

-- two parts of one name
unfoldable pub same_name : Board → Part → Part → Option BoardFault
same_name b p q =
    if same_part p q then None
    else option_and_then (λ name. option_and_then (λ other. if bytes_eq name other then Some (SameName p q) else None) (name_of b q)) (name_of b p)

-- two cores of one cpuid
unfoldable pub same_cpuid : Board → Part → Part → Option BoardFault
same_cpuid b p q =
    if same_part p q then None
    else at_row b.core p.index (λ core. at_row b.core q.index (λ other. if core.cpuid == other.cpuid then Some (SameCpuid p.index q.index) else None))

-- the cores that a region names are there
abbrev pub class_has_cores : ℕ → RegionClass → Bool
class_has_cores cores (classes.Private core) = nat_lt core cores
class_has_cores cores (classes.Passed holder mailboxes) = nat_lt holder cores
class_has_cores cores _ = true

-- the cores that a part names are there
abbrev pub cores_fault : Board → Part → PartKind → ℕ → Option BoardFault
cores_fault b part kinds.Mailbox i = at_row b.mailbox i (λ row. unless (nat_lt row.sender (length b.core) && nat_lt row.receiver (length b.core)) (NoCore part))
cores_fault b part kinds.Timer i = at_row b.timer i (λ row. unless (nat_lt row.core (length b.core)) (NoCore part))
cores_fault b part kinds.Uart i = at_row b.uart i (λ row. unless (nat_lt row.core (length b.core)) (NoCore part))
cores_fault b part kinds.Region i = at_row b.region i (λ row. unless (class_has_cores (length b.core) row.class) (NoCore part))
cores_fault b part _ i = None

unfoldable pub core_fault : Board → Part → Option BoardFault
core_fault b part = cores_fault b part part.kind part.index

abbrev pub are_below : ℕ → List ℕ → Bool
are_below n [] = true
are_below n (i ∷ is) = nat_lt i n && are_below n is

-- the mutex or the mailboxes that a region names are there
abbrev pub class_has_parts : Board → RegionClass → Bool
class_has_parts b (classes.Mutex mutex) = nat_lt mutex (length b.mutex)
class_has_parts b (classes.Passed holder mailboxes) = are_below (length b.mailbox) mailboxes
class_has_parts b _ = true

-- the UART that an event names is there
abbrev pub event_has_uart : ℕ → DeviceEvent → Bool
event_has_uart uarts (Tick n) = true
event_has_uart uarts (Receive uart) = nat_lt uart uarts
event_has_uart uarts (Drain uart) = nat_lt uart uarts

-- the other parts that a part names are there
abbrev pub parts_fault : Board → Part → PartKind → ℕ → Option BoardFault
parts_fault b part kinds.Region i = at_row b.region i (λ row. unless (class_has_parts b row.class) (NoPart part))
parts_fault b part kinds.Script i = at_row b.script i (λ row. unless (event_has_uart (length b.uart) row.event) (NoPart part))
parts_fault b part _ i = None

unfoldable pub part_fault : Board → Part → Option BoardFault
part_fault b part = parts_fault b part part.kind part.index

-- so many bytes from an address on
abbrev pub bytes_from : ℕ → ℕ → Span
bytes_from from size = record { from = from; end = from + size }

-- a span holds a byte, or a line
abbrev pub holds : Span → ℕ → Bool
holds a point = nat_le a.from point && nat_lt point a.end

-- two spans share a byte
abbrev pub share : Span → Span → Bool
share a b = nat_lt (max a.from b.from) (min a.end b.end)

-- a part that lies in one place, or in two
abbrev pub one : Span → Spans
one a = record { first = a; second = bytes_from 0 0 }

abbrev pub two : Span → Span → Spans
two a b = record { first = a; second = b }

-- where a part lies: a memory, the words of a device, a region, the lines of a dump
abbrev pub spans_at : Board → PartKind → ℕ → Option Spans
spans_at b kinds.Memory i = option_map (λ row. one (bytes_from row.base row.size)) (slice_get b.memory i)
spans_at b kinds.Mutex i = option_map (λ row. one (bytes_from row.base 8)) (slice_get b.mutex i)
spans_at b kinds.Mailbox i = option_map (λ row. two (bytes_from row.send 16) (bytes_from row.receive 16)) (slice_get b.mailbox i)
spans_at b kinds.Timer i = option_map (λ row. one (bytes_from row.base 24)) (slice_get b.timer i)
spans_at b kinds.Uart i = option_map (λ row. one (bytes_from row.base 8)) (slice_get b.uart i)
spans_at b kinds.Region i = option_map (λ row. one (bytes_from row.base row.size)) (slice_get b.region i)
spans_at b kinds.Dump i = option_map (λ row. one (bytes_from row.at (32 * row.lines))) (slice_get b.dump i)
spans_at b _ i = None

abbrev pub spans_of : Board → Part → Option Spans
spans_of b part = spans_at b part.kind part.index

-- two parts share a byte; a part shares one with itself where its two places do
abbrev pub meet : Bool → Spans → Spans → Bool
meet true a b = share a.first a.second
meet false a b = share a.first b.first || share a.first b.second || share a.second b.first || share a.second b.second

unfoldable pub overlap : Board → Part → Part → Option BoardFault
overlap b p q =
    option_and_then (λ here. option_and_then (λ there. if meet (same_part p q) here there then Some (Overlap p q) else None) (spans_of b q)) (spans_of b p)

-- a span is inside one of the memories
abbrev pub is_inside : List MemoryRow → Span → Bool
is_inside [] a = false
is_inside (m ∷ memories) a = nat_le m.base a.from && nat_le a.end (m.base + m.size) || is_inside memories a

-- a region or a dump is inside one memory
abbrev pub lies_in_memory : PartKind → Bool
lies_in_memory kinds.Region = true
lies_in_memory kinds.Dump = true
lies_in_memory _ = false

unfoldable pub inside_fault : Board → Part → Option BoardFault
inside_fault b part =
    if lies_in_memory part.kind then option_and_then (λ here. unless (is_inside b.memory here.first) (Inside part)) (spans_of b part) else None
