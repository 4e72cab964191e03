-- Each address of a device of a board is in one of its words.
use Rattle.std.proofs.Common.{◌≡◌, ℕ, zero, suc, ◌+◌, ◌-◌, ◌*◌, ◌/◌, ◌<◌, ◌≤◌, Bool, true, false, cond, ◌&&◌, nat_lt, List, [], ◌∷◌, ◌++◌, length, Option, Some, None, option_map, slice_get, IsTrue, refl, subst, arith}
use Rattle.std.specs.List.{AllByRecursion}
use Rattle.std.proofs.lemmas.Bool.Decides.{nat_tests}
use Rattle.n2_parts.specs.declared.board.Board.{Board}
use Rattle.n2_parts.specs.declared.board.MemoryRow.{MemoryRow}
use Rattle.n2_parts.specs.declared.board.MutexRow.{MutexRow}
use Rattle.n2_parts.specs.declared.board.MailboxRow.{MailboxRow}
use Rattle.n2_parts.specs.declared.board.TimerRow.{TimerRow}
use Rattle.n2_parts.specs.declared.board.UartRow.{UartRow}
use Rattle.n2_parts.specs.declared.board.Part.{Part}
use Rattle.n2_parts.specs.declared.board.PartKind.{PartKind}
use Rattle.n2_parts.specs.declared.board.PartKind.TheVariants.{Memory, Mutex, Mailbox, Timer, Uart}
use Rattle.n2_parts.specs.Parts.{part_of, count_of}
use Rattle.n2_parts.specs.Rules.{bytes_from, holds, one, two, spans_of}
use Rattle.n2_board.specs.declared.places.Place.{Place}
use Rattle.n2_board.specs.declared.places.Place.TheVariants as places
use Rattle.n2_board.specs.declared.places.PlaceZone.{PlaceZone}
use Rattle.n2_board.specs.Places.{zones_at, kind_zones, place_zones, places_of, place_at, place_in}
use Rattle.n2_devices.specs.Devices.{is_word}

-- a place of a device is a word of it
abbrev NamesWord : Board → Place → Type 0
NamesWord b there = (part : Part) (offset : ℕ) → there ≡ places.Device part offset → IsTrue (is_word b part offset)

names_word : (b : Board) (p : Part) (n : ℕ) → IsTrue (is_word b p n) → NamesWord b (places.Device p n)
names_word b p n h part offset e =
    let same_part : p ≡ part = cc in
    let same_offset : n ≡ offset = cc in
    subst (λ k. IsTrue (is_word b part k)) same_offset (subst (λ (q : Part). IsTrue (is_word b q n)) same_part h)

no_memory : (b : Board) → NamesWord b places.Memory
no_memory b part offset e = absurd cc

-- so is each place of a zone
abbrev NamesWords : Board → PlaceZone → Type 0
NamesWords b zone = (a : ℕ) → holds zone.bytes a ≡ true → NamesWord b (place_at zone.area zone.bytes.from a)

by_zone : (b : Board) (here : Bool) (there other : Place) → (here ≡ true → NamesWord b there) → NamesWord b other → NamesWord b (cond here there other)
by_zone b true there other first rest = first refl
by_zone b false there other first rest = rest

in_zones : (b : Board) (zones : List PlaceZone) (a : ℕ) → AllByRecursion (NamesWords b) zones → NamesWord b (place_in zones a)
unfolding place_in
in_zones b [] a all = λ part offset e. absurd cc
in_zones b (zone ∷ zones) a all =
    by_zone b (holds zone.bytes a) (place_at zone.area zone.bytes.from a) (place_in zones a) (all.0 a) (in_zones b zones a all.1)

joined : (b : Board) (xs ys : List PlaceZone) → AllByRecursion (NamesWords b) xs → AllByRecursion (NamesWords b) ys → AllByRecursion (NamesWords b) (xs ++ ys)
joined b [] ys first rest = rest
joined b (zone ∷ xs) ys first rest = (first.0, joined b xs ys first.1 rest)

-- ---- the zones of each kind of part

within : (i count first base n words a : ℕ) → i < count → first + n ≤ words → holds (bytes_from base (4 * n)) a ≡ true → (nat_lt i count && nat_lt (first + (a - base) / 4) words) ≡ true
within i count first base n words a there fits held = grind (arith, nat_tests)

nowhere : (a : ℕ) → holds (bytes_from 0 0) a ≡ true → ⊥
nowhere a held = grind (arith, nat_tests)

memory_words : (b : Board) (i : ℕ) (row : Option MemoryRow) → AllByRecursion (NamesWords b) (zones_at (part_of Memory i) (option_map (λ row. one (bytes_from row.base row.size)) row))
memory_words b i None = tt
memory_words b i (Some row) = (λ a held. no_memory b, (λ a held. no_memory b, tt))

mutex_words : (b : Board) (i : ℕ) → i < length b.mutex → (row : Option MutexRow) → AllByRecursion (NamesWords b) (zones_at (part_of Mutex i) (option_map (λ row. one (bytes_from row.base 8)) row))
mutex_words b i there None = tt
mutex_words b i there (Some row) =
    (λ a held. names_word b (part_of Mutex i) (0 + (a - row.base) / 4) (within i (length b.mutex) 0 row.base 2 2 a there (omega arith) held), (λ a held. absurd (nowhere a held), tt))

mailbox_words : (b : Board) (i : ℕ) → i < length b.mailbox → (row : Option MailboxRow) → AllByRecursion (NamesWords b) (zones_at (part_of Mailbox i) (option_map (λ row. two (bytes_from row.send 16) (bytes_from row.receive 16)) row))
mailbox_words b i there None = tt
mailbox_words b i there (Some row) = (
  λ a held. names_word b (part_of Mailbox i) (0 + (a - row.send) / 4) (within i (length b.mailbox) 0 row.send 4 8 a there (omega arith) held),
  (λ a held. names_word b (part_of Mailbox i) (4 + (a - row.receive) / 4) (within i (length b.mailbox) 4 row.receive 4 8 a there (omega arith) held), tt),
)

timer_words : (b : Board) (i : ℕ) → i < length b.timer → (row : Option TimerRow) → AllByRecursion (NamesWords b) (zones_at (part_of Timer i) (option_map (λ row. one (bytes_from row.base 24)) row))
timer_words b i there None = tt
timer_words b i there (Some row) =
    (λ a held. names_word b (part_of Timer i) (0 + (a - row.base) / 4) (within i (length b.timer) 0 row.base 6 6 a there (omega arith) held), (λ a held. absurd (nowhere a held), tt))

uart_words : (b : Board) (i : ℕ) → i < length b.uart → (row : Option UartRow) → AllByRecursion (NamesWords b) (zones_at (part_of Uart i) (option_map (λ row. one (bytes_from row.base 8)) row))
uart_words b i there None = tt
uart_words b i there (Some row) =
    (λ a held. names_word b (part_of Uart i) (0 + (a - row.base) / 4) (within i (length b.uart) 0 row.base 2 2 a there (omega arith) held), (λ a held. absurd (nowhere a held), tt))

-- ---- all zones

abbrev PartsNameWords : Board → PartKind → Type 0
PartsNameWords b kind = (i : ℕ) → i < count_of b kind → AllByRecursion (NamesWords b) (zones_at (part_of kind i) (spans_of b (part_of kind i)))

kind_words : (b : Board) (kind : PartKind) (i n : ℕ) → PartsNameWords b kind → i + n ≤ count_of b kind → AllByRecursion (NamesWords b) (kind_zones b kind i n)
unfolding kind_zones
kind_words b kind i zero each fits = tt
kind_words b kind i (suc n) each fits =
    joined b (zones_at (part_of kind i) (spans_of b (part_of kind i))) (kind_zones b kind (i + 1) n) (each i (omega arith)) (kind_words b kind (i + 1) n each (omega arith))

all_words : (b : Board) → AllByRecursion (NamesWords b) (places_of b)
unfolding place_zones
all_words b =
    joined b (kind_zones b Memory 0 (count_of b Memory)) _ (kind_words b Memory 0 (count_of b Memory) (λ i there. memory_words b i (slice_get b.memory i)) (omega arith))
    (joined b (kind_zones b Mutex 0 (count_of b Mutex)) _ (kind_words b Mutex 0 (count_of b Mutex) (λ i there. mutex_words b i there (slice_get b.mutex i)) (omega arith))
    (joined b (kind_zones b Mailbox 0 (count_of b Mailbox)) _ (kind_words b Mailbox 0 (count_of b Mailbox) (λ i there. mailbox_words b i there (slice_get b.mailbox i)) (omega arith))
    (joined b (kind_zones b Timer 0 (count_of b Timer)) _ (kind_words b Timer 0 (count_of b Timer) (λ i there. timer_words b i there (slice_get b.timer i)) (omega arith))
    (joined b (kind_zones b Uart 0 (count_of b Uart)) [] (kind_words b Uart 0 (count_of b Uart) (λ i there. uart_words b i there (slice_get b.uart i)) (omega arith)) tt))))

-- what stands at an address of a device is one of its words
pub is_word_at : (b : Board) (a : ℕ) (part : Part) (offset : ℕ) → place_in (places_of b) a ≡ places.Device part offset → IsTrue (is_word b part offset)
is_word_at b a part offset e = in_zones b (places_of b) a (all_words b) part offset e
