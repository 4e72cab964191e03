-- What is held and replied stays in range.
use Rattle.std.proofs.Common.{◌≡◌, ℕ, ◌-◌, ◌*◌, ◌^◌, ◌<◌, ◌≤◌, Bool, true, false, cond, ◌&&◌, nat_lt, List, [], ◌∷◌, length, map, replicate, Option, Some, None, option_map, get_or, is_some, slice_get, IsTrue, refl, subst, arith}
use Rattle.std.specs.List.{All}
use Rattle.std.proofs.lemmas.Bool.{and_parts}
use Rattle.std.proofs.lemmas.List.Elements.{All-cons, All-head, All-tail, All-set, All-map, All-weaker, All-replicate}
use Rattle.std.proofs.lemmas.Option.{get_or_from_slice_get, slice_get_within, slice_get-get_or}
use Rattle.n2_word.specs.declared.Width.{Width}
use Rattle.n2_word.specs.declared.Width.TheVariants.{Byte, Half, Word}
use Rattle.n2_word.specs.Words.{size, is_aligned}
use Rattle.n2_mutex.specs.Mutex as mutex
use Rattle.n2_mutex.proofs.Ranges as mutex_ranges
use Rattle.n2_mailbox.specs.Mailbox as mailbox
use Rattle.n2_mailbox.proofs.Ranges as mailbox_ranges
use Rattle.n2_mailbox.specs.declared.Side.{Side}
use Rattle.n2_mailbox.specs.declared.Side.TheVariants as sides
use Rattle.n2_timer.specs.Timer as timer
use Rattle.n2_timer.proofs.Ranges as timer_ranges
use Rattle.n2_juart.specs.Uart as uart
use Rattle.n2_juart.proofs.Ranges as uart_ranges
use Rattle.n2_elf.specs.declared.image.Image.{Image}
use Rattle.n2_parts.specs.declared.board.Board.{Board}
use Rattle.n2_parts.specs.declared.board.UartRow.{UartRow}
use Rattle.n2_parts.specs.declared.board.PartKind.{PartKind}
use Rattle.n2_parts.specs.declared.board.PartKind.TheVariants.{Mutex, Mailbox, Timer, Uart}
use Rattle.n2_parts.specs.declared.board.DeviceEvent.{DeviceEvent}
use Rattle.n2_parts.specs.declared.board.DeviceEvent.TheVariants as events
use Rattle.n2_parts.specs.Valid.{IsValid}
use Rattle.n2_parts.proofs.Sound.{depths}
use Rattle.n2_board.specs.declared.places.Place.{Place}
use Rattle.n2_board.specs.declared.places.Place.TheVariants as places
use Rattle.n2_board.specs.Places.{place_in}
use Rattle.n2_memory.specs.Memories.{AreWords, read_at}
use Rattle.n2_memory.proofs.WordRanges.{line_words, read_below, put_words, stored_word, start_words}
use Rattle.n2_devices.specs.declared.answer.Answer.{Answer}
use Rattle.n2_devices.specs.declared.terminal.Terminal.{Terminal}
use Rattle.n2_devices.specs.Devices as devices
use Rattle.n2_devices.specs.Devices.{Devices, Reaction}
use Rattle.n2_bus.specs.declared.request.Request.{Request}
use Rattle.n2_bus.specs.declared.request.Request.TheVariants.{FillCode, FillData, WriteBack, Read, Write, Sample, Tick, Receive, Drain}
use Rattle.n2_bus.specs.Wiring.{Wiring, is_core, is_accessed, proper}
use Rattle.n2_bus.specs.Transfer.{Shared, Served, one_word, read_served, write_served, served, FitsFields}
use Rattle.n2_bus.specs.Opened.{shared_at_start}
use Rattle.n2_bus.specs.Ranges.{IsTerminal, AreInRange, HoldsWords, FitsItsFields, FitsReply}

abbrev IsWord : ℕ → Type 0
IsWord n = n < 2 ^ 32

abbrev Fits : Answer → Type 0
Fits answer = (answer.value < 2 ^ 32) × (answer.pointer < 2 ^ 32)

none : 0 < 2 ^ 32
none = omega arith

-- ---- one device reacts

abbrev Keeps : {S : Type 0} → (S → Type 0) → Reaction S → Type 0
Keeps {S} P reaction = P reaction.state × Fits reaction.answer

abbrev KeepAll : {S : Type 0} → (S → Type 0) → Reaction (List S) → Type 0
KeepAll {S} P reaction = All P reaction.state × Fits reaction.answer

by_state : {S : Type 0} (P : S → Type 0) (act : S → Reaction S) (states : List S) (i : ℕ) (o : Option S) → slice_get states i ≡ o → ((s : S) → P s → Keeps P (act s)) → All P states → KeepAll P (devices.reaction_at states i (option_map act o))
by_state {S} P act states i None e each all = (all, (none, none))
by_state {S} P act states i (Some s) e each all =
    let kept = each s (subst P (get_or_from_slice_get states i s s e) (all i s (slice_get_within states i s e))) in
    (All-set P states i (act s).state kept.0 all, kept.1)

at_device : {S : Type 0} (P : S → Type 0) (act : S → Reaction S) (states : List S) (i : ℕ) → ((s : S) → P s → Keeps P (act s)) → All P states → KeepAll P (devices.at_device act states i)
at_device {S} P act states i each all = by_state P act states i (slice_get states i) refl each all

-- ---- each kind

mutex_read : (offset : ℕ) (s : mutex.State) → mutex.IsInRange s → Keeps mutex.IsInRange (devices.read_mutex offset s)
mutex_read offset s h = (h, (mutex_ranges.value_of-below s offset h, none))

mutex_write : (offset word : ℕ) → word < 2 ^ 32 → (s : mutex.State) → mutex.IsInRange s → Keeps mutex.IsInRange (devices.write_mutex offset word s)
mutex_write offset word fits s h = (mutex_ranges.after_write-in_range s offset word h fits, (none, none))

side_read : (side : Side) (offset : ℕ) (s : mailbox.State) → mailbox.IsInRange s → Keeps mailbox.IsInRange (devices.read_side side offset s)
side_read side offset s h = (mailbox_ranges.after_read-in_range s side offset h, (mailbox_ranges.value_of-below s side offset h, mailbox_ranges.pointer_taken-below s side offset h))

either : {S : Type 0} (P : S → Type 0) (b : Bool) (r q : Reaction S) → Keeps P r → Keeps P q → Keeps P (cond b r q)
either {S} P true r q h g = h
either {S} P false r q h g = g

mailbox_read : (offset : ℕ) (s : mailbox.State) → mailbox.IsInRange s → Keeps mailbox.IsInRange (devices.read_mailbox offset s)
mailbox_read offset s h =
    either mailbox.IsInRange (nat_lt offset 4) (devices.read_side sides.Send offset s) (devices.read_side sides.Receive (offset - 4) s) (side_read sides.Send offset s h) (side_read sides.Receive (offset - 4) s h)

side_write : (side : Side) (offset word : ℕ) → word < 2 ^ 32 → (s : mailbox.State) → mailbox.IsInRange s → Keeps mailbox.IsInRange (devices.write_side side offset word s)
side_write side offset word fits s h = (mailbox_ranges.after_write-in_range s side offset word h fits, (none, none))

mailbox_write : (offset word : ℕ) → word < 2 ^ 32 → (s : mailbox.State) → mailbox.IsInRange s → Keeps mailbox.IsInRange (devices.write_mailbox offset word s)
mailbox_write offset word fits s h =
    either mailbox.IsInRange (nat_lt offset 4) (devices.write_side sides.Send offset word s) (devices.write_side sides.Receive (offset - 4) word s) (side_write sides.Send offset word fits s h) (side_write sides.Receive (offset - 4) word fits s h)

timer_read : (offset : ℕ) (s : timer.State) → timer.IsInRange s → Keeps timer.IsInRange (devices.read_timer offset s)
timer_read offset s h = (h, (let half = timer_ranges.value_of-below s offset h in omega arith, none))

timer_write : (offset word : ℕ) → word < 2 ^ 32 → (s : timer.State) → timer.IsInRange s → Keeps timer.IsInRange (devices.write_timer offset word s)
timer_write offset word fits s h = (timer_ranges.after_write-in_range s offset word h fits, (none, none))

uart_read : (offset : ℕ) (t : Terminal) → IsTerminal t → Keeps IsTerminal (devices.read_uart offset t)
uart_read offset t h = ((uart_ranges.after_read-in_range t.uart offset h.0, h.1), (uart_ranges.value_of-below t.uart offset h.0, none))

uart_write : (offset word : ℕ) (t : Terminal) → IsTerminal t → Keeps IsTerminal (devices.write_uart offset word t)
uart_write offset word t h = ((uart_ranges.after_write-in_range t.uart offset word h.0, h.1), (none, none))

abbrev IsByte : ℕ → Type 0
IsByte byte = byte < 2 ^ 8

fed_from : (s : uart.State) (input : List ℕ) → uart.IsInRange s → All IsByte input → Keeps IsTerminal (devices.fed_from s input)
fed_from s [] h all = ((h, all), (none, none))
fed_from s (byte ∷ rest) h all =
    either IsTerminal (uart.has_room s) (devices.took (record { uart = uart.after_receive s byte; input = rest }) true) (devices.took (record { uart = s; input = byte ∷ rest }) false)
    ((uart_ranges.after_receive-in_range s byte h (All-head IsByte byte rest all), All-tail IsByte byte rest all), (none, none)) ((h, all), (none, none))

with_host : (r : Reaction Terminal) → Keeps IsTerminal r → Keeps IsTerminal (devices.with_host r)
with_host r h = ((uart_ranges.after_host-in_range r.state.uart h.0.0, h.0.1), h.1)

received : (t : Terminal) → IsTerminal t → Keeps IsTerminal (devices.received t)
received t h = with_host (devices.fed t) (fed_from t.uart t.input h.0 h.1)

drained : (t : Terminal) → IsTerminal t → Keeps IsTerminal (devices.drained t)
drained t h = with_host (devices.took (record t { uart = uart.after_drain t.uart }) (is_some (uart.drained t.uart))) ((uart_ranges.after_drain-in_range t.uart h.0, h.1), (none, none))

-- ---- all devices

abbrev KeepRanges : Reaction Devices → Type 0
KeepRanges reaction = AreInRange reaction.state × Fits reaction.answer

of_mutexes : (d : Devices) (r : Reaction (List mutex.State)) → AreInRange d → KeepAll mutex.IsInRange r → KeepRanges (devices.with_mutexes d r)
of_mutexes d r h kept = (record { mutexes = kept.0; mailboxes = h.mailboxes; timers = h.timers; uarts = h.uarts }, kept.1)

of_mailboxes : (d : Devices) (r : Reaction (List mailbox.State)) → AreInRange d → KeepAll mailbox.IsInRange r → KeepRanges (devices.with_mailboxes d r)
of_mailboxes d r h kept = (record { mutexes = h.mutexes; mailboxes = kept.0; timers = h.timers; uarts = h.uarts }, kept.1)

of_timers : (d : Devices) (r : Reaction (List timer.State)) → AreInRange d → KeepAll timer.IsInRange r → KeepRanges (devices.with_timers d r)
of_timers d r h kept = (record { mutexes = h.mutexes; mailboxes = h.mailboxes; timers = kept.0; uarts = h.uarts }, kept.1)

of_uarts : (d : Devices) (r : Reaction (List Terminal)) → AreInRange d → KeepAll IsTerminal r → KeepRanges (devices.with_uarts d r)
of_uarts d r h kept = (record { mutexes = h.mutexes; mailboxes = h.mailboxes; timers = h.timers; uarts = kept.0 }, kept.1)

read_ranges : (d : Devices) (kind : PartKind) (i offset : ℕ) → AreInRange d → KeepRanges (devices.read_at d kind i offset)
read_ranges d Mutex i offset h = of_mutexes d (devices.at_device (devices.read_mutex offset) d.mutexes i) h (at_device mutex.IsInRange (devices.read_mutex offset) d.mutexes i (mutex_read offset) h.mutexes)
read_ranges d Mailbox i offset h = of_mailboxes d (devices.at_device (devices.read_mailbox offset) d.mailboxes i) h (at_device mailbox.IsInRange (devices.read_mailbox offset) d.mailboxes i (mailbox_read offset) h.mailboxes)
read_ranges d Timer i offset h = of_timers d (devices.at_device (devices.read_timer offset) d.timers i) h (at_device timer.IsInRange (devices.read_timer offset) d.timers i (timer_read offset) h.timers)
read_ranges d Uart i offset h = of_uarts d (devices.at_device (devices.read_uart offset) d.uarts i) h (at_device IsTerminal (devices.read_uart offset) d.uarts i (uart_read offset) h.uarts)
read_ranges d _ i offset h = (h, (none, none))

write_ranges : (d : Devices) (kind : PartKind) (i offset word : ℕ) → word < 2 ^ 32 → AreInRange d → KeepRanges (devices.write_at d kind i offset word)
write_ranges d Mutex i offset word fits h = of_mutexes d (devices.at_device (devices.write_mutex offset word) d.mutexes i) h (at_device mutex.IsInRange (devices.write_mutex offset word) d.mutexes i (mutex_write offset word fits) h.mutexes)
write_ranges d Mailbox i offset word fits h = of_mailboxes d (devices.at_device (devices.write_mailbox offset word) d.mailboxes i) h (at_device mailbox.IsInRange (devices.write_mailbox offset word) d.mailboxes i (mailbox_write offset word fits) h.mailboxes)
write_ranges d Timer i offset word fits h = of_timers d (devices.at_device (devices.write_timer offset word) d.timers i) h (at_device timer.IsInRange (devices.write_timer offset word) d.timers i (timer_write offset word fits) h.timers)
write_ranges d Uart i offset word fits h = of_uarts d (devices.at_device (devices.write_uart offset word) d.uarts i) h (at_device IsTerminal (devices.write_uart offset word) d.uarts i (uart_write offset word) h.uarts)
write_ranges d _ i offset word fits h = (h, (none, none))

event_ranges : (d : Devices) (event : DeviceEvent) → AreInRange d → KeepRanges (devices.happened d event)
event_ranges d (events.Tick n) h =
    of_timers d (devices.took (map (timer.ticks n) d.timers) false) h (All-map timer.IsInRange (timer.ticks n) d.timers (All-weaker timer.IsInRange (λ s. timer.IsInRange (timer.ticks n s)) (timer_ranges.ticks-in_range n) d.timers h.timers), (none, none))
event_ranges d (events.Receive u) h = of_uarts d (devices.at_device devices.received d.uarts u) h (at_device IsTerminal devices.received d.uarts u received h.uarts)
event_ranges d (events.Drain u) h = of_uarts d (devices.at_device devices.drained d.uarts u) h (at_device IsTerminal devices.drained d.uarts u drained h.uarts)

-- ---- transfers

one_is_words : (value : ℕ) → value < 2 ^ 32 → AreWords (one_word value)
one_is_words value fits = All-cons IsWord value (replicate 7 0) fits (All-replicate IsWord 7 0 none)

no_words : AreWords (replicate 8 0)
no_words = All-replicate IsWord 8 0 none

abbrev ServesWords : Served → Type 0
ServesWords done = HoldsWords done.shared × FitsReply done.reply

low : (n : ℕ) (width : Width) → n < 2 ^ (8 * size width) → n < 2 ^ 32
low n Byte h = omega arith
low n Half h = omega arith
low n Word h = h

read_words : (w : Wiring) (core : ℕ) (s : Shared) (there : Place) (address : ℕ) (width : Width) → HoldsWords s → IsTrue (is_aligned address width) → ServesWords (read_served w core s there address width)
read_words w core s places.Memory address width h even =
    (h, record { words = one_is_words (read_at s.memory address width) (low (read_at s.memory address width) width (read_below s.memory address width even)); pointer = none })
read_words w core s (places.Device part offset) address width h even =
    let kept = read_ranges s.devices part.kind part.index offset h.devices in
    (record { memory = h.memory; devices = kept.0 }, record { words = one_is_words _ kept.1.0; pointer = kept.1.1 })
read_words w core s places.Nothing address width h even = (h, record { words = no_words; pointer = none })

write_words : (w : Wiring) (core : ℕ) (s : Shared) (there : Place) (address : ℕ) (width : Width) (value : ℕ) → HoldsWords s → value < 2 ^ 32 → IsTrue (is_aligned address width) → ServesWords (write_served w core s there address width value)
write_words w core s places.Memory address width value h fits even =
    (record { memory = stored_word s.memory address width value h.memory even; devices = h.devices }, record { words = no_words; pointer = none })
write_words w core s (places.Device part offset) address width value h fits even =
    let kept = write_ranges s.devices part.kind part.index offset value fits h.devices in
    (record { memory = h.memory; devices = kept.0 }, record { words = one_is_words _ kept.1.0; pointer = kept.1.1 })
write_words w core s places.Nothing address width value h fits even = (h, record { words = no_words; pointer = none })

event_words : (s : Shared) (event : DeviceEvent) → HoldsWords s → HoldsWords (record { memory = s.memory; devices = (devices.happened s.devices event).state })
event_words s event h = record { memory = h.memory; devices = (event_ranges s.devices event h.devices).0 }

even : (core aligned below accessed : Bool) → IsTrue (core && (aligned && below && accessed)) → IsTrue aligned
even core aligned below accessed h = (and_parts aligned below (and_parts (aligned && below) accessed (and_parts core _ h).1).0).0

served_words : (w : Wiring) (actor : ℕ) (s : Shared) (request : Request) → HoldsWords s → IsTrue (proper w actor request) → FitsFields request → ServesWords (served w actor s request)
unfolding served
served_words w actor s (FillCode l) h may fits = (h, record { words = line_words s.memory l h.memory; pointer = none })
served_words w actor s (FillData l) h may fits = (h, record { words = line_words s.memory l h.memory; pointer = none })
served_words w actor s (WriteBack l words) h may fits = (record { memory = put_words s.memory l words h.memory fits.1; devices = h.devices }, record { words = no_words; pointer = none })
served_words w actor s (Read address width) h may fits =
    read_words w actor s (place_in w.places address) address width h (even (is_core w actor) (is_aligned address width) (nat_lt address (2 ^ 31)) (is_accessed (place_in w.places address) width) may)
served_words w actor s (Write address width value) h may fits =
    write_words w actor s (place_in w.places address) address width value h fits (even (is_core w actor) (is_aligned address width) (nat_lt address (2 ^ 31)) (is_accessed (place_in w.places address) width) may)
served_words w actor s Sample h may fits = (h, record { words = no_words; pointer = none })
served_words w actor s (Tick n) h may fits = (event_words s (events.Tick n) h, record { words = no_words; pointer = none })
served_words w actor s (Receive u) h may fits = (event_words s (events.Receive u) h, record { words = no_words; pointer = none })
served_words w actor s (Drain u) h may fits = (event_words s (events.Drain u) h, record { words = no_words; pointer = none })

pub next_words : (w : Wiring) (actor : ℕ) (s : Shared) (request : Request) → HoldsWords s → IsTrue (proper w actor request) → FitsFields request → HoldsWords (served w actor s request).shared
next_words w actor s request h may fits = (served_words w actor s request h may fits).0

pub reply_words : (w : Wiring) (actor : ℕ) (s : Shared) (request : Request) → HoldsWords s → IsTrue (proper w actor request) → FitsFields request → FitsReply (served w actor s request).reply
reply_words w actor s request h may fits = (served_words w actor s request h may fits).1

-- ---- the start

terminal : (row : UartRow) → row.read_depth ≤ 32768 → row.write_depth ≤ 32768 → All IsByte row.input → IsTerminal (devices.started_terminal row)
terminal row reads writes input = (uart_ranges.started-in_range row.read_depth row.write_depth reads writes, input)

uart_in_range : (b : Board) → IsValid b → FitsItsFields b → (k : ℕ) (d : UartRow) → k < length b.uart → IsTerminal (devices.started_terminal (get_or b.uart k d))
uart_in_range b valid fits k d lt =
    let deep = depths b valid k (get_or b.uart k d) (slice_get-get_or b.uart k d lt) in
    terminal (get_or b.uart k d) deep.1 deep.3 (fits.inputs k d lt)

pub start_holds : (b : Board) (images : List Image) → IsValid b → FitsItsFields b → HoldsWords (shared_at_start b images)
start_holds b images valid fits = record {
  memory = start_words b.memory images;
  devices = record {
    mutexes = All-map mutex.IsInRange _ b.mutex (λ k d lt. mutex_ranges.started-in_range);
    mailboxes = All-map mailbox.IsInRange _ b.mailbox (λ k d lt. mailbox_ranges.started-in_range);
    timers = All-map timer.IsInRange _ b.timer (λ k d lt. timer_ranges.started-in_range _ (fits.periods k d lt));
    uarts = All-map IsTerminal devices.started_terminal b.uart (λ k d lt. uart_in_range b valid fits k d lt);
  };
}
