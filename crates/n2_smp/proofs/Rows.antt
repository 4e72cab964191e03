-- Each entry of a machine's journal has a row, so the journal has a text.
use Rattle.std.proofs.Common.{◌≡◌, ℕ, ◌+◌, ◌-◌, ◌/◌, ◌%◌, ◌^◌, ◌<◌, ◌≤◌, ◌++◌, ◌&&◌, nat_le, nat_lt, Bool, true, false, cond, List, [], ◌∷◌, length, slice_get, Option, Some, None, option_map, IsTrue, refl, sym, ap, ◌∙◌, subst, arith}
use Rattle.std.specs.List.{All}
use Rattle.std.proofs.lemmas.Bool.{and_parts, leb-true, ltb-true}
use Rattle.std.proofs.lemmas.List.Elements.{All-push}
use Rattle.n2_word.specs.declared.Width.{Width}
use Rattle.n2_word.specs.Words.{is_aligned}
use Rattle.n2_parts.specs.declared.board.Board.{Board}
use Rattle.n2_parts.specs.declared.board.MemoryRow.{MemoryRow}
use Rattle.n2_parts.specs.declared.board.DeviceEvent.{DeviceEvent}
use Rattle.n2_parts.specs.declared.board.PartKind.{PartKind}
use Rattle.n2_parts.specs.declared.board.PartKind.TheVariants as kinds
use Rattle.n2_parts.specs.MemoryLines.{AreWholeLines, HasLine, line_place, line_count}
use Rattle.n2_parts.specs.Valid.{count_fault, counts, first_fault, IsValid}
use Rattle.n2_parts.proofs.Small.{none_both, none_good, valid_small}
use Rattle.n2_parts.proofs.WholeLines.{whole_lines}
use Rattle.n2_mailbox.specs.Mailbox as mailbox
use Rattle.n2_mailbox.specs.declared.Side.TheVariants as sides
use Rattle.n2_board.specs.declared.places.Place.{Place}
use Rattle.n2_board.specs.declared.places.Place.TheVariants as places
use Rattle.n2_board.specs.Places.{place_in}
use Rattle.n2_devices.specs.declared.answer.Answer.{Answer}
use Rattle.n2_devices.specs.Devices as devices
use Rattle.n2_devices.specs.Devices.{Devices, Reaction}
use Rattle.n2_bus.specs.declared.request.Request.{Request}
use Rattle.n2_bus.specs.declared.request.Request.TheVariants.{FillCode, FillData, WriteBack, Read, Write, Sample, Tick, Receive, Drain}
use Rattle.n2_bus.specs.declared.request.Reply.{Reply}
use Rattle.n2_bus.specs.Wiring.{Wiring, wiring_of, has_line, is_core, is_device_actor, is_accessed, proper}
use Rattle.n2_bus.specs.Transfer.{BusState, Shared, one_word, lines_of, served, read_served, write_served, request_for}
use Rattle.n2_journal.specs.declared.entry.Entry.{Entry}
use Rattle.n2_journal.specs.Journals.{Content, shown, IsRequestWithin, IsReplyWithin, IsEntryWithin, IsWithinLimits}
use Rattle.n2_runs.specs.Recorded.{HasCounts}
use Rattle.n2_smp.specs.Rows.{FitsRow, FitRows, HasItsTypes}

-- ---- what is proper is within the limits

line_below : (base size l p total : ℕ) → base % 32 ≡ 0 → size % 32 ≡ 0 → base + size ≤ 2 ^ 31 → (p < total → l < 2 ^ 26)
    → cond (nat_le (base / 32) l && nat_lt (l - base / 32) (size / 32)) (l - base / 32) (size / 32 + p) < size / 32 + total → l < 2 ^ 26
line_below base size l p total hb hs top rest h = at (nat_le (base / 32) l && nat_lt (l - base / 32) (size / 32)) refl h
  where
    at : (x : Bool) → (nat_le (base / 32) l && nat_lt (l - base / 32) (size / 32)) ≡ x → cond x (l - base / 32) (size / 32 + p) < size / 32 + total → l < 2 ^ 26
    at true e h =
        let z = and_parts _ _ e in
        let low : base / 32 ≤ l = leb-true _ _ z.0 in
        let up : l - base / 32 < size / 32 = ltb-true _ _ z.1 in
        omega arith
    at false e h = rest (omega arith)

low_line : (rows : List MemoryRow) (l : ℕ) → AreWholeLines rows → HasLine rows l → l < 2 ^ 26
low_line [] l whole h = absurd (omega arith)
low_line (row ∷ rows) l whole h = line_below row.base row.size l (line_place rows l) (line_count rows) whole.0.0 whole.0.1 whole.0.2 (λ there. low_line rows l whole.1 there) h

module _ (b : Board) (valid : IsValid b) where
  line_within : (actor l : ℕ) → (is_core (wiring_of b) actor && has_line (wiring_of b) l) ≡ true → l < 2 ^ 26
  line_within actor l may = low_line b.memory l (whole_lines b valid) (ltb-true _ _ (and_parts (is_core (wiring_of b) actor) (has_line (wiring_of b) l) may).1)

  access_within : (core accessed : Bool) (address : ℕ) (width : Width) → (core && (is_aligned address width && nat_lt address (2 ^ 31) && accessed)) ≡ true → (address < 2 ^ 31) × IsTrue (is_aligned address width)
  access_within core accessed address width may =
      let all = and_parts core _ may in
      let two = and_parts (is_aligned address width && nat_lt address (2 ^ 31)) accessed all.1 in
      let one = and_parts (is_aligned address width) (nat_lt address (2 ^ 31)) two.0 in
      (ltb-true _ _ one.1, one.0)

  uart_within : (device : Bool) (u : ℕ) → (device && nat_lt u (length b.uart)) ≡ true → u < 8
  uart_within device u may =
      let few = (valid_small b valid).uart in
      let lt : u < length b.uart = ltb-true _ _ (and_parts device (nat_lt u (length b.uart)) may).1 in
      omega arith

  request_within : (actor : ℕ) (request : Request) → IsTrue (proper (wiring_of b) actor request) → HasItsTypes request → IsRequestWithin request
  request_within actor (FillCode l) may types = line_within actor l may
  request_within actor (FillData l) may types = line_within actor l may
  request_within actor (WriteBack l words) may types = (line_within actor l may, types)
  request_within actor (Read address width) may types = access_within (is_core (wiring_of b) actor) (is_accessed (place_in (wiring_of b).places address) width) address width may
  request_within actor (Write address width value) may types =
      let access = access_within (is_core (wiring_of b) actor) (is_accessed (place_in (wiring_of b).places address) width) address width may in
      (access.0, access.1, types)
  request_within actor Sample may types = tt
  request_within actor (Tick n) may types = (leb-true 1 n (and_parts (is_device_actor (wiring_of b) actor) (nat_le 1 n) may).1, types)
  request_within actor (Receive u) may types = uart_within (is_device_actor (wiring_of b) actor) u may
  request_within actor (Drain u) may types = uart_within (is_device_actor (wiring_of b) actor) u may

-- ---- a row shows all that the bus replies

-- a write is answered without a value
at_device : {S : Type 0} (act : S → Reaction S) (states : List S) (i : ℕ) (o : Option S) → ((s : S) → (act s).answer.value ≡ 0) → (devices.reaction_at states i (option_map act o)).answer.value ≡ 0
at_device {S} act states i None each = refl
at_device {S} act states i (Some s) each = each s

either : {S : Type 0} (x : Bool) (r q : Reaction S) → r.answer.value ≡ 0 → q.answer.value ≡ 0 → (cond x r q).answer.value ≡ 0
either {S} true r q h g = h
either {S} false r q h g = g

mailbox_value : (offset word : ℕ) (s : mailbox.State) → (devices.write_mailbox offset word s).answer.value ≡ 0
mailbox_value offset word s = either (nat_lt offset 4) (devices.write_side sides.Send offset word s) (devices.write_side sides.Receive (offset - 4) word s) refl refl

write_value : (d : Devices) (kind : PartKind) (i offset word : ℕ) → (devices.write_at d kind i offset word).answer.value ≡ 0
write_value d kinds.Mutex i offset word = at_device (devices.write_mutex offset word) d.mutexes i (slice_get d.mutexes i) (λ s. refl)
write_value d kinds.Mailbox i offset word = at_device (devices.write_mailbox offset word) d.mailboxes i (slice_get d.mailboxes i) (mailbox_value offset word)
write_value d kinds.Timer i offset word = at_device (devices.write_timer offset word) d.timers i (slice_get d.timers i) (λ s. refl)
write_value d kinds.Uart i offset word = at_device (devices.write_uart offset word) d.uarts i (slice_get d.uarts i) (λ s. refl)
write_value d _ i offset word = refl

abbrev with_value : ℕ → Answer → ℕ → Reply
with_value lines answer value = record { words = one_word value; lines = lines; took = answer.took; pointer = answer.pointer }

module _ (w : Wiring) (actor : ℕ) (s : Shared) where
  read_shown : (there : Place) (address : ℕ) (width : Width) → (read_served w actor s there address width).reply ≡ shown (Read address width) (read_served w actor s there address width).reply
  read_shown places.Memory address width = refl
  read_shown (places.Device part offset) address width = refl
  read_shown places.Nothing address width = refl

  write_shown : (there : Place) (address : ℕ) (width : Width) (value : ℕ) → (write_served w actor s there address width value).reply ≡ shown (Write address width value) (write_served w actor s there address width value).reply
  write_shown places.Memory address width value = refl
  write_shown (places.Device part offset) address width value =
      let reaction = devices.write_word s.devices part offset value in
      ap (with_value (lines_of w reaction.state actor) reaction.answer) (write_value s.devices part.kind part.index offset value)
  write_shown places.Nothing address width value = refl

  reply_shown : (request : Request) → (served w actor s request).reply ≡ shown request (served w actor s request).reply
  unfolding served
  reply_shown (FillCode l) = refl
  reply_shown (FillData l) = refl
  reply_shown (WriteBack l words) = refl
  reply_shown (Read address width) = read_shown (place_in w.places address) address width
  reply_shown (Write address width value) = write_shown (place_in w.places address) address width value
  reply_shown Sample = refl
  reply_shown (Tick n) = refl
  reply_shown (Receive u) = refl
  reply_shown (Drain u) = refl

-- ---- entries

pub row_fits : (b : Board) → IsValid b → (behind : BusState) → behind.wiring ≡ wiring_of b → (actor local : ℕ) (request : Request) (reply : Reply) → IsTrue (proper behind.wiring actor request) → HasItsTypes request → IsReplyWithin reply
    → reply ≡ (served behind.wiring actor behind.shared request).reply → FitsRow (record { local = local; actor = actor; request = request; reply = reply })
row_fits b valid behind wired actor local request reply may types words is = record {
  request = request_within b valid actor request (subst (λ (w : Wiring). IsTrue (proper w actor request)) wired may) types;
  reply = words;
  shown = is ∙ reply_shown behind.wiring actor behind.shared request ∙ ap (λ (r : Reply). shown request r) (sym is);
}

pub event_fits : (b : Board) → IsValid b → (behind : BusState) → behind.wiring ≡ wiring_of b → (actor : ℕ) → actor ≡ length b.core → (event : DeviceEvent) (request : Request) → request ≡ request_for event → (reply : Reply) → IsTrue (proper (wiring_of b) (length b.core) (request_for event))
    → HasItsTypes request → IsReplyWithin reply → reply ≡ (served behind.wiring actor behind.shared request).reply → FitsRow (record { local = 0; actor = actor; request = request; reply = reply })
event_fits b valid behind wired actor last event request asks reply may types words is =
    let at_request : IsTrue (proper (wiring_of b) (length b.core) request) = subst (λ (r : Request). IsTrue (proper (wiring_of b) (length b.core) r)) (sym asks) may in
    let at_actor : IsTrue (proper (wiring_of b) actor request) = subst (λ (n : ℕ). IsTrue (proper (wiring_of b) n request)) (sym last) at_request in
    row_fits b valid behind wired actor 0 request reply (subst (λ (w : Wiring). IsTrue (proper w actor request)) (sym wired) at_actor) types words is

pub one_more : (entries : List Entry) (entry : Entry) → FitRows entries → FitsRow entry → FitRows (entries ++ entry ∷ [])
one_more entries entry all fits = All-push FitsRow entries entry all fits

-- ---- the whole journal

some_core : (b : Board) → IsValid b → 1 ≤ length b.core
unfolding first_fault counts
some_core b valid =
    let all = none_both (counts b) _ valid in
    let memory = none_both (count_fault b kinds.Memory 1 4) _ all.0 in
    let core = none_both (count_fault b kinds.Core 1 8) _ memory.1 in
    leb-true _ _ (and_parts _ _ (none_good _ _ core.0)).0

pub within_limits : (b : Board) → IsValid b → (j : Content) → HasCounts (length b.core) j → FitRows j.entries → IsWithinLimits j
within_limits b valid j counted rows =
    let each : All (IsEntryWithin (length b.core)) j.entries = λ k d lt. record { actor = counted.entries k d lt; request = (rows k d lt).request; reply = (rows k d lt).reply; shown = (rows k d lt).shown } in
    record {
      entries = subst (λ (n : ℕ). All (IsEntryWithin n) j.entries) (sym counted.tails_are) each;
      few_entries = counted.few_entries;
      some_core = omega (arith, counted.tails_are, some_core b valid);
      few_cores = omega (arith, counted.tails_are, (valid_small b valid).core);
      tails = counted.tails;
    }
