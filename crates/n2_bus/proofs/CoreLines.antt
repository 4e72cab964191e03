-- The interrupt lines of a core fit a word.
use Rattle.std.proofs.Common.{◌≡◌, ℕ, suc, ◌+◌, ◌^◌, ◌<◌, Bool, true, false, cond, List, [], ◌∷◌, ◌++◌, length, Option, Some, None, slice_get, refl, sym, subst, arith}
use Rattle.std.specs.List.{All}
use Rattle.std.proofs.lemmas.Bool.{ltb-true}
use Rattle.std.proofs.lemmas.List.Elements.{All-nil, All-cons, All-head, All-tail, All-append}
use Rattle.std.proofs.lemmas.Nat.{or_of_32}
use Rattle.std.proofs.Math.Pow.{pow-lt}
use Rattle.n2_parts.specs.declared.board.Board.{Board}
use Rattle.n2_parts.specs.declared.board.MailboxRow.{MailboxRow}
use Rattle.n2_parts.specs.declared.board.TimerRow.{TimerRow}
use Rattle.n2_parts.specs.declared.board.UartRow.{UartRow}
use Rattle.n2_parts.specs.Numbers.{is_irq}
use Rattle.n2_parts.specs.Valid.{IsValid}
use Rattle.n2_devices.specs.declared.wires.Source.{Source}
use Rattle.n2_devices.specs.declared.wires.Wire.{Wire}
use Rattle.n2_devices.specs.Devices.{Devices}
use Rattle.n2_devices.specs.Wires.{wired, mailbox_wires, timer_wires, uart_wires, wires_to, is_on, bit_shown, shown}
use Rattle.n2_devices.proofs.Irqs.{send_irqs, receive_irqs, timer_irqs, uart_irqs}
use Rattle.n2_devices.proofs.Shown.{shown_listed}
use Rattle.n2_bus.specs.Wiring.{wiring_of}
use Rattle.n2_bus.specs.Transfer.{lines_of}

abbrev IsBit : Wire → Type 0
IsBit wire = wire.bit < 2 ^ 32

bit_below : (on : Bool) (bit : ℕ) → bit < 2 ^ 32 → cond on bit 0 < 2 ^ 32
bit_below true bit h = h
bit_below false bit h = omega arith

shown_below : (d : Devices) (wires : List Wire) → All IsBit wires → shown d wires < 2 ^ 32
shown_below d [] all = omega arith
shown_below d (wire ∷ wires) all =
    or_of_32 (bit_shown d wire) (shown d wires) (bit_below (is_on d wire.source) wire.bit (All-head IsBit wire wires all)) (shown_below d wires (All-tail IsBit wire wires all))

wired_bits : (own : Bool) (source : Source) (irq : Option ℕ) → is_irq irq ≡ true → All IsBit (wired own source irq)
wired_bits true source (Some irq) h = All-cons IsBit (record { source = source; bit = 2 ^ irq }) [] (pow-lt (ltb-true irq 32 h)) (All-nil IsBit)
wired_bits true source None h = All-nil IsBit
wired_bits false source (Some irq) h = All-nil IsBit
wired_bits false source None h = All-nil IsBit

mailbox_bits : (k i : ℕ) (rows : List MailboxRow) → ((j : ℕ) (row : MailboxRow) → slice_get rows j ≡ Some row → is_irq row.send_irq ≡ true) → ((j : ℕ) (row : MailboxRow) → slice_get rows j ≡ Some row → is_irq row.receive_irq ≡ true) → All IsBit (mailbox_wires k i rows)
mailbox_bits k i [] send receive = All-nil IsBit
mailbox_bits k i (row ∷ rows) send receive =
    All-append IsBit (wired _ _ row.send_irq ++ wired _ _ row.receive_irq) (mailbox_wires k (i + 1) rows)
    (All-append IsBit (wired _ _ row.send_irq) (wired _ _ row.receive_irq) (wired_bits _ _ row.send_irq (send 0 row refl)) (wired_bits _ _ row.receive_irq (receive 0 row refl)))
    (mailbox_bits k (i + 1) rows (λ j r e. send (suc j) r e) (λ j r e. receive (suc j) r e))

timer_bits : (k i : ℕ) (rows : List TimerRow) → ((j : ℕ) (row : TimerRow) → slice_get rows j ≡ Some row → is_irq row.irq ≡ true) → All IsBit (timer_wires k i rows)
timer_bits k i [] each = All-nil IsBit
timer_bits k i (row ∷ rows) each = All-append IsBit (wired _ _ row.irq) (timer_wires k (i + 1) rows) (wired_bits _ _ row.irq (each 0 row refl)) (timer_bits k (i + 1) rows (λ j r e. each (suc j) r e))

uart_bits : (k i : ℕ) (rows : List UartRow) → ((j : ℕ) (row : UartRow) → slice_get rows j ≡ Some row → is_irq row.irq ≡ true) → All IsBit (uart_wires k i rows)
uart_bits k i [] each = All-nil IsBit
uart_bits k i (row ∷ rows) each = All-append IsBit (wired _ _ row.irq) (uart_wires k (i + 1) rows) (wired_bits _ _ row.irq (each 0 row refl)) (uart_bits k (i + 1) rows (λ j r e. each (suc j) r e))

core_bits : (b : Board) (core : ℕ) → IsValid b → All IsBit (wires_to b core)
core_bits b core valid =
    All-append IsBit (mailbox_wires core 0 b.mailbox ++ timer_wires core 0 b.timer) (uart_wires core 0 b.uart)
    (All-append IsBit (mailbox_wires core 0 b.mailbox) (timer_wires core 0 b.timer) (mailbox_bits core 0 b.mailbox (send_irqs b valid) (receive_irqs b valid)) (timer_bits core 0 b.timer (timer_irqs b valid)))
    (uart_bits core 0 b.uart (uart_irqs b valid))

pub lines_below : (b : Board) (d : Devices) (core : ℕ) → IsValid b → core < length b.core → lines_of (wiring_of b) d core < 2 ^ 32
lines_below b d core valid there = subst (λ n. n < 2 ^ 32) (sym (shown_listed b d core there)) (shown_below d (wires_to b core) (core_bits b core valid))
