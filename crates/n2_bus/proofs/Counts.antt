-- No access and no event adds or takes a device.
use Rattle.std.proofs.Common.{◌≡◌, ℕ, List, length, Option, Some, None, refl, ap}
use Rattle.std.specs.Prelude.{◌&&◌, nat_lt}
use Rattle.std.proofs.Math.ListN.{length-set}
use Rattle.std.proofs.lemmas.List.{length-map}
use Rattle.n2_parts.specs.declared.board.Part.{Part}
use Rattle.n2_parts.specs.declared.board.PartKind.{PartKind}
use Rattle.n2_parts.specs.declared.board.PartKind.TheVariants.{Mutex, Mailbox, Timer, Uart}
use Rattle.n2_parts.specs.declared.board.DeviceEvent.{DeviceEvent}
use Rattle.n2_parts.specs.declared.board.DeviceEvent.TheVariants.{Tick, Receive, Drain}
use Rattle.n2_devices.specs.Devices.{Devices, Reaction, count_of, words_of, has_word, reaction_at, read_at, read_word, write_at, write_word, happened}

as_many : {S : Type 0} (states : List S) (i : ℕ) (o : Option (Reaction S)) → length (reaction_at states i o).state ≡ length states
as_many {S} states i None = refl
as_many {S} states i (Some reaction) = length-set states i reaction.state

read_count : (d : Devices) (of : PartKind) (i offset : ℕ) (kind : PartKind) → count_of (read_at d of i offset).state kind ≡ count_of d kind
read_count d Mutex i offset Mutex = as_many d.mutexes i _
read_count d Mutex i offset _ = refl
read_count d Mailbox i offset Mailbox = as_many d.mailboxes i _
read_count d Mailbox i offset _ = refl
read_count d Timer i offset Timer = as_many d.timers i _
read_count d Timer i offset _ = refl
read_count d Uart i offset Uart = as_many d.uarts i _
read_count d Uart i offset _ = refl
read_count d _ i offset kind = refl

write_count : (d : Devices) (of : PartKind) (i offset word : ℕ) (kind : PartKind) → count_of (write_at d of i offset word).state kind ≡ count_of d kind
write_count d Mutex i offset word Mutex = as_many d.mutexes i _
write_count d Mutex i offset word _ = refl
write_count d Mailbox i offset word Mailbox = as_many d.mailboxes i _
write_count d Mailbox i offset word _ = refl
write_count d Timer i offset word Timer = as_many d.timers i _
write_count d Timer i offset word _ = refl
write_count d Uart i offset word Uart = as_many d.uarts i _
write_count d Uart i offset word _ = refl
write_count d _ i offset word kind = refl

event_count : (d : Devices) (event : DeviceEvent) (kind : PartKind) → count_of (happened d event).state kind ≡ count_of d kind
event_count d (Tick n) Timer = length-map d.timers _
event_count d (Tick n) _ = refl
event_count d (Receive u) Uart = as_many d.uarts u _
event_count d (Receive u) _ = refl
event_count d (Drain u) Uart = as_many d.uarts u _
event_count d (Drain u) _ = refl

-- as many devices of each kind
pub record AreAsMany (d e : Devices) : Type 0 where
  pub each : (kind : PartKind) → count_of d kind ≡ count_of e kind

pub after_read : (d : Devices) (part : Part) (offset : ℕ) → AreAsMany (read_word d part offset).state d
after_read d part offset = record { each = read_count d part.kind part.index offset }

pub after_write : (d : Devices) (part : Part) (offset word : ℕ) → AreAsMany (write_word d part offset word).state d
after_write d part offset word = record { each = write_count d part.kind part.index offset word }

pub after_event : (d : Devices) (event : DeviceEvent) → AreAsMany (happened d event).state d
after_event d event = record { each = event_count d event }

-- so the same words
pub same_words : (d e : Devices) → AreAsMany d e → (part : Part) (offset : ℕ) → has_word d part offset ≡ has_word e part offset
same_words d e many part offset = ap (λ n. nat_lt part.index n && nat_lt offset (words_of part.kind)) (many.each part.kind)
