-- The discipline of shared memory, as one function of what a core knows itself. An access breaks the first of these rules
-- that applies: it strays; it is separate, which the layout says but for posts; it lacks a lock; it is of a stale line; it
-- gives away or drops what is dirty.
use Rattle.std.specs.Prelude.{ℕ, ◌/◌, ◌%◌, ◌^◌, List, Bool, false, ◌==◌, ◌&&◌, nat_lt, if◌then◌else◌, Option, Some, None, option_map, Result, Ok, Err, slice_get}
use Rattle.std.specs.List.{list_any}
use Rattle.n2_word.specs.declared.Width.{Width}
use Rattle.n2_word.specs.Lines.{line}
use Rattle.n2_insn.specs.declared.DataOp.{DataOp}
use Rattle.n2_insn.specs.declared.DataOp.TheVariants.{Initd, Initda, Flushd, Flushda}
use Rattle.n2_parts.specs.declared.board.Board.{Board}
use Rattle.n2_parts.specs.declared.board.MailboxRow.{MailboxRow}
use Rattle.n2_parts.specs.declared.board.RegionRow.{RegionRow}
use Rattle.n2_parts.specs.declared.board.RegionClass.{RegionClass}
use Rattle.n2_parts.specs.declared.board.RegionClass.TheVariants as classes
use Rattle.n2_parts.specs.declared.board.PartKind.{PartKind}
use Rattle.n2_parts.specs.declared.board.PartKind.TheVariants as kinds
use Rattle.n2_parts.specs.declared.stops.Kind.{Kind}
use Rattle.n2_parts.specs.declared.stops.Kind.TheVariants.{Separate, Lock, Invalidate, Flush}
use Rattle.n2_board.specs.declared.access.Target.{Target}
use Rattle.n2_board.specs.declared.access.Target.TheVariants as targets
use Rattle.n2_board.specs.declared.access.Violation.{Violation}
use Rattle.n2_board.specs.declared.access.Violation.TheVariants as violations
use Rattle.n2_board.specs.declared.access.Route.TheVariants.{Cached, Bypassing}
use Rattle.n2_board.specs.declared.access.Direction.{Direction}
use Rattle.n2_board.specs.declared.access.Direction.TheVariants as directions
use Rattle.n2_board.specs.declared.guards.Guard.{Guard}
use Rattle.n2_board.specs.declared.guards.Guard.TheVariants as guard_kinds
use Rattle.n2_board.specs.AddressMap.{AddressMap, class_of}
use Rattle.n2_board.specs.Access.{data_target, fetch_violation}
use Rattle.n2_board.specs.Guards.{guard_of, passed_region}
use Rattle.n2_watch.specs.declared.past.Past.{Past}
use Rattle.n2_watch.specs.declared.access.Access.{Access}
use Rattle.n2_watch.specs.declared.access.Access.TheVariants as accesses
use Rattle.n2_watch.specs.Past.{covers, guards, dirty, stale, lowest}

-- what is wrong with an access: it strays, or it is refused by a rule, and the refusal names a line
pub data Breach : Type 0 where
  Strays : Breach
  Breaks : (kind : Kind) (number : ℕ) → Breach

-- what a core knows: its number and its cpuid, how many sets its data cache has, which guards it owns, the Pointer
-- registers of the mailboxes that it sends to, and its past events
pub record Knowledge : Type 0 where
  pub core : ℕ
  pub cpuid : ℕ
  pub sets : ℕ
  pub owns : Guard → Bool
  pub pointer : ℕ → ℕ
  pub past : List Past

-- ---- what is dirty is neither given away nor dropped

-- the lowest dirty line of those meant, for which an access is refused
abbrev pub unflushed : Knowledge → (ℕ → Bool) → Option Breach
unflushed who meant = option_map (λ number. Breaks Flush number) (lowest (λ number. dirty who.sets who.past number && meant number) who.past)

-- a guard is given away
abbrev pub gives : AddressMap → Knowledge → Guard → Option Breach
gives map who guard = unflushed who (λ number. guards map guard number)

-- ---- loads and stores through the cache: the line's guard is owned, and the line is not stale

abbrev pub if_stale : AddressMap → Knowledge → ℕ → Option Breach
if_stale map who number = if stale map who.sets who.past number then Some (Breaks Invalidate number) else None

abbrev pub line_breach : AddressMap → Knowledge → Option Guard → ℕ → Option Breach
line_breach map who None number = if_stale map who number
line_breach map who (Some guard) number = if who.owns guard then if_stale map who number else Some (Breaks Lock number)

-- ---- loads and stores of devices. `number` is the line of the accessed address

-- a write of the mutex register is of the core's own cpuid in OWNER; one of VALUE 0 gives an owned mutex away
abbrev pub mutex_breach : AddressMap → Knowledge → ℕ → ℕ → ℕ → Option Breach
mutex_breach map who mutex value number =
    if value / 2 ^ 16 == who.cpuid
    then (if value % 2 ^ 16 == 0 && who.owns (guard_kinds.Mutex mutex) then gives map who (guard_kinds.Mutex mutex) else None)
    else Some (Breaks Lock number)

-- a region is passed on by the mailboxes that it lists
abbrev pub class_lists : RegionClass → ℕ → Bool
class_lists classes.Code mailbox = false
class_lists (classes.Private core) mailbox = false
class_lists (classes.Mutex mutex) mailbox = false
class_lists (classes.Passed holder mailboxes) mailbox = list_any (λ listed. listed == mailbox) mailboxes
class_lists classes.Uncached mailbox = false

abbrev pub row_lists : Option RegionRow → ℕ → Bool
row_lists None mailbox = false
row_lists (Some row) mailbox = class_lists row.class mailbox

abbrev pub lists : Board → ℕ → ℕ → Bool
lists b region mailbox = row_lists (slice_get b.region region) mailbox

-- a post, by the passed region that the Pointer lies in: the region lists the mailbox, the core owns it, and gives it away
abbrev pub post_breach : Board → AddressMap → Knowledge → ℕ → Option ℕ → ℕ → Option Breach
post_breach b map who mailbox None number = None
post_breach b map who mailbox (Some region) number =
    if lists b region mailbox
    then (if who.owns (guard_kinds.Passed region) then gives map who (guard_kinds.Passed region) else Some (Breaks Lock number))
    else Some (Breaks Separate number)

-- a post is every write of Command at the sending side
abbrev pub is_post : ℕ → Bool → Bool
is_post offset store = offset == 0 && store

-- the sending side is for the sender, and the receiving side, whose words begin at 4, for the receiver
abbrev pub side_breach : Board → AddressMap → Knowledge → ℕ → MailboxRow → ℕ → Bool → ℕ → Option Breach
side_breach b map who mailbox row offset store number =
    if nat_lt offset 4
    then (if row.sender == who.core
    then (if is_post offset store then post_breach b map who mailbox (passed_region (class_of map (line (who.pointer mailbox)))) number else None)
    else Some (Breaks Lock number))
    else (if row.receiver == who.core then None else Some (Breaks Lock number))

abbrev pub mailbox_breach : Board → AddressMap → Knowledge → ℕ → Option MailboxRow → ℕ → Bool → ℕ → Option Breach
mailbox_breach b map who mailbox None offset store number = None
mailbox_breach b map who mailbox (Some row) offset store number = side_breach b map who mailbox row offset store number

-- by the kind of the device; timers and UARTs are for all cores
abbrev pub device_breach : Board → AddressMap → Knowledge → PartKind → ℕ → ℕ → Bool → ℕ → ℕ → Option Breach
device_breach b map who kinds.Mutex index offset store value number = if offset == 0 && store then mutex_breach map who index value number else None
device_breach b map who kinds.Mailbox index offset store value number = mailbox_breach b map who index (slice_get b.mailbox index) offset store number
device_breach b map who kind index offset store value number = None

-- ---- all accesses

-- what the layout alone says of an access
abbrev pub violation : Violation → ℕ → Breach
violation violations.Stray number = Strays
violation violations.Separate number = Breaks Separate number

abbrev pub direction : Bool → Direction
direction store = if store then directions.Store else directions.Load

abbrev pub cached_breach : AddressMap → Knowledge → Result Target Violation → ℕ → Option Breach
cached_breach map who (Err wrong) number = Some (violation wrong number)
cached_breach map who (Ok target) number = line_breach map who (guard_of (class_of map number)) number

abbrev pub bypass_breach : Board → AddressMap → Knowledge → Result Target Violation → Bool → ℕ → ℕ → Option Breach
bypass_breach b map who (Err wrong) store value number = Some (violation wrong number)
bypass_breach b map who (Ok targets.Memory) store value number = None
bypass_breach b map who (Ok (targets.Device part offset)) store value number = device_breach b map who part.kind part.index offset store value number

-- `initd` and `initda` drop lines without writing them back
abbrev pub op_breach : Knowledge → DataOp → ℕ → Option Breach
op_breach who Initd address = unflushed who (λ number. covers who.sets Initd address number)
op_breach who Initda address = unflushed who (λ number. covers who.sets Initda address number)
op_breach who Flushd address = None
op_breach who Flushda address = None

-- the breach of an access of some width, if it is one; a fetch and an operation have no width
unfoldable pub breach : Board → AddressMap → Knowledge → Access → Width → Option Breach
breach b map who (accesses.Cached address store) width = cached_breach map who (data_target map who.core address width Cached (direction store)) (line address)
breach b map who (accesses.Bypass address store value) width = bypass_breach b map who (data_target map who.core address width Bypassing (direction store)) store value (line address)
breach b map who (accesses.Fetch address) width = option_map (λ wrong. violation wrong (line address)) (fetch_violation map address)
breach b map who (accesses.Op op address) width = op_breach who op address
