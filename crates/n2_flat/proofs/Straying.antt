-- Which accesses stray: those alone that the layout says stray.
use Rattle.std.proofs.Common.{◌≡◌, ℕ, ◌%◌, ◌/◌, ◌^◌, Bool, true, false, ◌&&◌, ◌==◌, nat_lt, if◌then◌else◌, Option, Some, None, Result, Ok, Err, slice_get, refl, sym, ap, ◌∙◌}
use Rattle.std.specs.Prelude.{option_map}
use Rattle.std.proofs.lemmas.Bool.{true≢false}
use Rattle.n2_word.specs.declared.Width.{Width}
use Rattle.n2_word.specs.Lines.{line}
use Rattle.n2_insn.specs.declared.DataOp.{DataOp}
use Rattle.n2_insn.specs.declared.DataOp.TheVariants.{Initd, Initda, Flushd, Flushda}
use Rattle.n2_parts.specs.declared.board.Board.{Board}
use Rattle.n2_parts.specs.declared.board.MailboxRow.{MailboxRow}
use Rattle.n2_parts.specs.declared.board.PartKind.{PartKind}
use Rattle.n2_parts.specs.declared.board.PartKind.TheVariants as kinds
use Rattle.n2_parts.specs.declared.stops.Kind.TheVariants.{Flush}
use Rattle.n2_board.specs.declared.access.Target.{Target}
use Rattle.n2_board.specs.declared.access.Target.TheVariants as targets
use Rattle.n2_board.specs.declared.access.Violation.{Violation}
use Rattle.n2_board.specs.declared.access.Violation.TheVariants.{Stray, Separate}
use Rattle.n2_board.specs.declared.access.Route.TheVariants.{Bypassing}
use Rattle.n2_board.specs.declared.guards.Guard.{Guard}
use Rattle.n2_board.specs.declared.guards.Guard.TheVariants as guard_kinds
use Rattle.n2_board.specs.AddressMap.{AddressMap, class_of}
use Rattle.n2_board.specs.Guards.{passed_region}
use Rattle.n2_board.specs.Access.{data_target}
use Rattle.n2_watch.specs.declared.access.Access.TheVariants as accesses
use Rattle.n2_watch.specs.Discipline.{Breach, Strays, Breaks, Knowledge, gives, mutex_breach, lists, post_breach, is_post, side_breach, mailbox_breach, device_breach, direction, bypass_breach, breach}

abbrev strays : Option Breach → Bool
strays None = false
strays (Some Strays) = true
strays (Some (Breaks kind number)) = false

if_not : (t : Bool) (x y : Option Breach) → strays x ≡ false → strays y ≡ false → strays (if t then x else y) ≡ false
if_not true x y h i = h
if_not false x y h i = i

flush_not : (o : Option ℕ) → strays (option_map (λ number. Breaks Flush number) o) ≡ false
flush_not None = refl
flush_not (Some number) = refl

gives_not : (map : AddressMap) (who : Knowledge) (guard : Guard) → strays (gives map who guard) ≡ false
gives_not map who guard = flush_not _

mutex_not : (map : AddressMap) (who : Knowledge) (mutex value number : ℕ) → strays (mutex_breach map who mutex value number) ≡ false
mutex_not map who mutex value number = if_not (value / 2 ^ 16 == who.cpuid) _ _ (if_not (value % 2 ^ 16 == 0 && who.owns (guard_kinds.Mutex mutex)) _ _ (gives_not map who (guard_kinds.Mutex mutex)) refl) refl

post_not : (b : Board) (map : AddressMap) (who : Knowledge) (mailbox : ℕ) (region : Option ℕ) (number : ℕ) → strays (post_breach b map who mailbox region number) ≡ false
post_not b map who mailbox None number = refl
post_not b map who mailbox (Some region) number = if_not (lists b region mailbox) _ _ (if_not (who.owns (guard_kinds.Passed region)) _ _ (gives_not map who (guard_kinds.Passed region)) refl) refl

side_not : (b : Board) (map : AddressMap) (who : Knowledge) (mailbox : ℕ) (row : MailboxRow) (offset : ℕ) (store : Bool) (number : ℕ) → strays (side_breach b map who mailbox row offset store number) ≡ false
side_not b map who mailbox row offset store number =
    if_not (nat_lt offset 4) _ _
    (if_not (row.sender == who.core) _ _ (if_not (is_post offset store) _ _ (post_not b map who mailbox (passed_region (class_of map (line (who.pointer mailbox)))) number) refl) refl)
    (if_not (row.receiver == who.core) _ _ refl refl)

mailbox_not : (b : Board) (map : AddressMap) (who : Knowledge) (mailbox : ℕ) (row : Option MailboxRow) (offset : ℕ) (store : Bool) (number : ℕ) → strays (mailbox_breach b map who mailbox row offset store number) ≡ false
mailbox_not b map who mailbox None offset store number = refl
mailbox_not b map who mailbox (Some row) offset store number = side_not b map who mailbox row offset store number

device_not : (b : Board) (map : AddressMap) (who : Knowledge) (kind : PartKind) (index offset : ℕ) (store : Bool) (value number : ℕ) → strays (device_breach b map who kind index offset store value number) ≡ false
device_not b map who kinds.Mutex index offset store value number = if_not (offset == 0 && store) _ _ (mutex_not map who index value number) refl
device_not b map who kinds.Mailbox index offset store value number = mailbox_not b map who index (slice_get b.mailbox index) offset store number
device_not b map who kind index offset store value number = refl

known : (o : Option Breach) → strays o ≡ false → o ≡ Some Strays → ⊥
known o h e = true≢false (sym (ap strays e) ∙ h)

-- ---- past it
pub past_strays : (b : Board) (map : AddressMap) (who : Knowledge) (address : ℕ) (store : Bool) (value : ℕ) (width : Width) → data_target map who.core address width Bypassing (direction store) ≡ Err Stray → breach b map who (accesses.Bypass address store value) width ≡ Some Strays
unfolding breach
past_strays b map who address store value width e = ap (λ t. bypass_breach b map who t store value (line address)) e

past_target : (b : Board) (map : AddressMap) (who : Knowledge) (t : Result Target Violation) (store : Bool) (value number : ℕ) → (t ≡ Err Stray → ⊥) → strays (bypass_breach b map who t store value number) ≡ false
past_target b map who (Err Stray) store value number n = absurd (n refl)
past_target b map who (Err Separate) store value number n = refl
past_target b map who (Ok targets.Memory) store value number n = refl
past_target b map who (Ok (targets.Device part offset)) store value number n = device_not b map who part.kind part.index offset store value number

pub past_known : (b : Board) (map : AddressMap) (who : Knowledge) (address : ℕ) (store : Bool) (value : ℕ) (width : Width) → (data_target map who.core address width Bypassing (direction store) ≡ Err Stray → ⊥) → breach b map who (accesses.Bypass address store value) width ≡ Some Strays → ⊥
unfolding breach
past_known b map who address store value width n = known _ (past_target b map who (data_target map who.core address width Bypassing (direction store)) store value (line address) n)

-- ---- operations
pub op_known : (b : Board) (map : AddressMap) (who : Knowledge) (op : DataOp) (address : ℕ) (width : Width) → breach b map who (accesses.Op op address) width ≡ Some Strays → ⊥
unfolding breach
op_known b map who Initd address width = known _ (flush_not _)
op_known b map who Initda address width = known _ (flush_not _)
op_known b map who Flushd address width = known None refl
op_known b map who Flushda address width = known None refl
