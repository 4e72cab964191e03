-- What the discipline says of a core's accesses rests on what the core owns, on the Pointer registers of the mailboxes that
-- it sends to, and on its past events.
use Rattle.std.proofs.Common.{◌≡◌, ◌≢◌, ℕ, ◌<◌, length, Bool, true, false, eqb, ltb, if◌then◌else◌, List, Option, Some, None, Result, Ok, Err, slice_get, refl, sym, ap, ◌∙◌}
use mathlib.Core.Path.{fun_ext}
use Rattle.std.proofs.lemmas.Bool.{eqb-true}
use Rattle.n2_word.specs.declared.Width.{Width}
use Rattle.n2_word.specs.Lines.{line}
use Rattle.n2_insn.specs.declared.DataOp.{DataOp}
use Rattle.n2_insn.specs.declared.DataOp.TheVariants.{Initd, Initda, Flushd, Flushda}
use Rattle.n2_parts.specs.declared.board.Board.{Board}
use Rattle.n2_parts.specs.declared.board.MailboxRow.{MailboxRow}
use Rattle.n2_parts.specs.declared.board.PartKind.{PartKind}
use Rattle.n2_parts.specs.declared.board.PartKind.TheVariants as kinds
use Rattle.n2_board.specs.declared.access.Target.{Target}
use Rattle.n2_board.specs.declared.access.Target.TheVariants as targets
use Rattle.n2_board.specs.declared.access.Violation.{Violation}
use Rattle.n2_board.specs.declared.access.Route.TheVariants.{Cached, Bypassing}
use Rattle.n2_board.specs.declared.guards.Guard.{Guard}
use Rattle.n2_board.specs.AddressMap.{AddressMap, class_of}
use Rattle.n2_board.specs.Access.{data_target}
use Rattle.n2_board.specs.Guards.{guard_of}
use Rattle.n2_elf.specs.declared.image.Image.{Image}
use Rattle.n2_bus.specs.declared.request.Request.{Request}
use Rattle.n2_watch.specs.declared.past.Past.{Past}
use Rattle.n2_watch.specs.declared.access.Access.{Access}
use Rattle.n2_watch.specs.declared.access.Access.TheVariants as accesses
use Rattle.n2_watch.specs.Discipline.{Knowledge, line_breach, is_post, post_breach, side_breach, mailbox_breach, device_breach, cached_breach, bypass_breach, op_breach, breach, direction}
use Rattle.n2_watch.specs.World.{World, transferred}
use Rattle.n2_watch.specs.Shapes.{BypassAccess, IsLetPast, accessed, is_access}
use Rattle.n2_watch.proofs.KeptDevices.{owned_like, pointer_like}
use Rattle.n2_watch.proofs.KeptTransfers.{exchange, other_request}
use Rattle.n2_watch.specs.Book.{Book, cpuid_of, sets_of, owned_by, pointer_of, knowledge, region_at}

if_same : {A : Type 0} (test : Bool) (x x' y : A) → (test ≡ true → x ≡ x') → (if test then x else y) ≡ (if test then x' else y)
if_same true x x' y e = e refl
if_same false x x' y e = refl

abbrev knows : Board → ℕ → (Guard → Bool) → List Past → (ℕ → ℕ) → Knowledge
knows b j own past pointer = record { core = j; cpuid = cpuid_of b j; sets = sets_of b j; owns = own; pointer = pointer; past = past }

module _ (b : Board) (map : AddressMap) (j : ℕ) (own : Guard → Bool) (past : List Past) (now old : ℕ → ℕ) (same : (index : ℕ) (row : MailboxRow) → slice_get b.mailbox index ≡ Some row → row.sender ≡ j → now index ≡ old index) where
  line_same : (o : Option Guard) (number : ℕ) → line_breach map (knows b j own past now) o number ≡ line_breach map (knows b j own past old) o number
  line_same None number = refl
  line_same (Some guard) number = refl

  cached_same : (target : Result Target Violation) (number : ℕ) → cached_breach map (knows b j own past now) target number ≡ cached_breach map (knows b j own past old) target number
  cached_same (Err wrong) number = refl
  cached_same (Ok target) number = line_same (guard_of (class_of map number)) number

  post_same : (index : ℕ) (o : Option ℕ) (number : ℕ) → post_breach b map (knows b j own past now) index o number ≡ post_breach b map (knows b j own past old) index o number
  post_same index None number = refl
  post_same index (Some region) number = refl

  side_same : (index : ℕ) (row : MailboxRow) → slice_get b.mailbox index ≡ Some row → (offset : ℕ) (store : Bool) (number : ℕ) → side_breach b map (knows b j own past now) index row offset store number ≡ side_breach b map (knows b j own past old) index row offset store number
  side_same index row found offset store number =
      if_same (ltb offset 4) _ _ _ (λ low. if_same (eqb row.sender j) _ _ _ (λ sends. if_same (is_post offset store) _ _ _ (λ posts.
      ap (λ (p : ℕ). post_breach b map (knows b j own past now) index (region_at map p) number) (same index row found (eqb-true row.sender j sends)) ∙ post_same index (region_at map (old index)) number)))

  mailbox_same : (index : ℕ) (o : Option MailboxRow) → slice_get b.mailbox index ≡ o → (offset : ℕ) (store : Bool) (number : ℕ) → mailbox_breach b map (knows b j own past now) index o offset store number ≡ mailbox_breach b map (knows b j own past old) index o offset store number
  mailbox_same index None found offset store number = refl
  mailbox_same index (Some row) found offset store number = side_same index row found offset store number

  device_same : (kind : PartKind) (index offset : ℕ) (store : Bool) (value number : ℕ) → device_breach b map (knows b j own past now) kind index offset store value number ≡ device_breach b map (knows b j own past old) kind index offset store value number
  device_same kinds.Mutex index offset store value number = refl
  device_same kinds.Mailbox index offset store value number = mailbox_same index (slice_get b.mailbox index) refl offset store number
  device_same _ index offset store value number = refl

  bypass_same : (target : Result Target Violation) (store : Bool) (value number : ℕ) → bypass_breach b map (knows b j own past now) target store value number ≡ bypass_breach b map (knows b j own past old) target store value number
  bypass_same (Err wrong) store value number = refl
  bypass_same (Ok targets.Memory) store value number = refl
  bypass_same (Ok (targets.Device part offset)) store value number = device_same part.kind part.index offset store value number

  op_same : (op : DataOp) (address : ℕ) → op_breach (knows b j own past now) op address ≡ op_breach (knows b j own past old) op address
  op_same Initd address = refl
  op_same Initda address = refl
  op_same Flushd address = refl
  op_same Flushda address = refl

  breach_same : (access : Access) (width : Width) → breach b map (knows b j own past now) access width ≡ breach b map (knows b j own past old) access width
  unfolding breach
  breach_same (accesses.Cached address store) width = cached_same (data_target map j address width Cached (direction store)) (line address)
  breach_same (accesses.Bypass address store value) width = bypass_same (data_target map j address width Bypassing (direction store)) store value (line address)
  breach_same (accesses.Fetch address) width = refl
  breach_same (accesses.Op op address) width = op_same op address

pub same_judgement : (b : Board) (map : AddressMap) (before after : Book) (j : ℕ) → ((guard : Guard) → owned_by b after j guard ≡ owned_by b before j guard) → ((index : ℕ) (row : MailboxRow) → slice_get b.mailbox index ≡ Some row → row.sender ≡ j → pointer_of after index ≡ pointer_of before index) → (past : List Past) (access : Access) (width : Width) → breach b map (knowledge b after j past) access width ≡ breach b map (knowledge b before j past) access width
same_judgement b map before after j guards pointers past access width =
    breach_same b map j (owned_by b after j) past (pointer_of after) (pointer_of before) pointers access width
    ∙ ap (λ (own : Guard → Bool). breach b map (knows b j own past (pointer_of before)) access width) (fun_ext guards)

pub access_judgement : (b : Board) (images : List Image) (map : AddressMap) (k : ℕ) (w : World) (past : List Past) (access : BypassAccess) → IsLetPast b images map k w past access → (j : ℕ) → j < length b.core → j ≢ k → (own : List Past) (asked : Access) (width : Width) → breach b map (knowledge b (accessed b map k w access).world.book j own) asked width ≡ breach b map (knowledge b w.book j own) asked width
access_judgement b images map k w past access h j jlt n =
    let x = exchange b images map k w past access h in
    same_judgement b map w.book (accessed b map k w access).world.book j (λ guard. x.others j guard jlt n) (λ index row found sends. x.pointers index row found (λ e. n (sym sends ∙ e)))

pub request_judgement : (b : Board) (map : AddressMap) (actor : ℕ) (w : World) (request : Request) → is_access request ≡ false → (j : ℕ) (own : List Past) (asked : Access) (width : Width) → breach b map (knowledge b (transferred b map actor w request).world.book j own) asked width ≡ breach b map (knowledge b w.book j own) asked width
request_judgement b map actor w request e j =
    let x = other_request b map actor w request e in
    same_judgement b map w.book (transferred b map actor w request).world.book j (owned_like b w.book (transferred b map actor w request).world.book j x.mutexes x.holders) (λ index row found sends. pointer_like w.book (transferred b map actor w request).world.book index x.mailboxes)
