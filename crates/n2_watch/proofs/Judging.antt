-- What a judge says, by the rules.
use Rattle.std.proofs.Common.{◌≡◌, ℕ, Bool, cond, nat_eq, nat_lt, List, length, get_or, slice_get, Option, Some, None, Result, Ok, Err, true, false, refl, ap, sym, ◌∙◌, subst, option_map}
use Rattle.n2_insn.specs.declared.DataOp.{DataOp}
use Rattle.n2_insn.specs.declared.DataOp.TheVariants.{Initd, Initda}
use Rattle.n2_parts.specs.declared.stops.Kind.TheVariants.{Flush, Lock, Separate}
use Rattle.n2_watch.specs.declared.access.Broken.{Broken}
use Rattle.n2_watch.specs.Past.{covers}
use Rattle.n2_word.specs.declared.Width.{Width}
use Rattle.n2_word.specs.declared.Width.TheVariants.{Byte, Half, Word}
use Rattle.n2_word.specs.Lines.{line, without_bypass}
use Rattle.n2_parts.specs.declared.board.Board.{Board}
use Rattle.n2_parts.specs.declared.board.MailboxRow.{MailboxRow}
use Rattle.n2_parts.specs.declared.board.PartKind.{PartKind}
use Rattle.n2_parts.specs.declared.board.PartKind.TheVariants as kinds
use Rattle.n2_board.specs.declared.access.Target.{Target}
use Rattle.n2_board.specs.declared.access.Target.TheVariants as targets
use Rattle.n2_board.specs.declared.access.Violation.{Violation}
use Rattle.n2_board.specs.declared.access.Violation.TheVariants.{Stray}
use Rattle.n2_board.specs.declared.access.Route.{Route}
use Rattle.n2_board.specs.declared.access.Route.TheVariants.{Cached, Bypassing}
use Rattle.n2_board.specs.declared.access.Direction.{Direction}
use Rattle.n2_board.specs.declared.classes.Class.{Class}
use Rattle.n2_board.specs.declared.places.Place.{Place}
use Rattle.n2_board.specs.declared.places.Place.TheVariants.{Memory, Device, Nothing}
use Rattle.n2_board.specs.declared.guards.Guard.{Guard}
use Rattle.n2_board.specs.AddressMap.{AddressMap, class_of, place}
use Rattle.n2_board.specs.Access.{allows, memory_target, data_target, fetch_violation, target_at}
use Rattle.n2_board.specs.Guards.{guard_of, passed_region}
use Rattle.n2_watch.specs.declared.past.Past.{Past}
use Rattle.n2_watch.specs.declared.access.Access.{Access}
use Rattle.n2_watch.specs.declared.access.Access.TheVariants as accesses
use mathlib.Core.Path.{fun_ext}
use Rattle.n2_watch.specs.Book.{Book, knowledge, cpuid_of, sets_of, owned_by, pointer_of}
use Rattle.n2_watch.specs.Table.{slot_of}
use Rattle.n2_watch.specs.Discipline.{Knowledge, Breach, Strays, Breaks, unflushed, op_breach, direction, violation, line_breach, cached_breach, bypass_breach, post_breach, is_post, side_breach, mailbox_breach, device_breach, breach}
use Rattle.n2_watch.specs.Watched.{Watched, StandsFor, known, broken_at, address_of}

pub op_drops : (who : Knowledge) (op : DataOp) (address : ℕ) → op ≡ Initd → unflushed who (λ number. covers who.sets op address number) ≡ op_breach who op address
op_drops who op address e = rw e refl

pub op_drops_line : (who : Knowledge) (op : DataOp) (address : ℕ) → op ≡ Initda → unflushed who (λ number. covers who.sets op address number) ≡ op_breach who op address
op_drops_line who op address e = rw e refl

pub flush_at : (address : ℕ) (a b : Option ℕ) → a ≡ b → broken_at address (option_map (λ number. Breaks Flush number) a) ≡ broken_at address (option_map (λ number. Breaks Flush number) b)
flush_at address a b e = ap (λ o. broken_at address (option_map (λ number. Breaks Flush number) o)) e

-- ---- the width of an access counts only where it strays

same_target : (p : Place) (class : Class) (core : ℕ) (width : Width) (route : Route) (direction : Direction) → (target_at p class core width route direction ≡ Err Stray → ⊥) → target_at p class core width route direction ≡ target_at p class core Word route direction
same_target Memory class core width route direction n = refl
same_target (Device part offset) class core Byte route direction n = absurd (n refl)
same_target (Device part offset) class core Half route direction n = absurd (n refl)
same_target (Device part offset) class core Word route direction n = refl
same_target Nothing class core width route direction n = refl

pub word_target : (map : AddressMap) (core address : ℕ) (width : Width) (route : Route) (direction : Direction) → (data_target map core address width route direction ≡ Err Stray → ⊥) → data_target map core address width route direction ≡ data_target map core address Word route direction
unfolding data_target
word_target map core address width route direction n = same_target (place map (without_bypass address)) (class_of map (line address)) core width route direction n

pub cached_word : (b : Board) (map : AddressMap) (who : Knowledge) (address : ℕ) (store : Bool) (width : Width) → (breach b map who (accesses.Cached address store) width ≡ Some Strays → ⊥) → breach b map who (accesses.Cached address store) width ≡ cached_breach map who (data_target map who.core address Word Cached (direction store)) (line address)
unfolding breach
cached_word b map who address store width n =
    ap (λ t. cached_breach map who t (line address)) (word_target map who.core address width Cached (direction store) (λ e. n (ap (λ t. cached_breach map who t (line address)) e)))

pub bypass_word : (b : Board) (map : AddressMap) (who : Knowledge) (address : ℕ) (store : Bool) (value : ℕ) (width : Width) → (breach b map who (accesses.Bypass address store value) width ≡ Some Strays → ⊥) → breach b map who (accesses.Bypass address store value) width ≡ bypass_breach b map who (data_target map who.core address Word Bypassing (direction store)) store value (line address)
unfolding breach
bypass_word b map who address store value width n =
    ap (λ t. bypass_breach b map who t store value (line address)) (word_target map who.core address width Bypassing (direction store) (λ e. n (ap (λ t. bypass_breach b map who t store value (line address)) e)))

-- ---- a load or store through the cache reaches memory by its line's class, and nothing else

memory_reached : (map : AddressMap) (core address : ℕ) (width : Width) (d : Direction) → place map (without_bypass address) ≡ Memory → data_target map core address width Cached d ≡ memory_target (allows (class_of map (line address)) core Cached d)
unfolding data_target
memory_reached map core address width d h = ap (λ p. target_at p (class_of map (line address)) core width Cached d) h

pub class_judged : (map : AddressMap) (who : Knowledge) (address number : ℕ) (width : Width) (d : Direction) (class : Class) (r : Option Breach) → number ≡ line address → place map (without_bypass address) ≡ Memory → class ≡ class_of map number → r ≡ cached_breach map who (memory_target (allows class who.core Cached d)) number → r ≡ cached_breach map who (data_target map who.core address width Cached d) (line address)
class_judged map who address number width d class r e m c h =
    h
    ∙ ap (λ x. cached_breach map who (memory_target (allows x who.core Cached d)) number) c
    ∙ ap (λ n. cached_breach map who (memory_target (allows (class_of map n) who.core Cached d)) n) e
    ∙ ap (λ t. cached_breach map who t (line address)) (sym (memory_reached map who.core address width d m))

pub line_judged : (map : AddressMap) (who : Knowledge) (number : ℕ) (d : Direction) (class : Class) (r : Option Breach) → allows class who.core Cached d ≡ true → class ≡ class_of map number → r ≡ line_breach map who (guard_of class) number → r ≡ cached_breach map who (memory_target (allows class who.core Cached d)) number
line_judged map who number d class r a c h =
    h ∙ ap (λ x. line_breach map who (guard_of x) number) c ∙ sym (ap (λ b. cached_breach map who (memory_target b) number) a)

pub line_separate : (map : AddressMap) (who : Knowledge) (number : ℕ) (d : Direction) (class : Class) → allows class who.core Cached d ≡ false → Some (Breaks Separate number) ≡ cached_breach map who (memory_target (allows class who.core Cached d)) number
line_separate map who number d class a = sym (ap (λ b. cached_breach map who (memory_target b) number) a)

none_at : (p : Place) (class : Class) (core : ℕ) (width : Width) (d : Direction) (t : Target) → (p ≡ Memory → ⊥) → target_at p class core width Cached d ≡ Ok t → ⊥
none_at Memory class core width d t n h = n refl
none_at (Device part offset) class core Byte d t n h = absurd (cc)
none_at (Device part offset) class core Half d t n h = absurd (cc)
none_at (Device part offset) class core Word d t n h = absurd (cc)
none_at Nothing class core width d t n h = absurd (cc)

pub none_reached : (map : AddressMap) (core address : ℕ) (width : Width) (d : Direction) (t : Target) → (place map (without_bypass address) ≡ Memory → ⊥) → data_target map core address width Cached d ≡ Ok t → ⊥
unfolding data_target
none_reached map core address width d t n h = none_at (place map (without_bypass address)) (class_of map (line address)) core width d t n h

-- ---- what the parts of the judge say is what the rules say

pub judged_cached : (b : Board) (map : AddressMap) (who : Knowledge) (access : Access) (address : ℕ) (store : Bool) (width : Width) (o : Option Broken) → access ≡ accesses.Cached address store → (breach b map who access width ≡ Some Strays → ⊥) → o ≡ broken_at address (cached_breach map who (data_target map who.core address Word Cached (direction store)) (line address)) → o ≡ broken_at (address_of access) (breach b map who access width)
judged_cached b map who access address store width o e n h =
    subst (λ a. (breach b map who a width ≡ Some Strays → ⊥) → o ≡ broken_at (address_of a) (breach b map who a width)) (sym e)
    (λ m. h ∙ ap (λ x. broken_at address x) (sym (cached_word b map who address store width m))) n

pub judged_bypass : (b : Board) (map : AddressMap) (who : Knowledge) (access : Access) (address : ℕ) (store : Bool) (value : ℕ) (width : Width) (o : Option Broken) → access ≡ accesses.Bypass address store value → (breach b map who access width ≡ Some Strays → ⊥) → o ≡ broken_at address (bypass_breach b map who (data_target map who.core address Word Bypassing (direction store)) store value (line address)) → o ≡ broken_at (address_of access) (breach b map who access width)
judged_bypass b map who access address store value width o e n h =
    subst (λ a. (breach b map who a width ≡ Some Strays → ⊥) → o ≡ broken_at (address_of a) (breach b map who a width)) (sym e)
    (λ m. h ∙ ap (λ x. broken_at address x) (sym (bypass_word b map who address store value width m))) n

pub cached_is : (b : Board) (map : AddressMap) (who : Knowledge) (address : ℕ) (store : Bool) (width : Width) → breach b map who (accesses.Cached address store) width ≡ cached_breach map who (data_target map who.core address width Cached (direction store)) (line address)
unfolding breach
cached_is b map who address store width = refl

fetched : (b : Board) (map : AddressMap) (who : Knowledge) (address : ℕ) (width : Width) → breach b map who (accesses.Fetch address) width ≡ option_map (λ wrong. violation wrong (line address)) (fetch_violation map address)
unfolding breach
fetched b map who address width = refl

operated : (b : Board) (map : AddressMap) (who : Knowledge) (op : DataOp) (address : ℕ) (width : Width) → breach b map who (accesses.Op op address) width ≡ op_breach who op address
unfolding breach
operated b map who op address width = refl

pub judged_fetch : (b : Board) (map : AddressMap) (who : Knowledge) (access : Access) (address : ℕ) (width : Width) (o : Option Broken) → access ≡ accesses.Fetch address → o ≡ broken_at address (option_map (λ wrong. violation wrong (line address)) (fetch_violation map address)) → o ≡ broken_at (address_of access) (breach b map who access width)
judged_fetch b map who access address width o e h =
    subst (λ a. o ≡ broken_at (address_of a) (breach b map who a width)) (sym e) (h ∙ ap (λ x. broken_at address x) (sym (fetched b map who address width)))

pub judged_op : (b : Board) (map : AddressMap) (who : Knowledge) (access : Access) (op : DataOp) (address : ℕ) (width : Width) (o : Option Broken) → access ≡ accesses.Op op address → o ≡ broken_at address (op_breach who op address) → o ≡ broken_at (address_of access) (breach b map who access width)
judged_op b map who access op address width o e h =
    subst (λ a. o ≡ broken_at (address_of a) (breach b map who a width)) (sym e) (h ∙ ap (λ x. broken_at address x) (sym (operated b map who op address width)))

-- ---- a breach depends on the Pointer registers of the core's own mailboxes alone

abbrev with_pointers : Knowledge → (ℕ → ℕ) → Knowledge
with_pointers who p = record { core = who.core; cpuid = who.cpuid; sets = who.sets; owns = who.owns; pointer = p; past = who.past }

abbrev SamePointers : Board → Knowledge → (ℕ → ℕ) → (ℕ → ℕ) → Type 0
SamePointers b who p q = (index : ℕ) (row : MailboxRow) → slice_get b.mailbox index ≡ Some row → nat_eq row.sender who.core ≡ true → p index ≡ q index

same_posts : (b : Board) (map : AddressMap) (who : Knowledge) (p q : ℕ → ℕ) (mailbox : ℕ) (post : Bool) (number : ℕ) (mine : Bool) → (mine ≡ true → p mailbox ≡ q mailbox) → cond mine (cond post (post_breach b map (with_pointers who p) mailbox (passed_region (class_of map (line (p mailbox)))) number) None) (Some (Breaks Lock number)) ≡ cond mine (cond post (post_breach b map (with_pointers who q) mailbox (passed_region (class_of map (line (q mailbox)))) number) None) (Some (Breaks Lock number))
same_posts b map who p q mailbox post number true h =
    ap (λ (x : ℕ). cond post (post_breach b map who mailbox (passed_region (class_of map (line x))) number) None) (h refl)
same_posts b map who p q mailbox post number false h = refl

same_side : (b : Board) (map : AddressMap) (who : Knowledge) (p q : ℕ → ℕ) (mailbox : ℕ) (row : MailboxRow) (offset : ℕ) (store : Bool) (number : ℕ) (below : Bool) → nat_lt offset 4 ≡ below → (nat_eq row.sender who.core ≡ true → p mailbox ≡ q mailbox) → side_breach b map (with_pointers who p) mailbox row offset store number ≡ side_breach b map (with_pointers who q) mailbox row offset store number
same_side b map who p q mailbox row offset store number true e h = rw e (same_posts b map who p q mailbox (is_post offset store) number (nat_eq row.sender who.core) h)
same_side b map who p q mailbox row offset store number false e h = rw e refl

same_mailbox : (b : Board) (map : AddressMap) (who : Knowledge) (p q : ℕ → ℕ) → SamePointers b who p q → (mailbox : ℕ) (o : Option MailboxRow) → slice_get b.mailbox mailbox ≡ o → (offset : ℕ) (store : Bool) (number : ℕ) → mailbox_breach b map (with_pointers who p) mailbox o offset store number ≡ mailbox_breach b map (with_pointers who q) mailbox o offset store number
same_mailbox b map who p q h mailbox None e offset store number = refl
same_mailbox b map who p q h mailbox (Some row) e offset store number = same_side b map who p q mailbox row offset store number (nat_lt offset 4) refl (λ s. h mailbox row e s)

same_device : (b : Board) (map : AddressMap) (who : Knowledge) (p q : ℕ → ℕ) → SamePointers b who p q → (kind : PartKind) (index offset : ℕ) (store : Bool) (value number : ℕ) → device_breach b map (with_pointers who p) kind index offset store value number ≡ device_breach b map (with_pointers who q) kind index offset store value number
same_device b map who p q h kinds.Top index offset store value number = refl
same_device b map who p q h kinds.Memory index offset store value number = refl
same_device b map who p q h kinds.Core index offset store value number = refl
same_device b map who p q h kinds.Mutex index offset store value number = refl
same_device b map who p q h kinds.Mailbox index offset store value number = same_mailbox b map who p q h index (slice_get b.mailbox index) refl offset store number
same_device b map who p q h kinds.Timer index offset store value number = refl
same_device b map who p q h kinds.Uart index offset store value number = refl
same_device b map who p q h kinds.Region index offset store value number = refl
same_device b map who p q h kinds.Dump index offset store value number = refl
same_device b map who p q h kinds.Script index offset store value number = refl

same_bypass : (b : Board) (map : AddressMap) (who : Knowledge) (p q : ℕ → ℕ) → SamePointers b who p q → (t : Result Target Violation) (store : Bool) (value number : ℕ) → bypass_breach b map (with_pointers who p) t store value number ≡ bypass_breach b map (with_pointers who q) t store value number
same_bypass b map who p q h (Err wrong) store value number = refl
same_bypass b map who p q h (Ok targets.Memory) store value number = refl
same_bypass b map who p q h (Ok (targets.Device part offset)) store value number = same_device b map who p q h part.kind part.index offset store value number

same_pointers : (b : Board) (map : AddressMap) (who : Knowledge) (p q : ℕ → ℕ) → SamePointers b who p q → (access : Access) (width : Width) → breach b map (with_pointers who p) access width ≡ breach b map (with_pointers who q) access width
unfolding breach
same_pointers b map who p q h (accesses.Cached address store) width = refl
same_pointers b map who p q h (accesses.Bypass address store value) width = same_bypass b map who p q h (data_target map who.core address width Bypassing (direction store)) store value (line address)
same_pointers b map who p q h (accesses.Fetch address) width = refl
same_pointers b map who p q h (accesses.Op op address) width = refl

-- what the watch knows decides as what the book says
pub same_breach : (b : Board) (map : AddressMap) (w : Watched) (book : Book) (past : List Past) → StandsFor b map w.core w book past → (access : Access) (width : Width) → breach w.board map (known w past) access width ≡ breach b map (knowledge b book w.core past) access width
same_breach b map w book past h access width =
    let f : Guard → Bool = λ guard. get_or w.owned (slot_of guard) false in
    let owns : f ≡ owned_by b book w.core = fun_ext (λ guard. h.owned guard) in
    ap (λ x. breach x map (known w past) access width) h.board
    ∙ ap (λ x. breach b map (record { core = w.core; cpuid = x; sets = length w.table.cleaned; owns = λ guard. get_or w.owned (slot_of guard) false; pointer = λ index. get_or w.pointers index 0; past = past }) access width) h.cpuid
    ∙ ap (λ x. breach b map (record { core = w.core; cpuid = cpuid_of b w.core; sets = x; owns = λ guard. get_or w.owned (slot_of guard) false; pointer = λ index. get_or w.pointers index 0; past = past }) access width) h.sets
    ∙ ap (λ x. breach b map (record { core = w.core; cpuid = cpuid_of b w.core; sets = sets_of b w.core; owns = x; pointer = λ index. get_or w.pointers index 0; past = past }) access width) owns
    ∙ same_pointers b map (knowledge b book w.core past) (λ index. get_or w.pointers index 0) (pointer_of book) h.pointers access width

pub touch_judged : (b : Board) (map : AddressMap) (w : Watched) (book : Book) (past : List Past) → StandsFor b map w.core w book past → (address : ℕ) (store : Bool) (width : Width) (r : Option Breach) → r ≡ cached_breach map (known w past) (data_target map w.core address width Cached (direction store)) (line address) → r ≡ breach b map (knowledge b book w.core past) (accesses.Cached address store) width
touch_judged b map w book past h address store width r e =
    e ∙ sym (cached_is w.board map (known w past) address store width) ∙ same_breach b map w book past h (accesses.Cached address store) width
