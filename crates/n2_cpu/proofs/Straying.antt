-- Where an access strays, and how a judgement stops a core.
use Rattle.std.proofs.Common.{◌≡◌, ℕ, ◌/◌, ◌%◌, ◌^◌, Bool, true, false, nat_lt, ◌==◌, ◌&&◌, if◌then◌else◌, List, Option, Some, None, Result, Ok, Err, option_map, slice_get, refl, ap, sym, subst, ◌∙◌}
use Rattle.n2_word.specs.declared.Width.{Width}
use Rattle.n2_word.specs.Lines.{line}
use Rattle.n2_insn.specs.declared.DataOp.{DataOp}
use Rattle.n2_insn.specs.declared.DataOp.TheVariants.{Initd, Initda, Flushd, Flushda}
use Rattle.n2_exec.specs.declared.Asked.{Asked}
use Rattle.n2_parts.specs.declared.board.Board.{Board}
use Rattle.n2_parts.specs.declared.board.MailboxRow.{MailboxRow}
use Rattle.n2_parts.specs.declared.board.PartKind.{PartKind}
use Rattle.n2_parts.specs.declared.board.PartKind.TheVariants as kinds
use Rattle.n2_parts.specs.declared.stops.Stop.{Stop}
use Rattle.n2_parts.specs.declared.stops.Stop.TheVariants as stops
use Rattle.n2_parts.specs.declared.stops.Kind.TheVariants.{Flush, Lock}
use Rattle.n2_board.specs.declared.access.Target.{Target}
use Rattle.n2_board.specs.declared.access.Target.TheVariants as targets
use Rattle.n2_board.specs.declared.access.Violation.{Violation}
use Rattle.n2_board.specs.declared.access.Violation.TheVariants.{Stray, Separate}
use Rattle.n2_board.specs.declared.access.Route.TheVariants as routes
use Rattle.n2_board.specs.declared.guards.Guard.TheVariants as guard_kinds
use Rattle.n2_board.specs.AddressMap.{AddressMap, class_of}
use Rattle.n2_board.specs.Access.{data_target}
use Rattle.n2_board.specs.Guards.{passed_region}
use Rattle.n2_watch.specs.declared.access.Access.{Access}
use Rattle.n2_watch.specs.declared.access.Access.TheVariants.{Cached, Bypass, Op}
use Rattle.n2_watch.specs.declared.access.Broken.{Broken}
use Rattle.n2_watch.specs.declared.access.Judged.{Judged}
use Rattle.n2_watch.specs.declared.access.Judged.TheVariants as judgements
use Rattle.n2_watch.specs.declared.past.Past.{Past}
use Rattle.n2_watch.specs.Judged.{breach_of, IsRefusedAt}
use Rattle.n2_watch.specs.Book.{Book, knowledge}
use Rattle.n2_watch.specs.Past.{lowest, dirty, guards}
use Rattle.n2_watch.specs.Discipline.{Knowledge, Breach, Strays, Breaks, bypass_breach, op_breach, mutex_breach, post_breach, mailbox_breach, device_breach, lists, is_post, direction, breach}
use Rattle.n2_watch.specs.Watched.{Watched, StandsFor, broken_at}
use Rattle.n2_front.specs.Tasks.{Task, task_of, task_breach, task_address, stop_for}
use Rattle.n2_cpu.specs.Judged.{is_stray, is_cut}

-- ---- no other rule strays
either : (t : Bool) (x y : Option Breach) → is_stray x ≡ false → is_stray y ≡ false → is_stray (if t then x else y) ≡ false
either true x y e f = e
either false x y e f = f

flushes : (o : Option ℕ) → is_stray (option_map (λ number. Breaks Flush number) o) ≡ false
flushes None = refl
flushes (Some number) = refl

both : (s t : Bool) (o : Option ℕ) (number : ℕ) → is_stray (if s then (if t then option_map (λ dirtied. Breaks Flush dirtied) o else None) else Some (Breaks Lock number)) ≡ false
both s t o number = either s _ (Some (Breaks Lock number)) (either t _ None (flushes o) refl) refl

mutex_not : (map : AddressMap) (who : Knowledge) (mutex value number : ℕ) → is_stray (mutex_breach map who mutex value number) ≡ false
mutex_not map who mutex value number =
    both (value / 2 ^ 16 == who.cpuid) (value % 2 ^ 16 == 0 && who.owns (guard_kinds.Mutex mutex)) (lowest (λ dirtied. dirty who.sets who.past dirtied && guards map (guard_kinds.Mutex mutex) dirtied) who.past) number

post_not : (b : Board) (map : AddressMap) (who : Knowledge) (mailbox : ℕ) (region : Option ℕ) (number : ℕ) → is_stray (post_breach b map who mailbox region number) ≡ false
post_not b map who mailbox None number = refl
post_not b map who mailbox (Some region) number = either (lists b region mailbox) _ _ (either (who.owns (guard_kinds.Passed region)) _ _ (flushes _) refl) refl

mailbox_not : (b : Board) (map : AddressMap) (who : Knowledge) (mailbox : ℕ) (row : Option MailboxRow) (offset : ℕ) (store : Bool) (number : ℕ) → is_stray (mailbox_breach b map who mailbox row offset store number) ≡ false
mailbox_not b map who mailbox None offset store number = refl
mailbox_not b map who mailbox (Some row) offset store number =
    either (nat_lt offset 4) _ _
    (either (row.sender == who.core) _ _ (either (is_post offset store) _ _ (post_not b map who mailbox (passed_region (class_of map (line (who.pointer mailbox)))) number) refl) refl)
    (either (row.receiver == who.core) _ _ refl refl)

device_not : (b : Board) (map : AddressMap) (who : Knowledge) (kind : PartKind) (index offset : ℕ) (store : Bool) (value number : ℕ) → is_stray (device_breach b map who kind index offset store value number) ≡ false
device_not b map who kinds.Mutex index offset store value number = either (offset == 0 && store) _ _ (mutex_not map who index value number) refl
device_not b map who kinds.Mailbox index offset store value number = mailbox_not b map who index (slice_get b.mailbox index) offset store number
device_not b map who _ index offset store value number = refl

bypass_cut : (b : Board) (map : AddressMap) (who : Knowledge) (r : Result Target Violation) (store : Bool) (value number : ℕ) → is_cut r ≡ is_stray (bypass_breach b map who r store value number)
bypass_cut b map who (Ok targets.Memory) store value number = refl
bypass_cut b map who (Ok (targets.Device part offset)) store value number = sym (device_not b map who part.kind part.index offset store value number)
bypass_cut b map who (Err Stray) store value number = refl
bypass_cut b map who (Err Separate) store value number = refl

op_not : (who : Knowledge) (op : DataOp) (address : ℕ) → false ≡ is_stray (op_breach who op address)
op_not who Initd address = sym (flushes _)
op_not who Initda address = sym (flushes _)
op_not who Flushd address = refl
op_not who Flushda address = refl

-- ---- by the access
module _ (b : Board) (map : AddressMap) (who : Knowledge) (access : Access) (width : Width) (core : ℕ) (same : who.core ≡ core) (r : Bool) where
  pub bypass_strays : (address : ℕ) (store : Bool) (value : ℕ) → access ≡ Bypass address store value → r ≡ is_cut (data_target map core address width routes.Bypassing (direction store)) → r ≡ is_stray (breach b map who access width)
  unfolding breach
  bypass_strays address store value e h = rw e (h ∙ ap (λ (k : ℕ). is_cut (data_target map k address width routes.Bypassing (direction store))) (sym same) ∙ bypass_cut b map who (data_target map who.core address width routes.Bypassing (direction store)) store value (line address))

  pub op_strays : (op : DataOp) (address : ℕ) → access ≡ Op op address → r ≡ false → r ≡ is_stray (breach b map who access width)
  unfolding breach
  op_strays op address e h = rw e (h ∙ op_not who op address)

-- ---- the stop for what a judge says
abbrev pub refused_at : ℕ → ℕ → Option Broken → Option Stop
refused_at pc word o = option_map (λ (x : Broken). stop_for (Breaks x.kind x.line) pc word x.address) o

refused_by : (pc word address : ℕ) (x : Option Breach) → (x ≡ Some Strays → ⊥) → refused_at pc word (broken_at address x) ≡ option_map (λ why. stop_for why pc word address) x
refused_by pc word address None n = refl
refused_by pc word address (Some Strays) n = absurd (n refl)
refused_by pc word address (Some (Breaks kind number)) n = refl

pub refused_as : (pc word address : ℕ) (o : Option Broken) (x : Option Breach) (r : Option Stop) → r ≡ refused_at pc word o → (x ≡ Some Strays → ⊥) → o ≡ broken_at address x → r ≡ option_map (λ why. stop_for why pc word address) x
refused_as pc word address o x r e n h = e ∙ ap (λ (y : Option Broken). refused_at pc word y) h ∙ refused_by pc word address x n

pub not_stray : (x : Option Breach) → false ≡ is_stray x → x ≡ Some Strays → ⊥
not_stray x e h = let z : ◌≡◌ {A = Bool} false true = e ∙ ap (λ (y : Option Breach). is_stray y) h in absurd (cc)

-- an access that strays stops the core as that
pub stray_stops : (x : Option Breach) (pc word address given : ℕ) → true ≡ is_stray x → address ≡ given → Some (stops.Stray address) ≡ option_map (λ why. stop_for why pc word given) x
stray_stops None pc word address given h e = absurd (cc)
stray_stops (Some Strays) pc word address given h e = ap (λ (n : ℕ). Some (stops.Stray n)) e
stray_stops (Some (Breaks kind number)) pc word address given h e = absurd (cc)

-- ---- the stop for what is said of a load or store through the cache
abbrev pub touch_stop : ℕ → ℕ → ℕ → Judged → Option Stop
touch_stop pc word address (judgements.Passed at) = None
touch_stop pc word address (judgements.Refused broken) = Some (stop_for (Breaks broken.kind broken.line) pc word broken.address)
touch_stop pc word address judgements.Stray = Some (stops.Stray address)

touch_said : (pc word address : ℕ) (j : Judged) → IsRefusedAt address j → touch_stop pc word address j ≡ option_map (λ why. stop_for why pc word address) (breach_of j)
touch_said pc word address (judgements.Passed at) r = refl
touch_said pc word address (judgements.Refused broken) r = ap (λ (n : ℕ). Some (stop_for (Breaks broken.kind broken.line) pc word n)) r
touch_said pc word address judgements.Stray r = refl

module _ (b : Board) (map : AddressMap) (watch : Watched) (book : Book) (core : ℕ) (past : List Past) (address : ℕ) (store : Bool) (width : Width) where
  abbrev breach_at : ℕ → Option Breach
  breach_at k = breach b map (knowledge b book k past) (Cached address store) width

  pub touch_stops : (pc word : ℕ) (j : Judged) → IsRefusedAt address j → (StandsFor b map watch.core watch book past → breach_of j ≡ breach_at watch.core) → StandsFor b map core watch book past → touch_stop pc word address j ≡ option_map (λ why. stop_for why pc word address) (breach_at core)
  touch_stops pc word j r judged h =
      subst (λ (k : ℕ). StandsFor b map k watch book past → touch_stop pc word address j ≡ option_map (λ why. stop_for why pc word address) (breach_at k))
      h.core_is (λ g. touch_said pc word address j r ∙ ap (λ (x : Option Breach). option_map (λ why. stop_for why pc word address) x) (judged g)) h

-- ---- what an instruction leaves to do
abbrev stops_at : Board → AddressMap → Knowledge → ℕ → ℕ → Task → Option Stop
stops_at b map who pc word task = option_map (λ why. stop_for why pc word (task_address task)) (task_breach b map who task)

pub asked_stops : (b : Board) (map : AddressMap) (who : Knowledge) (pc word : ℕ) (what : Asked) (task : Task) (r : Option Stop) → task_of what ≡ task → r ≡ stops_at b map who pc word task → r ≡ stops_at b map who pc word (task_of what)
asked_stops b map who pc word what task r e h = subst (λ (t : Task). r ≡ stops_at b map who pc word t) (sym e) h
