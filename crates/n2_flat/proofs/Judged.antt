-- From what a watch answers to what a core does.
use Rattle.std.proofs.Common.{◌≡◌, ℕ, Bool, List, Option, Some, None, refl, sym, ap, subst}
use Rattle.n2_word.specs.declared.Width.{Width}
use Rattle.n2_exec.specs.declared.registers.Regs.{Regs}
use Rattle.n2_parts.specs.declared.board.Board.{Board}
use Rattle.n2_parts.specs.declared.stops.Stop.{Stop}
use Rattle.n2_board.specs.AddressMap.{AddressMap}
use Rattle.n2_watch.specs.declared.past.Past.{Past}
use Rattle.n2_watch.specs.declared.access.Access.{Access}
use Rattle.n2_watch.specs.declared.access.Access.TheVariants.{Cached}
use Rattle.n2_watch.specs.declared.access.Broken.{Broken}
use Rattle.n2_watch.specs.Discipline.{Breach, Strays, Breaks, breach}
use Rattle.n2_watch.specs.Book.{Book, knowledge}
use Rattle.n2_watch.specs.Watched.{Watched, StandsFor, broken_at, address_of}
use Rattle.n2_watch.specs.World.{World}
use Rattle.n2_front.specs.Front.{Front, stopped}
use Rattle.n2_front.specs.Tasks.{Task, task_address, stop_for}
use Rattle.n2_front.specs.Retire.{acted, who, done, judged}
use Rattle.n2_flat.specs.State.{CoreState, stop_of}
use Rattle.n2_flat.proofs.Noted.{core_with}

pub at_core : (b : Board) (map : AddressMap) (k : ℕ) (w : Watched) (book : Book) (past : List Past) (access : Access) (width : Width) (o : Option Broken) → (StandsFor b map w.core w book past → (breach b map (knowledge b book w.core past) access width ≡ Some Strays → ⊥) → o ≡ broken_at (address_of access) (breach b map (knowledge b book w.core past) access width)) → StandsFor b map k w book past → (breach b map (knowledge b book k past) access width ≡ Some Strays → ⊥) → o ≡ broken_at (address_of access) (breach b map (knowledge b book k past) access width)
at_core b map k w book past access width o f h =
    subst (λ (c : ℕ). StandsFor b map c w book past → (breach b map (knowledge b book c past) access width ≡ Some Strays → ⊥) → o ≡ broken_at (address_of access) (breach b map (knowledge b book c past) access width)) h.core_is f h

-- what a core's stop is for a load or store through the cache, where the core is k and its watch stands
abbrev pub IsTouchStop : Board → AddressMap → ℕ → Book → ℕ → Bool → Width → ℕ → Option Stop → CoreState → Type 0
IsTouchStop b map k book address store width word stop c =
    StandsFor b map k c.watch book c.front.past → stop ≡ stop_of c.front.regs.pc word address (breach b map (who b k c.front book) (Cached address store) width)

-- the breach that a watch tells is the core's
pub touch_stop : (b : Board) (map : AddressMap) (k : ℕ) (book : Book) (address : ℕ) (store : Bool) (width : Width) (word : ℕ) (regs : Regs) (stop : Option Stop) (past : List Past) (w : Watched) (told : Option Breach) → (StandsFor b map w.core w book past → told ≡ breach b map (knowledge b book w.core past) (Cached address store) width) → IsTouchStop b map k book address store width word (stop_of regs.pc word address told) (core_with regs stop past w)
touch_stop b map k book address store width word regs stop past w told f h =
    ap (λ (o : Option Breach). stop_of regs.pc word address o)
    (subst (λ (c : ℕ). StandsFor b map c w book past → told ≡ breach b map (knowledge b book c past) (Cached address store) width) h.core_is f h)

pub some_stop : (pc word address : ℕ) (o : Option Breach) (broken : Broken) → (o ≡ Some Strays → ⊥) → Some broken ≡ broken_at address o → Some (stop_for (Breaks broken.kind broken.line) pc word broken.address) ≡ stop_of pc word address o
some_stop pc word address None broken n e = absurd (cc)
some_stop pc word address (Some Strays) broken n e = absurd (n refl)
some_stop pc word address (Some (Breaks kind number)) broken n e =
    let same : broken ≡ record { kind = kind; address = address; line = number } = cc in
    ap (λ (r : Broken). Some (stop_for (Breaks r.kind r.line) pc word r.address)) same

pub no_stop : (pc word address : ℕ) (o : Option Breach) → (o ≡ Some Strays → ⊥) → ◌≡◌ {A = Option Broken} None (broken_at address o) → ◌≡◌ {A = Option Stop} None (stop_of pc word address o)
no_stop pc word address None n e = refl
no_stop pc word address (Some Strays) n e = absurd (n refl)
no_stop pc word address (Some (Breaks kind number)) n e = absurd (cc)

pub is_unbroken : (pc word address : ℕ) (o : Option Breach) → ◌≡◌ {A = Option Stop} None (stop_of pc word address o) → o ≡ None
is_unbroken pc word address None e = refl
is_unbroken pc word address (Some why) e = absurd (cc)

-- ---- a task that was judged
pub judged_done : (b : Board) (map : AddressMap) (k : ℕ) (f : Front) (w : World) (word : ℕ) (task : Task) (o : Option Breach) → o ≡ None → judged b map k f w word task o ≡ done b map k f w task
judged_done b map k f w word task o e = ap (λ x. judged b map k f w word task x) e

pub judged_stop : (b : Board) (map : AddressMap) (k : ℕ) (f : Front) (w : World) (word : ℕ) (task : Task) (o : Option Breach) (stop : Stop) → Some stop ≡ stop_of f.regs.pc word (task_address task) o → judged b map k f w word task o ≡ acted (stopped f stop) w
judged_stop b map k f w word task None stop e = absurd (cc)
judged_stop b map k f w word task (Some why) stop e =
    let same : stop ≡ stop_for why f.regs.pc word (task_address task) = cc in
    ap (λ (s : Stop). acted (stopped f s) w) (sym same)
