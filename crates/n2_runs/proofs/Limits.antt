-- The counts of a journal: how many entries and tails it has, who made each entry, and how many turns it counts.
use Rattle.std.proofs.Common.{◌≡◌, ℕ, zero, suc, ◌<◌, ◌≤◌, ◌+◌, ◌^◌, ◌++◌, Bool, true, false, cond, List, [], ◌∷◌, length, map, slice_get, Option, Some, None, refl, ◌∙◌, arith, subst, length-append}
use Rattle.std.specs.List.{All}
use Rattle.std.proofs.lemmas.Bool.Decides.{nat_tests}
use Rattle.std.proofs.lemmas.List.{length-map}
use Rattle.std.proofs.lemmas.List.Elements.{All-nil, All-cons, All-append, All-weaker}
use Rattle.n2_word.specs.Lines.{line}
use Rattle.n2_insn.specs.declared.DataOp.{DataOp}
use Rattle.n2_insn.specs.declared.DataOp.TheVariants.{Initd, Initda, Flushd, Flushda}
use Rattle.n2_elf.specs.declared.image.Image.{Image}
use Rattle.n2_parts.specs.declared.board.Board.{Board}
use Rattle.n2_parts.specs.declared.board.CoreRow.{CoreRow}
use Rattle.n2_parts.specs.declared.board.DeviceEvent.{DeviceEvent}
use Rattle.n2_parts.specs.declared.board.DeviceEvent.TheVariants as events
use Rattle.n2_parts.specs.Valid.{IsValid}
use Rattle.n2_board.specs.AddressMap.{AddressMap}
use Rattle.n2_dcache.specs.declared.Held.{Held}
use Rattle.n2_dcache.specs.Cache.{slot_at, own_set, has_line}
use Rattle.n2_bus.specs.declared.request.Request.{Request}
use Rattle.n2_bus.specs.declared.request.Request.TheVariants.{FillCode, FillData, WriteBack, Read, Write, Sample, Tick, Receive, Drain}
use Rattle.n2_bus.specs.Transfer.{request_for}
use Rattle.n2_journal.specs.declared.entry.Entry.{Entry}
use Rattle.n2_journal.specs.Journals.{IsActorWithin, HasOrder}
use Rattle.n2_watch.specs.World.{World, transferred}
use Rattle.n2_front.specs.Core.{Core, started_core}
use Rattle.n2_front.specs.Tasks as tasks
use Rattle.n2_front.specs.Turn.{Intent, Samples, Evicts, Interrupts, Stops, FillsCode, Does, intent, back, filled_or, wants_line, wants_op, wants_by, core_turn}
use Rattle.n2_runs.specs.Machine.{Machine, Made, has_room, entry_of, started_cores, start, turn, run}
use Rattle.n2_runs.specs.Recorded.{journal_of, HasCounts}
use Rattle.n2_runs.proofs.Lists.{set_each}
use Rattle.n2_runs.proofs.Sets.{within}
use Rattle.n2_runs.proofs.Begins.{as_many}
use Rattle.n2_runs.proofs.Known.{entered_local}
use Rattle.n2_runs.proofs.Views.{quiet, quiet_count, turn_cases}
use Rattle.n2_runs.proofs.Ahead.{same_some}
use Rattle.n2_runs.proofs.Counted.{count_turn, count_run}
use Rattle.n2_runs.proofs.Bounded.{some_turns, few_turns, few_entries, IsBelow, turned_below, quiet_below, quiet_turned, started_below}

-- ---- what a core asks for is no event
abbrev IsOfCore : Option Request → Type 0
IsOfCore None = Unit {0}
IsOfCore (Some (Tick n)) = ⊥
IsOfCore (Some (Receive uart)) = ⊥
IsOfCore (Some (Drain uart)) = ⊥
IsOfCore (Some request) = Unit {0}

either_core : (x : Bool) (o p : Option Request) → IsOfCore o → IsOfCore p → IsOfCore (cond x o p)
either_core true o p h i = h
either_core false o p h i = i

back_core : (o : Option Held) → IsOfCore (back o)
back_core None = tt
back_core (Some held) = either_core held.dirty (Some (WriteBack held.line held.words)) None tt tt

filled_core : (number : ℕ) (o : Option Request) → IsOfCore o → IsOfCore (filled_or number o)
filled_core number None h = tt
filled_core number (Some request) h = h

missing_core : (slots : List (Option Held)) (number : ℕ) → IsOfCore (wants_line slots number)
missing_core slots number =
    either_core (has_line slots number) None (filled_or number (back (slot_at slots (own_set slots number)))) tt
    (filled_core number (back (slot_at slots (own_set slots number))) (back_core (slot_at slots (own_set slots number))))

op_core : (slots : List (Option Held)) (op : DataOp) (address : ℕ) → IsOfCore (wants_op slots op address)
op_core slots Initd address = tt
op_core slots Initda address = tt
op_core slots Flushd address = back_core (slot_at slots (own_set slots (line address)))
op_core slots Flushda address =
    either_core (has_line slots (line address)) (back (slot_at slots (own_set slots (line address)))) None (back_core (slot_at slots (own_set slots (line address)))) tt

wants_core : (slots : List (Option Held)) (i : Intent) → IsOfCore (wants_by slots i)
wants_core slots Samples = tt
wants_core slots (Evicts set) = back_core (slot_at slots set)
wants_core slots Interrupts = tt
wants_core slots (Stops stop) = tt
wants_core slots (FillsCode number) = tt
wants_core slots (Does f tasks.Done) = tt
wants_core slots (Does f tasks.Raise) = tt
wants_core slots (Does f tasks.Break) = tt
wants_core slots (Does f (tasks.CodeOp a)) = tt
wants_core slots (Does f (tasks.LineOp op a)) = op_core slots op a
wants_core slots (Does f (tasks.Load a width signed to)) = missing_core slots (line a)
wants_core slots (Does f (tasks.Store a width value)) = missing_core slots (line a)
wants_core slots (Does f (tasks.LoadPast a width signed to)) = tt
wants_core slots (Does f (tasks.StorePast a width value)) = tt

core_actor : (cores k local : ℕ) (request : Request) → IsOfCore (Some request) → k < cores → local ≤ 1000000000 → IsActorWithin cores k local request
core_actor cores k local (FillCode l) h lt le = (lt, le)
core_actor cores k local (FillData l) h lt le = (lt, le)
core_actor cores k local (WriteBack l ws) h lt le = (lt, le)
core_actor cores k local (Read a width) h lt le = (lt, le)
core_actor cores k local (Write a width value) h lt le = (lt, le)
core_actor cores k local Sample h lt le = (lt, le)
core_actor cores k local (Tick n) h lt le = absurd h
core_actor cores k local (Receive uart) h lt le = absurd h
core_actor cores k local (Drain uart) h lt le = absurd h

event_actor : (cores : ℕ) (event : DeviceEvent) → IsActorWithin cores cores 0 (request_for event)
event_actor cores (events.Tick n) = (refl, refl)
event_actor cores (events.Receive uart) = (refl, refl)
event_actor cores (events.Drain uart) = (refl, refl)

actor_local : (cores actor local : ℕ) (request : Request) → IsActorWithin cores actor local request → local ≤ 1000000000
actor_local cores actor local (FillCode l) h = h.1
actor_local cores actor local (FillData l) h = h.1
actor_local cores actor local (WriteBack l ws) h = h.1
actor_local cores actor local (Read a width) h = h.1
actor_local cores actor local (Write a width value) h = h.1
actor_local cores actor local Sample h = h.1
actor_local cores actor local (Tick n) h = omega (arith, h.1)
actor_local cores actor local (Receive uart) h = omega (arith, h.1)
actor_local cores actor local (Drain uart) h = omega (arith, h.1)

-- ---- along a run
abbrev IsEntryMade : Board → Entry → Type 0
IsEntryMade b entry = IsActorWithin (length b.core) entry.actor entry.local entry.request

abbrev IsCounted : Board → Core → Type 0
IsCounted b c = IsBelow b.turns c × (c.local ≤ c.turns)

record IsWithin (b : Board) (m : Machine) : Type 0 where
  few : length m.entries ≤ b.journal
  made : All (IsEntryMade b) m.entries
  counted : (k : ℕ) (c : Core) → slice_get m.cores k ≡ Some c → IsCounted b c

one_more : (b : Board) (m : Machine) (entry : Entry) → has_room b m ≡ true → length (m.entries ++ entry ∷ []) ≤ b.journal
one_more b m entry room =
    let lt : length m.entries < b.journal = grind (arith, nat_tests) in
    let n : length (m.entries ++ entry ∷ []) ≡ length m.entries + 1 = length-append m.entries (entry ∷ []) in
    omega arith

more_made : (b : Board) (m : Machine) (entry : Entry) → All (IsEntryMade b) m.entries → IsEntryMade b entry → All (IsEntryMade b) (m.entries ++ entry ∷ [])
more_made b m entry h e = All-append (IsEntryMade b) m.entries (entry ∷ []) h (All-cons (IsEntryMade b) entry [] e (All-nil (IsEntryMade b)))

module _ (b : Board) (map' : AddressMap) (valid : IsValid b) where
  quiet_counted : (k : ℕ) (row : CoreRow) (c : Core) (w : World) → IsCounted b c → c.turns < b.turns → IsCounted b (quiet b map' k row w c)
  quiet_counted k row c w h lt = (quiet_below b map' k row c w lt, omega (arith, h.1, quiet_count b map' k row w c, quiet_turned b map' k row c w))

  turn_within : (m : Machine) → length m.cores ≡ length b.core → (actor : ℕ) → IsWithin b m → IsWithin b (turn b map' m actor).machine
  turn_within m count actor h =
      turn_cases b map' m count actor (λ (n : Made). IsWithin b n.machine)
      (λ o. h)
      (λ row c at q. record {
        few = h.few;
        made = h.made;
        counted = set_each (λ (j : ℕ) (x : Core). IsCounted b x) m.cores actor (quiet b map' actor row m.world c)
            (quiet_counted actor row c m.world (h.counted actor c at.there) ((h.counted actor c at.there).0.1 at.runs)) (λ j x e n. h.counted j x e);
      })
      (λ row c request at e room.
      let t = core_turn b map' actor row c m.world in
      let z = h.counted actor c at.there in
      let entry = entry_of actor c t request in
      record {
        few = one_more b m entry room;
        made = more_made b m entry h.made (core_actor (length b.core) actor c.local request (subst IsOfCore e (wants_core c.data_slots (intent b map' actor row m.world.book c))) (within b.core actor row at.row_is) (omega (arith, z.1, z.0.0, few_turns b valid)));
        counted = set_each (λ (j : ℕ) (x : Core). IsCounted b x) m.cores actor t.core
            (turned_below b map' actor row c m.world (z.0.1 at.runs), omega (arith, entered_local b map' actor row c m.world request e)) (λ j x e n. h.counted j x e);
      })
      (λ event script a e room.
      let entry : Entry = record { actor = length b.core; local = 0; request = request_for event; reply = (transferred b map' (length b.core) m.world (request_for event)).reply } in
      record {
        few = one_more b m entry room;
        made = more_made b m entry h.made (event_actor (length b.core) event);
        counted = h.counted;
      })

  run_within : (order : List ℕ) (m : Machine) → length m.cores ≡ length b.core → IsWithin b m → IsWithin b (run b map' m order)
  unfolding run
  run_within [] m count h = h
  run_within (k ∷ order) m count h = run_within order (turn b map' m k).machine (count_turn b map' m count k) (turn_within m count k h)

started_counted : (b : Board) → IsValid b → (rows : List CoreRow) (images : List Image) (k : ℕ) (c : Core) → slice_get (started_cores rows images) k ≡ Some c → c.local ≤ c.turns
started_counted b valid [] images k c e = absurd (cc)
started_counted b valid (row ∷ rows) [] k c e = absurd (cc)
started_counted b valid (row ∷ rows) (image ∷ images) zero c e = subst (λ (d : Core). d.local ≤ d.turns) (same_some (started_core row image) c e) (omega arith)
started_counted b valid (row ∷ rows) (image ∷ images) (suc k) c e = started_counted b valid rows images k c e

all_locals : (b : Board) (cs : List Core) → ((k : ℕ) (c : Core) → slice_get cs k ≡ Some c → c.local ≤ 1000000000) → All (λ tail. tail ≤ 1000000000) (map (λ (c : Core). c.local) cs)
all_locals b [] h = All-nil (λ tail. tail ≤ 1000000000)
all_locals b (c ∷ cs) h = All-cons (λ tail. tail ≤ 1000000000) c.local (map (λ (c : Core). c.local) cs) (h 0 c refl) (all_locals b cs (λ k d e. h (suc k) d e))

pub counts : (b : Board) (images : List Image) (map' : AddressMap) (order : List ℕ) → IsValid b → length images ≡ length b.core → HasCounts (length b.core) (journal_of (run b map' (start b images) order))
counts b images map' order valid long =
    let s = start b images in
    let m = run b map' s order in
    let count : length s.cores ≡ length b.core = as_many b.core images long in
    let many : length m.cores ≡ length b.core = count_run b map' order s count in
    let w = run_within b map' valid order s count (record {
      few = omega arith;
      made = All-nil (IsEntryMade b);
      counted = λ k c e. (started_below b (some_turns b valid) b.core images k c e, started_counted b valid b.core images k c e);
    }) in
    record {
      entries = w.made;
      few_entries = omega (arith, w.few, few_entries b valid);
      tails_are = length-map m.cores (λ (c : Core). c.local) ∙ many;
      tails = all_locals b m.cores (λ k c e. let z = w.counted k c e in omega (arith, z.1, z.0.0, few_turns b valid));
    }

pub has_order : (b : Board) (images : List Image) (map' : AddressMap) (order : List ℕ) → IsValid b → length images ≡ length b.core → HasOrder (journal_of (run b map' (start b images) order))
has_order b images map' order valid long =
    All-weaker (IsEntryMade b) (λ entry. entry.local + 1 < 2 ^ 64) (λ entry h. let le = actor_local (length b.core) entry.actor entry.local entry.request h in omega arith) (run b map' (start b images) order).entries (counts b images map' order valid long).entries
