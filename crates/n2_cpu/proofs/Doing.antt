-- What a core does, by what it is about to do.
use Rattle.std.proofs.Common.{◌≡◌, ℕ, Bool, true, false, if◌then◌else◌, List, Option, Some, None, refl, sym, subst}
use Rattle.n2_word.specs.declared.Width.{Width}
use Rattle.n2_word.specs.Lines.{line, bypasses}
use Rattle.n2_insn.specs.declared.DataOp.{DataOp}
use Rattle.n2_insn.specs.declared.DataOp.TheVariants.{Initd, Initda, Flushd, Flushda}
use Rattle.n2_exec.specs.declared.Asked.{Asked}
use Rattle.n2_exec.specs.declared.Asked.TheVariants as asked
use Rattle.n2_exec.specs.Registers.{raised}
use Rattle.n2_parts.specs.declared.board.Board.{Board}
use Rattle.n2_parts.specs.declared.stops.Stop.TheVariants.{Broke}
use Rattle.n2_parts.specs.declared.stops.Act.{Act}
use Rattle.n2_parts.specs.declared.stops.Act.TheVariants.{Retire}
use Rattle.n2_parts.specs.declared.stops.Act.TheVariants as acts
use Rattle.n2_board.specs.declared.access.Route.{Route}
use Rattle.n2_board.specs.declared.access.Route.TheVariants as routes
use Rattle.n2_board.specs.AddressMap.{AddressMap}
use Rattle.n2_board.specs.Access.{route_of}
use Rattle.n2_bus.specs.declared.request.Request.{Request}
use Rattle.n2_bus.specs.declared.request.Request.TheVariants.{FillCode, FillData, WriteBack, Sample, Read, Write, Tick, Receive, Drain}
use Rattle.n2_bus.specs.declared.request.Reply.{Reply}
use Rattle.n2_bus.specs.Transfer.{served}
use Rattle.n2_dcache.specs.declared.Held.{Held}
use Rattle.n2_dcache.specs.Cache.{slot_at, own_set, has_line, filled}
use Rattle.n2_watch.specs.declared.past.Past.{Past}
use Rattle.n2_watch.specs.declared.past.Past.TheVariants.{Clean}
use Rattle.n2_watch.specs.Book.{Book}
use Rattle.n2_watch.specs.World.{World, transferred}
use Rattle.n2_front.specs.Front.{with_regs, sampled, stopped, advanced, noted}
use Rattle.n2_front.specs.Tasks.{Task, task_of}
use Rattle.n2_front.specs.Tasks as tasks
use Rattle.n2_cpu.specs.declared.aim.Aim.{Aim}
use Rattle.n2_cpu.specs.declared.aim.Aim.TheVariants as aims
use Rattle.n2_cpu.specs.declared.state.State.{State}
use Rattle.n2_front.specs.Turn.{Turned, turned, direct, back, filled_or, wants_line, wants_op, wants_task, wants_by, served_by, is_in_way, with_line, emptied, loads, stores, op_dropped, code_dropped, does_task, answered}
use Rattle.n2_cpu.specs.Aims.{intent_of}
use Rattle.n2_cpu.specs.Stands.{IsTurned, core_now}

-- ---- requests that leave the book
abbrev IsQuiet : Option Request → Type 0
IsQuiet None = Unit {0}
IsQuiet (Some (FillCode number)) = Unit {0}
IsQuiet (Some (FillData number)) = Unit {0}
IsQuiet (Some (WriteBack number words)) = Unit {0}
IsQuiet (Some Sample) = Unit {0}
IsQuiet (Some (Read address width)) = ⊥
IsQuiet (Some (Write address width value)) = ⊥
IsQuiet (Some (Tick n)) = ⊥
IsQuiet (Some (Receive uart)) = ⊥
IsQuiet (Some (Drain uart)) = ⊥

stays : (b : Board) (map : AddressMap) (k : ℕ) (w : World) (o : Option Request) → IsQuiet o → (served_by b map k w o).world.book ≡ w.book
unfolding transferred served
stays b map k w None q = refl
stays b map k w (Some (FillCode number)) q = refl
stays b map k w (Some (FillData number)) q = refl
stays b map k w (Some (WriteBack number words)) q = refl
stays b map k w (Some Sample) q = refl
stays b map k w (Some (Read address width)) q = absurd q
stays b map k w (Some (Write address width value)) q = absurd q
stays b map k w (Some (Tick n)) q = absurd q
stays b map k w (Some (Receive uart)) q = absurd q
stays b map k w (Some (Drain uart)) q = absurd q

dirty_quiet : (dirty : Bool) (number : ℕ) (words : List ℕ) → IsQuiet (if dirty then Some (WriteBack number words) else None)
dirty_quiet true number words = tt
dirty_quiet false number words = tt

back_quiet : (o : Option Held) → IsQuiet (back o)
back_quiet None = tt
back_quiet (Some held) = dirty_quiet held.dirty held.line held.words

filled_quiet : (number : ℕ) (o : Option Request) → IsQuiet o → IsQuiet (filled_or number o)
filled_quiet number None q = tt
filled_quiet number (Some request) q = q

unless_quiet : (t : Bool) (o : Option Request) → IsQuiet o → IsQuiet (if t then None else o)
unless_quiet true o q = tt
unless_quiet false o q = q

only_quiet : (t : Bool) (o : Option Request) → IsQuiet o → IsQuiet (if t then o else None)
only_quiet true o q = q
only_quiet false o q = tt

line_quiet : (slots : List (Option Held)) (number : ℕ) → IsQuiet (wants_line slots number)
line_quiet slots number = unless_quiet (has_line slots number) (filled_or number (back (slot_at slots (own_set slots number)))) (filled_quiet number (back (slot_at slots (own_set slots number))) (back_quiet (slot_at slots (own_set slots number))))

op_quiet : (slots : List (Option Held)) (op : DataOp) (address : ℕ) → IsQuiet (wants_op slots op address)
op_quiet slots Initd address = tt
op_quiet slots Initda address = tt
op_quiet slots Flushd address = back_quiet (slot_at slots (own_set slots (line address)))
op_quiet slots Flushda address = only_quiet (has_line slots (line address)) (back (slot_at slots (own_set slots (line address)))) (back_quiet (slot_at slots (own_set slots (line address))))

-- ---- the task of an instruction
by_route : (past : Bool) (r : Route) (x y : Task) → r ≡ (if past then routes.Bypassing else routes.Cached) → r ≡ routes.Cached → (if past then x else y) ≡ y
by_route true r x y e h = absurd (cc)
by_route false r x y e h = refl

by_past : (past : Bool) (r : Route) (x y : Task) → r ≡ (if past then routes.Bypassing else routes.Cached) → r ≡ routes.Bypassing → (if past then x else y) ≡ x
by_past true r x y e h = refl
by_past false r x y e h = absurd (cc)

pub load_task : (what : Asked) (address : ℕ) (width : Width) (signed io : Bool) (to : ℕ) (r : Route) → what ≡ asked.Load address width signed io to → r ≡ route_of address io → r ≡ routes.Cached → task_of what ≡ tasks.Load address width signed to
load_task what address width signed io to r e f h = rw e (by_route (bypasses address io) r (tasks.LoadPast address width signed to) (tasks.Load address width signed to) f h)

pub store_task : (what : Asked) (address : ℕ) (width : Width) (value : ℕ) (io : Bool) (r : Route) → what ≡ asked.Store address width value io → r ≡ route_of address io → r ≡ routes.Cached → task_of what ≡ tasks.Store address width value
store_task what address width value io r e f h = rw e (by_route (bypasses address io) r (tasks.StorePast address width value) (tasks.Store address width value) f h)

pub load_past_task : (what : Asked) (address : ℕ) (width : Width) (signed io : Bool) (to : ℕ) (r : Route) → what ≡ asked.Load address width signed io to → r ≡ route_of address io → r ≡ routes.Bypassing → task_of what ≡ tasks.LoadPast address width signed to
load_past_task what address width signed io to r e f h = rw e (by_past (bypasses address io) r (tasks.LoadPast address width signed to) (tasks.Load address width signed to) f h)

pub store_past_task : (what : Asked) (address : ℕ) (width : Width) (value : ℕ) (io : Bool) (r : Route) → what ≡ asked.Store address width value io → r ≡ route_of address io → r ≡ routes.Bypassing → task_of what ≡ tasks.StorePast address width value
store_past_task what address width value io r e f h = rw e (by_past (bypasses address io) r (tasks.StorePast address width value) (tasks.Store address width value) f h)

-- ---- the core's part of a turn
module _ (b : Board) (map : AddressMap) (w : World) (past : List Past) (s new : State) (act : Option Act) where
  abbrev pub DoesTask : Task → Type 0
  DoesTask task =
      IsTurned b map new act (served_by b map s.clock.number w (wants_task s.dcache task)).world.book
      (does_task b map s.clock.number (core_now s past) (core_now s past).front w (served_by b map s.clock.number w (wants_task s.dcache task)) task)

  abbrev pub Answers : Aim → Type 0
  Answers aim =
      IsTurned b map new act (served_by b map s.clock.number w (wants_by s.dcache (intent_of (core_now s past).front s.regs aim))).world.book
      (answered b map s.clock.number (core_now s past) w (served_by b map s.clock.number w (wants_by s.dcache (intent_of (core_now s past).front s.regs aim))) (intent_of (core_now s past).front s.regs aim))

  in_book : (o : Option Request) (t : Turned) → IsQuiet o → IsTurned b map new act w.book t → IsTurned b map new act (served_by b map s.clock.number w o).world.book t
  in_book o t q h = subst (λ (x : Book). IsTurned b map new act x t) (sym (stays b map s.clock.number w o q)) h

  pub does : (what : Asked) (task : Task) → task_of what ≡ task → DoesTask task → DoesTask (task_of what)
  does what task e h = subst (λ (x : Task). DoesTask x) (sym e) h

  pub does_done : IsTurned b map new act w.book (direct (core_now s past) s.clock.number (core_now s past).front) → DoesTask tasks.Done
  does_done h = h

  pub does_raise : IsTurned b map new act w.book (direct (core_now s past) s.clock.number (with_regs (core_now s past).front (raised s.regs))) → DoesTask tasks.Raise
  does_raise h = h

  pub does_break : IsTurned b map new act w.book (direct (core_now s past) s.clock.number (stopped (core_now s past).front Broke)) → DoesTask tasks.Break
  does_break h = h

  pub does_code : (address : ℕ) → IsTurned b map new act w.book (code_dropped (core_now s past) s.clock.number (core_now s past).front address) → DoesTask (tasks.CodeOp address)
  does_code address h = h

  pub does_op : (op : DataOp) (address : ℕ) → IsTurned b map new act w.book (turned (core_now s past) (noted (advanced (core_now s past).front) (Clean op address)) (op_dropped s.dcache op address) (Some (Retire s.clock.number))) → DoesTask (tasks.LineOp op address)
  does_op op address h = in_book (wants_op s.dcache op address) _ (op_quiet s.dcache op address) h

  pub does_load : (address : ℕ) (width : Width) (signed : Bool) (to : ℕ) (reply : Reply) → reply ≡ (served_by b map s.clock.number w (wants_line s.dcache (line address))).reply
      → IsTurned b map new act w.book (if is_in_way s.dcache (line address) then emptied (core_now s past) (own_set s.dcache (line address)) else loads (core_now s past) s.clock.number (core_now s past).front address width signed to (with_line s.dcache (line address) reply))
      → DoesTask (tasks.Load address width signed to)
  does_load address width signed to reply e h =
      in_book (wants_line s.dcache (line address)) _ (line_quiet s.dcache (line address))
      (subst (λ (r : Reply). IsTurned b map new act w.book (if is_in_way s.dcache (line address) then emptied (core_now s past) (own_set s.dcache (line address)) else loads (core_now s past) s.clock.number (core_now s past).front address width signed to (with_line s.dcache (line address) r))) e h)

  pub does_store : (address : ℕ) (width : Width) (value : ℕ) (reply : Reply) → reply ≡ (served_by b map s.clock.number w (wants_line s.dcache (line address))).reply
      → IsTurned b map new act w.book (if is_in_way s.dcache (line address) then emptied (core_now s past) (own_set s.dcache (line address)) else stores (core_now s past) s.clock.number (core_now s past).front address width value (with_line s.dcache (line address) reply))
      → DoesTask (tasks.Store address width value)
  does_store address width value reply e h =
      in_book (wants_line s.dcache (line address)) _ (line_quiet s.dcache (line address))
      (subst (λ (r : Reply). IsTurned b map new act w.book (if is_in_way s.dcache (line address) then emptied (core_now s past) (own_set s.dcache (line address)) else stores (core_now s past) s.clock.number (core_now s past).front address width value (with_line s.dcache (line address) r))) e h)

  pub answers : (aim is : Aim) → aim ≡ is → Answers is → Answers aim
  answers aim is e h = subst (λ (x : Aim). Answers x) (sym e) h

  pub answers_sample : (reply : Reply) → reply ≡ (served_by b map s.clock.number w (Some Sample)).reply → IsTurned b map new act w.book (turned (core_now s past) (sampled (core_now s past).front reply.lines) s.dcache (Some (acts.Sample s.clock.number))) → Answers aims.Sample
  answers_sample reply e h =
      in_book (Some Sample) _ tt
      (subst (λ (r : Reply). IsTurned b map new act w.book (turned (core_now s past) (sampled (core_now s past).front r.lines) s.dcache (Some (acts.Sample s.clock.number)))) e h)

  pub answers_evict : (set : ℕ) → IsTurned b map new act w.book (emptied (core_now s past) set) → Answers (aims.Evict set)
  answers_evict set h = in_book (back (slot_at s.dcache set)) _ (back_quiet (slot_at s.dcache set)) h

  pub answers_fill : (number : ℕ) (reply : Reply) → reply ≡ (served_by b map s.clock.number w (Some (FillCode number))).reply → IsTurned b map new act w.book (record { front = (core_now s past).front; data_slots = s.dcache; code_slots = filled s.icache number reply.words; act = None }) → Answers (aims.FillCode number)
  answers_fill number reply e h =
      in_book (Some (FillCode number)) _ tt
      (subst (λ (r : Reply). IsTurned b map new act w.book (record { front = (core_now s past).front; data_slots = s.dcache; code_slots = filled s.icache number r.words; act = None })) e h)
