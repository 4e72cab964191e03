-- A turn of a value is the definition's turn.
use Rattle.std.proofs.Common.{◌≡◌, ℕ, ◌+◌, ◌<◌, ◌≤◌, Bool, true, false, nat_lt, if◌then◌else◌, List, length, Option, Some, None, is_some, slice_get, refl, sym, ap, subst, ◌∙◌, arith}
use Rattle.std.specs.Option.{option_or}
use Rattle.n2_exec.specs.declared.registers.Regs.{Regs}
use Rattle.n2_exec.specs.declared.Asked.TheVariants as asked
use Rattle.n2_parts.specs.declared.board.Board.{Board}
use Rattle.n2_parts.specs.declared.board.CoreRow.{CoreRow}
use Rattle.n2_parts.specs.declared.stops.Stop.{Stop}
use Rattle.n2_parts.specs.declared.stops.Stop.TheVariants as stops
use Rattle.n2_parts.specs.declared.stops.Act.{Act}
use Rattle.n2_board.specs.AddressMap.{AddressMap}
use Rattle.n2_bus.specs.declared.request.Request.{Request}
use Rattle.n2_dcache.specs.declared.Held.{Held}
use Rattle.n2_watch.specs.declared.past.Past.{Past}
use Rattle.n2_watch.specs.World.{World, Transferred}
use Rattle.n2_watch.specs.Watched.{Watched, IsGuardOf}
use Rattle.n2_cpu.specs.declared.aim.Aim.{Aim}
use Rattle.n2_cpu.specs.declared.aim.Aim.TheVariants as aims
use Rattle.n2_cpu.specs.declared.state.Clock.{Clock}
use Rattle.n2_cpu.specs.declared.state.State.{State}
use Rattle.n2_front.specs.Core.{Core, Ended, Spent, LogFull, ended_stop, stop_of, ended_after}
use Rattle.n2_front.specs.Turn.{Intent, Turned, CoreTurn, answered, wants_by, wants, intent, served_by, local_after, core_after, turn_of, turn_with, core_turn}
use Rattle.n2_cpu.specs.Aims.{intent_of, Keeps}
use Rattle.n2_cpu.specs.Stands.{HasRoom, IsQuiet, IsSound, IsTurned, IsPart, IsMade, IsNext, StandsFor, core_now, with_registers, counted_stop, counted_local, counted}

-- ---- a running core is the one that its value and its past events make
pub running_parts : (o : Option Stop) (e : Option Ended) → option_or o (ended_stop e) ≡ None → (o ≡ None) × (e ≡ None)
running_parts None None h = (refl, refl)
running_parts None (Some Spent) h = absurd (cc)
running_parts None (Some LogFull) h = absurd (cc)
running_parts (Some stop) e h = absurd (cc)

abbrev core_with : List Past → Regs → Option Stop → List (Option Held) → List (Option Held) → ℕ → ℕ → Option Ended → Core
core_with past regs stop data_slots code_slots turns local ended = record {
  front = record { regs = regs; stop = stop; past = past };
  data_slots = data_slots;
  code_slots = code_slots;
  turns = turns;
  local = local;
  ended = ended;
}

core_is : (c : Core) (s : State) → c.front.regs ≡ s.regs → c.front.stop ≡ s.stop → c.data_slots ≡ s.dcache → c.code_slots ≡ s.icache → c.turns ≡ s.clock.turns → c.local ≡ s.clock.local → c.ended ≡ None → c ≡ core_now s c.front.past
core_is c s r p d i t l e =
    ap (λ (x : Regs). core_with c.front.past x c.front.stop c.data_slots c.code_slots c.turns c.local c.ended) r
    ∙ ap (λ (x : Option Stop). core_with c.front.past s.regs x c.data_slots c.code_slots c.turns c.local c.ended) p
    ∙ ap (λ (x : List (Option Held)). core_with c.front.past s.regs s.stop x c.code_slots c.turns c.local c.ended) d
    ∙ ap (λ (x : List (Option Held)). core_with c.front.past s.regs s.stop s.dcache x c.turns c.local c.ended) i
    ∙ ap (λ (x : ℕ). core_with c.front.past s.regs s.stop s.dcache s.icache x c.local c.ended) t
    ∙ ap (λ (x : ℕ). core_with c.front.past s.regs s.stop s.dcache s.icache s.clock.turns x c.ended) l
    ∙ ap (λ (x : Option Ended). core_with c.front.past s.regs s.stop s.dcache s.icache s.clock.turns s.clock.local x) e

-- ---- registers that changed, changed as the instruction left them
module _ (b : Board) (map : AddressMap) (k : ℕ) (w : World) (past : List Past) (s : State) (r : Regs) (t : Transferred) where
  abbrev answer_with : Aim → Regs → Turned
  answer_with a x = answered b map k (core_now (with_registers s x) past) w t (intent_of (core_now (with_registers s x) past).front r a)

  unchanged : (a : Aim) → r ≡ s.regs → answer_with a s.regs ≡ answer_with a r
  unchanged a e = ap (λ (x : Regs). answer_with a x) (sym e)

  same_answer : (a : Aim) → Keeps a s.regs r → answer_with a s.regs ≡ answer_with a r
  same_answer aims.Sample e = unchanged aims.Sample e
  same_answer (aims.Evict set) e = unchanged (aims.Evict set) e
  same_answer aims.Interrupt e = unchanged aims.Interrupt e
  same_answer (aims.Stop stop) e = unchanged (aims.Stop stop) e
  same_answer (aims.FillCode number) e = unchanged (aims.FillCode number) e
  same_answer (aims.Do asked.Done at) e = refl
  same_answer (aims.Do (asked.Load address width signed io to) at) e = unchanged (aims.Do (asked.Load address width signed io to) at) e
  same_answer (aims.Do (asked.Store address width value io) at) e = unchanged (aims.Do (asked.Store address width value io) at) e
  same_answer (aims.Do (asked.LineOp op address) at) e = unchanged (aims.Do (asked.LineOp op address) at) e
  same_answer (aims.Do (asked.CodeOp address) at) e = unchanged (aims.Do (asked.CodeOp address) at) e
  same_answer (aims.Do (asked.Raise cause) at) e = unchanged (aims.Do (asked.Raise cause) at) e
  same_answer (aims.Do asked.Broke at) e = unchanged (aims.Do asked.Broke at) e

-- ---- what is counted
by_limit : (t : Bool) → (if t then None else Some stops.Spent) ≡ ended_stop (if t then None else Some Spent)
by_limit true = refl
by_limit false = refl

stop_counted : (b : Board) (limit turns : ℕ) (o : Option Stop) → b.turns ≡ limit → counted_stop limit turns o ≡ option_or o (ended_stop (ended_after b turns o))
stop_counted b limit turns None e = ap (λ (n : ℕ). if nat_lt turns n then None else Some stops.Spent) (sym e) ∙ by_limit (nat_lt turns b.turns)
stop_counted b limit turns (Some stop) e = refl

local_counted : (o : Option Request) (local now : ℕ) (transfer : Bool) → now ≡ local → transfer ≡ is_some o → local_after local o ≡ counted_local now transfer
local_counted None local now transfer e f = rw f (ap (λ (n : ℕ). n + 1) (sym e))
local_counted (Some request) local now transfer e f = rw f refl

module _ (b : Board) (map : AddressMap) (s : State) (c : Core) (w : World) (h : StandsFor b map s.clock.number s c w) (o : Option Request) (transfer : Bool) (counts : transfer ≡ is_some o) where
  stands_counted : (mid : State) (act : Option Act) (world : World) (t : Turned) (quiet : ℕ) → mid.clock ≡ s.clock → IsTurned b map mid act world.book t → StandsFor b map s.clock.number (counted mid transfer quiet) (core_after b (core_now s c.front.past) t o) world
  stands_counted mid act world t quiet e m =
      let limit : mid.clock.limit ≡ s.clock.limit = ap (λ (x : Clock). x.limit) e in
      let turns : mid.clock.turns ≡ s.clock.turns = ap (λ (x : Clock). x.turns) e in
      let next : mid.clock.turns + 1 ≡ s.clock.turns + 1 = ap (λ (n : ℕ). n + 1) turns in
      let stop : counted_stop mid.clock.limit (mid.clock.turns + 1) mid.stop ≡ option_or t.front.stop (ended_stop (ended_after b (s.clock.turns + 1) t.front.stop)) =
      ap (λ (n : ℕ). counted_stop n (mid.clock.turns + 1) mid.stop) limit ∙ ap (λ (n : ℕ). counted_stop s.clock.limit n mid.stop) next ∙ ap (λ (x : Option Stop). counted_stop s.clock.limit (s.clock.turns + 1) x) m.stop
      ∙ stop_counted b s.clock.limit (s.clock.turns + 1) t.front.stop h.limit in
      record {
        number = ap (λ (x : Clock). x.number) e;
        within = h.within;
        limit = h.limit ∙ sym limit;
        row = λ row found. (let x = h.row row found in record {
          sample = x.sample ∙ sym (ap (λ (y : Clock). y.sample) e);
          evict = x.evict ∙ sym (ap (λ (y : Clock). y.evict) e);
          turns = sym next;
        });
        local = local_counted o s.clock.local mid.clock.local transfer (ap (λ (x : Clock). x.local) e) counts;
        stop = stop;
        regs = sym m.regs;
        data_slots = sym m.data_slots;
        code_slots = sym m.code_slots;
        holds = record { watch = m.holds.watch; data_lines = m.holds.data_lines; code_lines = m.holds.code_lines };
      }

-- ---- the whole turn
module _ (b : Board) (map : AddressMap) (row : CoreRow) (s : State) (c : Core) (w : World) (h : StandsFor b map s.clock.number s c w) (found : slice_get b.core s.clock.number ≡ Some row) (r : Regs) (a : Aim) (aimed : intent b map s.clock.number row w.book c ≡ intent_of c.front r a) where
  -- what the value's next turn wants is what the definition's does
  pub wants_is : wants b map s.clock.number row w.book c ≡ wants_by s.dcache (intent_of c.front r a)
  wants_is = ap (λ (i : Intent). wants_by c.data_slots i) aimed ∙ ap (λ (x : List (Option Held)). wants_by x (intent_of c.front r a)) h.data_slots

  module _ (running : stop_of c ≡ None) (kept : Keeps a s.regs r) where
    abbrev the_core : Core
    the_core = core_now s c.front.past

    abbrev the_intent : Intent
    the_intent = intent_of the_core.front r a

    abbrev the_request : Option Request
    the_request = wants_by s.dcache the_intent

    abbrev the_transfer : Transferred
    the_transfer = served_by b map s.clock.number w the_request

    abbrev the_answer : Turned
    the_answer = answered b map s.clock.number (core_now (with_registers s r) c.front.past) w the_transfer (intent_of (core_now (with_registers s r) c.front.past).front r a)

    is_core : c ≡ the_core
    is_core =
        let parts = running_parts c.front.stop c.ended running in
        core_is c s h.regs (parts.0 ∙ sym (h.stop ∙ running)) h.data_slots h.code_slots (h.row row found).turns h.local parts.1

    abbrev turn_by : Core → Intent → CoreTurn
    turn_by d i = turn_with b map s.clock.number d w i (wants_by d.data_slots i) (served_by b map s.clock.number w (wants_by d.data_slots i))

    turn_opened : core_turn b map s.clock.number row c w ≡ turn_by c (intent b map s.clock.number row w.book c)
    unfolding core_turn
    turn_opened = refl

    pub turn_is : core_turn b map s.clock.number row c w ≡ turn_of b the_core the_request the_transfer the_answer
    turn_is =
        turn_opened
        ∙ ap (λ (i : Intent). turn_by c i) aimed
        ∙ ap (λ (d : Core). turn_by d (intent_of d.front r a)) is_core
        ∙ ap (λ (t : Turned). turn_of b the_core the_request the_transfer t) (same_answer b map s.clock.number w c.front.past s r the_transfer a kept)

    pub next : (new : State) (act : Option Act) (transfer : Bool) → transfer ≡ is_some the_request → IsMade b map (with_registers s r) new act transfer the_transfer.world.book the_answer → IsNext b map s.clock.number new act (core_turn b map s.clock.number row c w)
    next new act transfer counts m =
        let stands = stands_counted b map s c w h the_request transfer counts m.middle act the_transfer.world the_answer new.clock.quiet m.clock m.turned in
        subst (λ (t : CoreTurn). IsNext b map s.clock.number new act t) (sym turn_is)
        (record { stands = subst (λ (x : State). StandsFor b map s.clock.number x (core_after b the_core the_answer the_request) the_transfer.world) (sym m.counted) stands; act = m.turned.act })

-- ---- what a value keeps by itself
pub has_room : (s : State) → IsSound s → s.stop ≡ None → HasRoom s.watch
has_room s h running = let lt = h.running running in record { clock = omega (arith, h.notes, lt, h.fits); slots = h.slots }

local_left : (local turns : ℕ) (transfer : Bool) → local ≤ turns → counted_local local transfer ≤ turns + 1
local_left local turns true le = omega arith
local_left local turns false le = omega (arith, le)

pub sound_counted : (old mid new : State) (transfer : Bool) → IsSound old → IsPart old mid → new ≡ counted mid transfer new.clock.quiet → IsQuiet new.clock → (new.stop ≡ None → new.clock.quiet + new.clock.turns < new.clock.limit) → IsSound new
sound_counted old mid new transfer h p e quiet end =
    let turns : new.clock.turns ≡ old.clock.turns + 1 = ap (λ (x : State). x.clock.turns) e ∙ ap (λ (x : Clock). x.turns + 1) p.clock in
    let limit : new.clock.limit ≡ old.clock.limit = ap (λ (x : State). x.clock.limit) e ∙ ap (λ (x : Clock). x.limit) p.clock in
    let local : new.clock.local ≡ counted_local old.clock.local transfer = ap (λ (x : State). x.clock.local) e ∙ ap (λ (x : Clock). counted_local x.local transfer) p.clock in
    let left = local_left old.clock.local old.clock.turns transfer h.local in
    let watch : new.watch ≡ mid.watch = ap (λ (x : State). x.watch) e in
    let board : new.watch.board ≡ old.watch.board = ap (λ (x : Watched). x.board) watch ∙ p.board in
    let notes : new.watch.table.clock ≡ mid.watch.table.clock = ap (λ (x : Watched). x.table.clock) watch in
    let slots : length new.watch.table.got ≡ length mid.watch.table.got = ap (λ (x : Watched). length x.table.got) watch in
    record {
      running = end;
      notes = omega (arith, h.notes, p.notes, turns, notes);
      local = omega (arith, local, left, turns);
      quiet = quiet;
      fits = omega (arith, h.fits, limit);
      slots = λ guard g. (let x = h.slots guard (subst (λ (y : Board). IsGuardOf y guard) board g) in omega (arith, x, p.slots, slots));
    }
