-- A turn that a value made is the definition's next turn.
use Rattle.std.proofs.Common.{◌≡◌, ℕ, ◌<◌, Bool, false, List, length, Option, Some, None, is_some, slice_get, refl, sym, ap, subst, ◌∙◌}
use Rattle.n2_exec.specs.declared.registers.Regs.{Regs}
use Rattle.n2_parts.specs.declared.board.Board.{Board}
use Rattle.n2_parts.specs.declared.board.CoreRow.{CoreRow}
use Rattle.n2_parts.specs.declared.stops.Act.{Act}
use Rattle.n2_parts.specs.declared.stops.Stop.{Stop}
use Rattle.n2_board.specs.AddressMap.{AddressMap}
use Rattle.n2_bus.specs.declared.request.Request.{Request}
use Rattle.n2_bus.specs.declared.request.Reply.{Reply}
use Rattle.n2_dcache.specs.declared.Held.{Held}
use Rattle.n2_watch.specs.declared.past.Past.{Past}
use Rattle.n2_watch.specs.Book.{Book}
use Rattle.n2_watch.specs.World.{World}
use Rattle.n2_cpu.specs.declared.aim.Aim.{Aim}
use Rattle.n2_cpu.specs.declared.aim.Aim.TheVariants as aims
use Rattle.n2_cpu.specs.declared.state.State.{State}
use Rattle.n2_cpu.specs.declared.turns.Step.TheVariants.{Made}
use Rattle.n2_front.specs.Front.{Front}
use Rattle.n2_front.specs.Core.{Core, stop_of}
use Rattle.n2_front.specs.Turn.{Intent, answered, wants_by, wants, intent, served_by, CoreTurn, core_turn}
use Rattle.n2_cpu.specs.Aims.{intent_of, Keeps, IsMeant}
use Rattle.n2_cpu.specs.Stands.{Holds, HasRow, IsShared, IsMade, IsNext, IsStepBy, IsStep, StandsFor, core_now, with_registers}
use Rattle.n2_cpu.proofs.Meaning.{intent_meant}
use Rattle.n2_cpu.proofs.Turning.{next}

-- ---- what is wanted and what is known do not ask for the front
same_wants : (slots : List (Option Held)) (f g : Front) (r : Regs) (a : Aim) → wants_by slots (intent_of f r a) ≡ wants_by slots (intent_of g r a)
same_wants slots f g r aims.Sample = refl
same_wants slots f g r (aims.Evict set) = refl
same_wants slots f g r aims.Interrupt = refl
same_wants slots f g r (aims.Stop stop) = refl
same_wants slots f g r (aims.FillCode number) = refl
same_wants slots f g r (aims.Do what at) = refl

same_meaning : (b : Board) (map : AddressMap) (k : ℕ) (book : Book) (past : List Past) (f g : Front) (r : Regs) (a : Aim) → IsMeant b map k book past (intent_of f r a) → IsMeant b map k book past (intent_of g r a)
same_meaning b map k book past f g r aims.Sample m = m
same_meaning b map k book past f g r (aims.Evict set) m = m
same_meaning b map k book past f g r aims.Interrupt m = m
same_meaning b map k book past f g r (aims.Stop stop) m = m
same_meaning b map k book past f g r (aims.FillCode number) m = m
same_meaning b map k book past f g r (aims.Do what at) m = m

module _ (b : Board) (map : AddressMap) (s : State) (w : World) (r : Regs) (a : Aim) (new : State) (act : Option Act) (transfer : Bool) (reply : Reply) (c : Core) where
  abbrev changed : Core
  changed = core_now (with_registers s r) c.front.past

  abbrev its_intent : Intent
  its_intent = intent_of changed.front r a

  abbrev MadeBy : Option Request → Type 0
  MadeBy o = IsMade b map (with_registers s r) new act transfer (served_by b map s.clock.number w o).world.book (answered b map s.clock.number changed w (served_by b map s.clock.number w o) its_intent)

  -- what a turn that was made says
  abbrev pub MadeSo : Type 0
  MadeSo =
      Holds b map (with_registers s r) w.book c.front.past → IsShared b map w → s.clock.number < length b.core → IsMeant b map s.clock.number w.book c.front.past its_intent → reply ≡ (served_by b map s.clock.number w (wants_by s.dcache its_intent)).reply
      → MadeBy (wants_by s.dcache its_intent)

  module _ (row : CoreRow) where
    numbered : StandsFor b map s.clock.number s c w → IsShared b map w → slice_get b.core s.clock.number ≡ Some row → stop_of c ≡ None → intent b map s.clock.number row w.book c ≡ intent_of c.front r a → Keeps a s.regs r
        → (o : Option Request) → wants_by s.dcache (intent_of c.front r a) ≡ o → transfer ≡ is_some o → reply ≡ (served_by b map s.clock.number w o).reply → MadeSo → IsNext b map s.clock.number new act (core_turn b map s.clock.number row c w)
    numbered h shared found running aimed kept o wanted counts replied made =
        let same : wants_by s.dcache its_intent ≡ o = same_wants s.dcache changed.front c.front r a ∙ wanted in
        let first : wants_by s.dcache (intent_of (core_now s c.front.past).front r a) ≡ o = same_wants s.dcache (core_now s c.front.past).front c.front r a ∙ wanted in
        let meant = same_meaning b map s.clock.number w.book c.front.past c.front changed.front r a (subst (λ (i : Intent). IsMeant b map s.clock.number w.book c.front.past i) aimed (intent_meant b map s.clock.number w.book h.holds.watch.map_of row c)) in
        let was = made (record { watch = h.holds.watch; data_lines = h.holds.data_lines; code_lines = h.holds.code_lines }) shared h.within meant (replied ∙ ap (λ (x : Option Request). (served_by b map s.clock.number w x).reply) (sym same)) in
        next b map row s c w h found r a aimed running kept new act transfer (counts ∙ ap (λ (x : Option Request). is_some x) (sym first))
        (subst MadeBy (same ∙ sym first) was)

    -- by the name of the core's number
    abbrev NextAt : ℕ → Type 0
    NextAt k =
        StandsFor b map k s c w → IsShared b map w → slice_get b.core k ≡ Some row → stop_of c ≡ None → (HasRow s.clock row c → intent b map s.clock.number row w.book c ≡ intent_of c.front r a) → Keeps a s.regs r
        → (o : Option Request) → wants_by s.dcache (intent_of c.front r a) ≡ o → transfer ≡ is_some o → reply ≡ (served_by b map k w o).reply → MadeSo → IsNext b map k new act (core_turn b map k row c w)

    pub makes_next : (k : ℕ) → NextAt k
    makes_next k = λ h. subst (λ (x : ℕ). NextAt x) h.number (λ g shared found running aimed kept o wanted counts replied made. numbered g shared found running (aimed (g.row row found)) kept o wanted counts replied made) h

-- ---- a step
steps_with : (b : Board) (map : AddressMap) (k : ℕ) (old new : State) (act : Option Act) (t : CoreTurn) (stop : Option Stop) (wanted : Option Request) → stop ≡ None → wanted ≡ None → IsNext b map k new act t → IsStepBy b map k old new (Made act) t stop wanted
steps_with b map k old new act t stop wanted e f h =
    subst (λ (x : Option Stop). IsStepBy b map k old new (Made act) t x wanted) (sym e)
    (subst (λ (x : Option Request). IsStepBy b map k old new (Made act) t None x) (sym f) (act, refl, h))

pub step_made : (b : Board) (map : AddressMap) (k : ℕ) (row : CoreRow) (old new : State) (act : Option Act) (c : Core) (w : World) → stop_of c ≡ None → wants b map k row w.book c ≡ None → IsNext b map k new act (core_turn b map k row c w) → IsStep b map k row old new (Made act) c w
step_made b map k row old new act c w e f h = steps_with b map k old new act (core_turn b map k row c w) (stop_of c) (wants b map k row w.book c) e f h

-- what is wanted, by the value's aim
pub wanted_by : (b : Board) (map : AddressMap) (k : ℕ) (row : CoreRow) (s : State) (c : Core) (w : World) (r : Regs) (a : Aim) → StandsFor b map k s c w → slice_get b.core k ≡ Some row → (HasRow s.clock row c → intent b map s.clock.number row w.book c ≡ intent_of c.front r a) → wants b map k row w.book c ≡ wants_by s.dcache (intent_of c.front r a)
wanted_by b map k row s c w r a h found aimed =
    ap (λ (x : List (Option Held)). wants_by x (intent b map k row w.book c)) h.data_slots
    ∙ ap (λ (i : Intent). wants_by s.dcache i) (ap (λ (x : ℕ). intent b map x row w.book c) (sym h.number) ∙ aimed (h.row row found))

pub none_of : (o : Option Stop) → is_some o ≡ false → o ≡ None
none_of None e = refl
none_of (Some stop) e = absurd (cc)
