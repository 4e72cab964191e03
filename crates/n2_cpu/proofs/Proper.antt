-- What a core wants of the bus is proper.
use Rattle.std.proofs.Common.{◌≡◌, ℕ, ◌<◌, Bool, true, false, if◌then◌else◌, List, length, Option, Some, None, Result, Ok, Err, IsTrue, slice_get, refl, sym, ap, subst, ◌∙◌}
use Rattle.n2_word.specs.declared.Width.{Width}
use Rattle.n2_word.specs.Words.{is_aligned}
use Rattle.n2_word.specs.Lines.{line, bypasses, without_bypass}
use Rattle.n2_insn.specs.declared.DataOp.{DataOp}
use Rattle.n2_insn.specs.declared.DataOp.TheVariants.{Initd, Initda, Flushd, Flushda}
use Rattle.n2_exec.specs.declared.registers.Regs.{Regs}
use Rattle.n2_exec.specs.declared.Asked.{Asked}
use Rattle.n2_exec.specs.declared.Asked.TheVariants as asked
use Rattle.n2_exec.specs.Outcomes.{IsProper}
use Rattle.n2_parts.specs.declared.board.Board.{Board}
use Rattle.n2_parts.specs.declared.board.CoreRow.{CoreRow}
use Rattle.n2_parts.specs.MemoryLines.{HasLine}
use Rattle.n2_board.specs.declared.access.Route.TheVariants.{Bypassing}
use Rattle.n2_board.specs.declared.access.Target.{Target}
use Rattle.n2_board.specs.declared.access.Violation.{Violation}
use Rattle.n2_board.specs.AddressMap.{AddressMap}
use Rattle.n2_board.specs.Access.{data_target}
use Rattle.n2_bus.specs.declared.request.Request.{Request}
use Rattle.n2_bus.specs.declared.request.Request.TheVariants.{Read, Write, WriteBack, FillCode, FillData, Sample}
use Rattle.n2_bus.specs.Wiring.{wiring_of, proper}
use Rattle.n2_bus.proofs.Passing.{read_passes, write_passes, fills_pass, write_back_passes, sample_passes}
use Rattle.n2_dcache.specs.declared.Held.{Held}
use Rattle.n2_dcache.specs.Cache.{slot_at, own_set, has_line}
use Rattle.n2_watch.specs.declared.past.Past.{Past}
use Rattle.n2_watch.specs.declared.access.Access.TheVariants.{Bypass}
use Rattle.n2_watch.specs.Discipline.{Knowledge, direction, bypass_breach, breach}
use Rattle.n2_watch.specs.Book.{Book, knowledge}
use Rattle.n2_watch.specs.Watched.{IsMapOf}
use Rattle.n2_watch.specs.World.{World}
use Rattle.n2_front.specs.Front.{Front}
use Rattle.n2_front.specs.Tasks.{task_of, task_breach}
use Rattle.n2_front.specs.Tasks as tasks
use Rattle.n2_front.specs.Turn.{Intent, back, filled_or, wants_line, wants_op, wants_task, wants_by, intent}
use Rattle.n2_front.specs.Core.{Core}
use Rattle.n2_cpu.specs.declared.aim.Aim.{Aim}
use Rattle.n2_cpu.specs.declared.aim.Aim.TheVariants as aims
use Rattle.n2_cpu.specs.Aims.{intent_of, AreThere, IsFit, IsMeant}
use Rattle.n2_cpu.specs.declared.state.State.{State}
use Rattle.n2_cpu.specs.Stands.{HasRow, StandsFor}
use Rattle.n2_cpu.proofs.Lines.{touched_there}
use Rattle.n2_cpu.proofs.Meaning.{intent_meant}

module _ (b : Board) (map : AddressMap) (k : ℕ) (lt : k < length b.core) (m : IsMapOf b map) (book : Book) (past : List Past) where
  -- whatever is wanted is proper
  abbrev AllProper : Option Request → Type 0
  AllProper o = (request : Request) → o ≡ Some request → IsTrue (proper (wiring_of b) k request)

  nothing : AllProper None
  nothing request e = absurd (cc)

  something : (wanted : Request) → IsTrue (proper (wiring_of b) k wanted) → AllProper (Some wanted)
  something wanted p request e = let same : wanted ≡ request = cc in subst (λ (x : Request). IsTrue (proper (wiring_of b) k x)) same p

  back_by : (dirty : Bool) (number : ℕ) (words : List ℕ) → HasLine b.memory number → AllProper (if dirty then Some (WriteBack number words) else None)
  back_by true number words there = something (WriteBack number words) (write_back_passes b k number words lt there)
  back_by false number words there = nothing

  back_proper : (o : Option Held) → ((held : Held) → o ≡ Some held → HasLine b.memory held.line) → AllProper (back o)
  back_proper None there = nothing
  back_proper (Some held) there = back_by held.dirty held.line held.words (there held refl)

  filled_proper : (number : ℕ) (o : Option Request) → HasLine b.memory number → AllProper o → AllProper (filled_or number o)
  filled_proper number None there p = something (FillData number) (fills_pass b k number lt there).0
  filled_proper number (Some request) there p = p

  unless_proper : (t : Bool) (o : Option Request) → AllProper o → AllProper (if t then None else o)
  unless_proper true o p = nothing
  unless_proper false o p = p

  only_proper : (t : Bool) (o : Option Request) → AllProper o → AllProper (if t then o else None)
  only_proper true o p = p
  only_proper false o p = nothing

  -- ---- past the caches
  target_of : (who : Knowledge) (o : Result Target Violation) (store : Bool) (value number : ℕ) → bypass_breach b map who o store value number ≡ None → (target : Target) × (o ≡ Ok target)
  target_of who (Err wrong) store value number br = absurd (cc)
  target_of who (Ok target) store value number br = (target, refl)

  reached : (address : ℕ) (store : Bool) (value : ℕ) (width : Width) → breach b map (knowledge b book k past) (Bypass address store value) width ≡ None → (target : Target) × (data_target map k address width Bypassing (direction store) ≡ Ok target)
  unfolding breach
  reached address store value width br = target_of (knowledge b book k past) (data_target map k address width Bypassing (direction store)) store value (line address) br

  read_proper : (address : ℕ) (width : Width) → IsTrue (is_aligned address width) → breach b map (knowledge b book k past) (Bypass address false 0) width ≡ None → IsTrue (proper (wiring_of b) k (Read (without_bypass address) width))
  read_proper address width aligned br =
      let t = reached address false 0 width br in
      read_passes b m.images k address width (direction false) t.0 lt aligned (ap (λ (x : AddressMap). data_target x k address width Bypassing (direction false)) (sym m.maps) ∙ t.1)

  write_proper : (address value : ℕ) (width : Width) → IsTrue (is_aligned address width) → breach b map (knowledge b book k past) (Bypass address true value) width ≡ None → IsTrue (proper (wiring_of b) k (Write (without_bypass address) width value))
  write_proper address value width aligned br =
      let t = reached address true value width br in
      write_passes b m.images k address width value (direction true) t.0 lt aligned (ap (λ (x : AddressMap). data_target x k address width Bypassing (direction true)) (sym m.maps) ∙ t.1)

  module _ (slots : List (Option Held)) (there : AreThere b slots) where
    set_proper : (set : ℕ) → AllProper (back (slot_at slots set))
    set_proper set = back_proper (slot_at slots set) (λ held e. there set held e)

    line_proper : (number : ℕ) → HasLine b.memory number → AllProper (wants_line slots number)
    line_proper number here = unless_proper (has_line slots number) (filled_or number (back (slot_at slots (own_set slots number)))) (filled_proper number (back (slot_at slots (own_set slots number))) here (set_proper (own_set slots number)))

    op_proper : (op : DataOp) (address : ℕ) → AllProper (wants_op slots op address)
    op_proper Initd address = nothing
    op_proper Initda address = nothing
    op_proper Flushd address = set_proper (own_set slots (line address))
    op_proper Flushda address = only_proper (has_line slots (line address)) (back (slot_at slots (own_set slots (line address)))) (set_proper (own_set slots (line address)))

    load_proper : (past_caches : Bool) (address : ℕ) (width : Width) (signed : Bool) (to : ℕ) → IsTrue (is_aligned address width) → task_breach b map (knowledge b book k past) (if past_caches then tasks.LoadPast address width signed to else tasks.Load address width signed to) ≡ None → AllProper (wants_task slots (if past_caches then tasks.LoadPast address width signed to else tasks.Load address width signed to))
    load_proper true address width signed to aligned br = something (Read (without_bypass address) width) (read_proper address width aligned br)
    load_proper false address width signed to aligned br = line_proper (line address) (touched_there b map book k past address false width m br)

    store_proper : (past_caches : Bool) (address : ℕ) (width : Width) (value : ℕ) → IsTrue (is_aligned address width) → task_breach b map (knowledge b book k past) (if past_caches then tasks.StorePast address width value else tasks.Store address width value) ≡ None → AllProper (wants_task slots (if past_caches then tasks.StorePast address width value else tasks.Store address width value))
    store_proper true address width value aligned br = something (Write (without_bypass address) width value) (write_proper address value width aligned br)
    store_proper false address width value aligned br = line_proper (line address) (touched_there b map book k past address true width m br)

    asked_proper : (what : Asked) → IsProper what → task_breach b map (knowledge b book k past) (task_of what) ≡ None → AllProper (wants_task slots (task_of what))
    asked_proper asked.Done p br = nothing
    asked_proper (asked.Load address width signed io to) p br = load_proper (bypasses address io) address width signed to p.0 br
    asked_proper (asked.Store address width value io) p br = store_proper (bypasses address io) address width value p.0 br
    asked_proper (asked.LineOp op address) p br = op_proper op address
    asked_proper (asked.CodeOp address) p br = nothing
    asked_proper (asked.Raise cause) p br = nothing
    asked_proper asked.Broke p br = nothing

    pub aim_proper : (sets : ℕ) (f : Front) (r : Regs) (a : Aim) → IsFit sets a → IsMeant b map k book past (intent_of f r a) → AllProper (wants_by slots (intent_of f r a))
    aim_proper sets f r aims.Sample fit meant = something Sample (sample_passes b k lt)
    aim_proper sets f r (aims.Evict set) fit meant = set_proper set
    aim_proper sets f r aims.Interrupt fit meant = nothing
    aim_proper sets f r (aims.Stop stop) fit meant = nothing
    aim_proper sets f r (aims.FillCode number) fit meant = something (FillCode number) (fills_pass b k number lt meant.0).1
    aim_proper sets f r (aims.Do what at) fit meant = asked_proper what fit.0 meant

-- by the value's aim
module _ (b : Board) (map : AddressMap) (row : CoreRow) (s : State) (c : Core) (w : World) (r : Regs) (a : Aim) where
  abbrev ProperAt : ℕ → Type 0
  ProperAt k =
      StandsFor b map k s c w → slice_get b.core k ≡ Some row → (HasRow s.clock row c → intent b map s.clock.number row w.book c ≡ intent_of c.front r a) → IsFit (length s.dcache) a
      → (request : Request) → wants_by s.dcache (intent_of c.front r a) ≡ Some request → IsTrue (proper (wiring_of b) k request)

  pub wanted_proper : (k : ℕ) → ProperAt k
  wanted_proper k = λ h. subst (λ (x : ℕ). ProperAt x) h.number
      (λ g found aimed fit request e. aim_proper b map s.clock.number g.within g.holds.watch.map_of w.book c.front.past s.dcache g.holds.data_lines (length s.dcache) c.front r a fit
      (subst (λ (i : Intent). IsMeant b map s.clock.number w.book c.front.past i) (aimed (g.row row found)) (intent_meant b map s.clock.number w.book g.holds.watch.map_of row c)) request e) h
