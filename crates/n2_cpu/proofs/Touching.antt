-- A load or store through the data cache.
use Rattle.std.proofs.Common.{◌≡◌, ℕ, Bool, true, false, not, if◌then◌else◌, List, ◌∷◌, Option, Some, None, refl, ap, ◌∙◌}
use Rattle.n2_word.specs.declared.Width.{Width}
use Rattle.n2_word.specs.Lines.{line}
use Rattle.n2_exec.specs.declared.registers.Regs.{Regs}
use Rattle.n2_exec.specs.Registers.{loaded_regs, passed_regs}
use Rattle.n2_exec.specs.Outcomes.{loaded_value}
use Rattle.n2_parts.specs.declared.board.Board.{Board}
use Rattle.n2_parts.specs.declared.stops.Act.{Act}
use Rattle.n2_parts.specs.declared.stops.Act.TheVariants.{Retire}
use Rattle.n2_board.specs.AddressMap.{AddressMap}
use Rattle.n2_bus.specs.declared.request.Reply.{Reply}
use Rattle.n2_dcache.specs.declared.Held.{Held}
use Rattle.n2_dcache.specs.Cache.{own_set, set_dropped, loaded, stored}
use Rattle.n2_watch.specs.declared.access.Access.TheVariants.{Cached}
use Rattle.n2_watch.specs.declared.past.Past.{Past}
use Rattle.n2_watch.specs.declared.past.Past.TheVariants.{Touch}
use Rattle.n2_watch.specs.Book.{Book, knowledge}
use Rattle.n2_watch.specs.Discipline.{breach}
use Rattle.n2_watch.specs.Watched.{Watched, StandsFor}
use Rattle.n2_cpu.specs.declared.state.State.{State}
use Rattle.n2_front.specs.Turn.{Turned, is_in_way, with_line, emptied, loads, stores}
use Rattle.n2_cpu.specs.Stands.{Holds, IsTurned, core_now}
use Rattle.n2_cpu.proofs.Lines.{there_dropped, there_brought, there_stored, touched_there}

module _ (b : Board) (map : AddressMap) (book : Book) (past : List Past) (s : State) (h : Holds b map s book past) where
  emptied_by : (set : ℕ) (slots : List (Option Held)) → slots ≡ set_dropped s.dcache set → IsTurned b map (record { clock = s.clock; regs = s.regs; stop = s.stop; dcache = slots; icache = s.icache; watch = s.watch }) None book (emptied (core_now s past) set)
  emptied_by set slots e = record {
    regs = refl;
    stop = refl;
    data_slots = e;
    code_slots = refl;
    act = refl;
    holds = record { watch = h.watch; data_lines = rw e (there_dropped b s.dcache h.data_lines set); code_lines = h.code_lines };
  }

  -- what is dirty goes first
  pub in_way : (number : ℕ) (slots other : List (Option Held)) (t : Turned) (way : Bool) → way ≡ is_in_way s.dcache number → false ≡ not way → slots ≡ (if way then set_dropped s.dcache (own_set s.dcache number) else other) → IsTurned b map (record { clock = s.clock; regs = s.regs; stop = s.stop; dcache = slots; icache = s.icache; watch = s.watch }) None book (if way then emptied (core_now s past) (own_set s.dcache number) else t)
  in_way number slots other t true w n e = emptied_by (own_set s.dcache number) slots e
  in_way number slots other t false w n e = absurd (cc)

  module _ (address : ℕ) (width : Width) (reply : Reply) (slots : List (Option Held)) (regs : Regs) (watch : Watched) (act : Option Act) (acts : act ≡ Some (Retire s.clock.number)) where
    pub load_turned : (signed : Bool) (to value : ℕ) (t : Turned) (way : Bool) → way ≡ is_in_way s.dcache (line address) → true ≡ not way → breach b map (knowledge b book s.clock.number past) (Cached address false) width ≡ None
        → slots ≡ (if way then set_dropped s.dcache (own_set s.dcache (line address)) else with_line s.dcache (line address) reply) → value ≡ loaded_value width signed (loaded slots address width) → regs ≡ loaded_regs s.regs to value
        → StandsFor b map s.clock.number watch book (Touch (line address) false ∷ past)
        → IsTurned b map (record { clock = s.clock; regs = regs; stop = s.stop; dcache = slots; icache = s.icache; watch = watch }) act book (if way then t else loads (core_now s past) s.clock.number (core_now s past).front address width signed to (with_line s.dcache (line address) reply))
    load_turned signed to value t true w n br e v r stands = absurd (cc)
    load_turned signed to value t false w n br e v r stands = record {
      regs = r ∙ ap (λ (x : ℕ). loaded_regs s.regs to x) (v ∙ ap (λ (x : List (Option Held)). loaded_value width signed (loaded x address width)) e);
      stop = refl;
      data_slots = e;
      code_slots = refl;
      act = acts;
      holds = record {
        watch = stands;
        data_lines = rw e (there_brought b s.dcache h.data_lines (line address) reply (touched_there b map book s.clock.number past address false width h.watch.map_of br));
        code_lines = h.code_lines;
      };
    }

    pub store_turned : (value : ℕ) (t : Turned) (way : Bool) → way ≡ is_in_way s.dcache (line address) → true ≡ not way → breach b map (knowledge b book s.clock.number past) (Cached address true) width ≡ None
        → slots ≡ (if way then set_dropped s.dcache (own_set s.dcache (line address)) else stored (with_line s.dcache (line address) reply) address width value) → regs ≡ passed_regs s.regs
        → StandsFor b map s.clock.number watch book (Touch (line address) true ∷ past)
        → IsTurned b map (record { clock = s.clock; regs = regs; stop = s.stop; dcache = slots; icache = s.icache; watch = watch }) act book (if way then t else stores (core_now s past) s.clock.number (core_now s past).front address width value (with_line s.dcache (line address) reply))
    store_turned value t true w n br e r stands = absurd (cc)
    store_turned value t false w n br e r stands = record {
      regs = r;
      stop = refl;
      data_slots = e;
      code_slots = refl;
      act = acts;
      holds = record {
        watch = stands;
        data_lines = rw e (there_stored b (with_line s.dcache (line address) reply) (there_brought b s.dcache h.data_lines (line address) reply (touched_there b map book s.clock.number past address true width h.watch.map_of br)) address width value);
        code_lines = h.code_lines;
      };
    }
