-- A core before its first turn.
use Rattle.std.proofs.Common.{◌≡◌, ℕ, ◌<◌, ◌≤◌, leb, eqb, not, Bool, List, [], ◌∷◌, length, Option, Some, None, slice_get, refl, sym, ap, subst, ◌∙◌, arith}
use Rattle.std.specs.Prelude.{option_and_then}
use Rattle.std.proofs.Math.Nat.{zero-mod}
use Rattle.std.proofs.lemmas.Option.{slice_get_within, none-some}
use Rattle.std.proofs.lemmas.Bool.{leb-true, and_parts}
use Rattle.n2_word.specs.Lines.{is_cache_size}
use Rattle.n2_parts.specs.declared.board.Board.{Board}
use Rattle.n2_parts.specs.declared.board.CoreRow.{CoreRow}
use Rattle.n2_parts.specs.declared.board.Key.{Key}
use Rattle.n2_parts.specs.declared.board.Key.TheVariants as keys
use Rattle.n2_parts.specs.declared.board.PartKind.TheVariants.{Top, Core}
use Rattle.n2_parts.specs.Parts.{part_of}
use Rattle.n2_parts.specs.Numbers.{is_between, is_place, core_numbers, number_fault, top_numbers}
use Rattle.n2_parts.specs.Valid.{counts, early_faults, first_fault, IsValid}
use Rattle.n2_parts.proofs.Small.{none_both}
use Rattle.n2_parts.proofs.Sound.{keeps, all_good}
use Rattle.n2_board.specs.AddressMap.{AddressMap}
use Rattle.n2_dcache.specs.declared.Held.{Held}
use Rattle.n2_dcache.specs.Cache.{slot_at, opened}
use Rattle.n2_dcache.proofs.Maps.{slot_at-opened}
use Rattle.n2_elf.specs.declared.image.Image.{Image}
use Rattle.n2_exec.specs.declared.registers.Regs.{Regs}
use Rattle.n2_exec.specs.Registers.{reset_regs}
use Rattle.n2_board.specs.Placement.{first_pc}
use Rattle.n2_watch.specs.Book.{Book, start_book}
use Rattle.n2_watch.specs.World.{World}
use Rattle.n2_watch.specs.Watched.{Watched, IsMapOf, IsGuardOf}
use Rattle.n2_watch.specs.Watched as watched
use Rattle.n2_front.specs.Core.{started_core}
use Rattle.n2_cpu.specs.declared.state.Clock.{Clock}
use Rattle.n2_cpu.specs.Aims.{AreThere, AreCode}
use Rattle.n2_cpu.specs.Stands.{IsSound, HasSlots, StandsFor}

-- a board gives turns
pub turns_between : (b : Board) → IsValid b → (1 ≤ b.turns) × (b.turns ≤ 1000000000)
unfolding first_fault early_faults top_numbers
turns_between b valid =
    let a = none_both (counts b) _ valid in
    let c = none_both (early_faults b) _ a.1 in
    let n = none_both (top_numbers b (part_of Top 0)) _ c.0 in
    let good = all_good (part_of Top 0) ((keys.Turns, is_between 1 1000000000 b.turns) ∷ (keys.Journal, is_between 1 1000000 b.journal) ∷ []) n.0 in
    let t = and_parts (leb 1 b.turns) (leb b.turns 1000000000) good.0 in
    (leb-true _ _ t.0, leb-true _ _ t.1)

-- a core does not sample in every turn
pub sample_least : (b : Board) → IsValid b → (i : ℕ) (row : CoreRow) → slice_get b.core i ≡ Some row → 2 ≤ row.sample
unfolding number_fault core_numbers
sample_least b valid i row e =
    let h : number_fault b (part_of Core i) ≡ None = (keeps b valid Core i (omega arith) (slice_get_within b.core i row e)).numbers in
    let here : core_numbers (part_of Core i) row ≡ None = sym (ap (λ (o : Option CoreRow). option_and_then (core_numbers (part_of Core i)) o) e) ∙ h in
    let checks : List (Key × Bool) =
    (keys.At, is_place 32 row.at) ∷ (keys.Exception, is_place 4 row.exception) ∷ (keys.Dcache, is_cache_size row.dcache) ∷ (keys.Icache, is_cache_size row.icache) ∷ (keys.Sample, leb 2 row.sample) ∷ (keys.Evict, not (eqb row.evict 1)) ∷ []
    in
    let good = all_good (part_of Core i) checks here in
    leb-true _ _ good.1.1.1.1.0

-- an empty cache holds nothing
pub none_there : (b : Board) (slots : List (Option Held)) (bytes : ℕ) → slots ≡ opened bytes → AreThere b slots
none_there b slots bytes e = λ set held h. absurd (none-some held (sym (slot_at-opened bytes set) ∙ ap (λ (x : List (Option Held)). slot_at x set) (sym e) ∙ h))

pub none_code : (b : Board) (map : AddressMap) (slots : List (Option Held)) (bytes : ℕ) → slots ≡ opened bytes → AreCode b map slots
none_code b map slots bytes e = record {
  there = none_there b slots bytes e;
  code = λ set held h. absurd (none-some held (sym (slot_at-opened bytes set) ∙ ap (λ (x : List (Option Held)). slot_at x set) (sym e) ∙ h));
}

-- ---- a core before its first turn
abbrev pub clock_at : Board → ℕ → CoreRow → Clock
clock_at b core row = record { number = core; turns = 0; local = 0; limit = b.turns; sample = row.sample; evict = row.evict; quiet = 0 }

module _ (b : Board) (map : AddressMap) (core : ℕ) (within : core < length b.core) (row : CoreRow) (found : slice_get b.core core ≡ Some row) (m : IsMapOf b map) (clock : Clock) (clock_is : clock ≡ clock_at b core row) (watch : Watched) (stands : watched.StandsFor b map core watch (start_book b) []) where
  opened_slots : HasSlots watch
  opened_slots = λ guard g. (stands.slots guard (subst (λ (x : Board). IsGuardOf x guard) stands.board g)).1

  sound_at : (regs : Regs) (dcache icache : List (Option Held)) → watch.table.clock ≡ 0 → IsSound (record { clock = clock_at b core row; regs = regs; stop = None; dcache = dcache; icache = icache; watch = watch })
  sound_at regs dcache icache none =
      let t = turns_between b m.valid in
      let n = sample_least b m.valid core row found in
      record {
        running = λ e. omega (arith, t.0);
        notes = omega (arith, none);
        local = omega arith;
        quiet = record { no_sample = omega (arith, n, zero-mod row.sample); no_evict = λ some. omega (arith, some, zero-mod row.evict) };
        fits = omega (arith, t.1);
        slots = opened_slots;
      }

  pub opened_sound : (regs : Regs) (dcache icache : List (Option Held)) → watch.table.clock ≡ 0 → IsSound (record { clock = clock; regs = regs; stop = None; dcache = dcache; icache = icache; watch = watch })
  opened_sound regs dcache icache none = subst (λ (x : Clock). IsSound (record { clock = x; regs = regs; stop = None; dcache = dcache; icache = icache; watch = watch })) (sym clock_is) (sound_at regs dcache icache none)

  module _ (image : Image) (regs : Regs) (pc : ℕ) (pc_is : pc ≡ first_pc row image.entry) (regs_are : regs ≡ reset_regs pc row.cpuid row.exception) (dcache icache : List (Option Held)) (data_is : dcache ≡ opened row.dcache) (code_is : icache ≡ opened row.icache) where
    stands_at : (w : World) → w.book ≡ start_book b → StandsFor b map core (record { clock = clock_at b core row; regs = regs; stop = None; dcache = dcache; icache = icache; watch = watch }) (started_core row image) w
    stands_at w e = record {
      number = refl;
      within = within;
      limit = refl;
      row = λ other h. (let same : row ≡ other = (let x : Some row ≡ Some other = sym found ∙ h in cc) in record { sample = ap (λ (x : CoreRow). x.sample) (sym same); evict = ap (λ (x : CoreRow). x.evict) (sym same); turns = refl });
      local = refl;
      stop = refl;
      regs = ap (λ (x : ℕ). reset_regs x row.cpuid row.exception) (sym pc_is) ∙ sym regs_are;
      data_slots = sym data_is;
      code_slots = sym code_is;
      holds = record {
        watch = subst (λ (x : Book). watched.StandsFor b map core watch x []) (sym e) stands;
        data_lines = none_there b dcache row.dcache data_is;
        code_lines = none_code b map icache row.icache code_is;
      };
    }

    pub opened_stands : (any : CoreRow) (w : World) → slice_get b.core core ≡ Some any → w.book ≡ start_book b → StandsFor b map core (record { clock = clock; regs = regs; stop = None; dcache = dcache; icache = icache; watch = watch }) (started_core any image) w
    opened_stands any w h e =
        let same : row ≡ any = (let x : Some row ≡ Some any = sym found ∙ h in cc) in
        subst (λ (y : CoreRow). StandsFor b map core (record { clock = clock; regs = regs; stop = None; dcache = dcache; icache = icache; watch = watch }) (started_core y image) w) same
        (subst (λ (x : Clock). StandsFor b map core (record { clock = x; regs = regs; stop = None; dcache = dcache; icache = icache; watch = watch }) (started_core row image) w) (sym clock_is) (stands_at w e))
