-- What notes keep of records.
use Rattle.std.proofs.Common.{◌≡◌, ◌≢◌, ℕ, ◌+◌, ◌-◌, ◌<◌, ◌%◌, List, ◌∷◌, length, get_or, slice_set, refl, ap, sym, ◌∙◌, subst, arith, Bool, true, false, not, ◌&&◌, cond, nat_eq}
use Rattle.std.proofs.lemmas.Bool.Decides.{nat_tests}
use Rattle.std.proofs.lemmas.List.{get_or-set_same, get_or-set_other, length-set}
use Rattle.n2_word.specs.Lines.{line, set_for}
use Rattle.n2_insn.specs.declared.DataOp.{DataOp}
use Rattle.n2_board.specs.declared.guards.Guard.{Guard}
use Rattle.n2_board.specs.AddressMap.{AddressMap, class_of}
use Rattle.n2_board.specs.Guards.{guard_of}
use Rattle.n2_watch.specs.declared.past.Past.{Past}
use Rattle.n2_watch.specs.declared.past.Past.TheVariants.{Touch, Clean, Got, Gave}
use Rattle.n2_watch.specs.declared.records.Record.{Record}
use Rattle.n2_watch.specs.declared.runs.Run.{Run}
use Rattle.n2_watch.specs.Past.{covers}
use Rattle.n2_watch.specs.Table.{Table, nothing, slot_of, slot_for, record_at, run_at, cleaned_for, is_dirty, touched, emptied, more_dirty, less_dirty, after_touch, after_clean_line, after_clean_set, after_got, after_other}
use Rattle.n2_watch.specs.Stands.{AreRuns, IsInRun, IsUnrecorded, IsTable, IsRecorded, LinesStand, IsNoted}
use Rattle.n2_watch.proofs.RecordSteps.{IsOfLine, touch_stands, clean_line_stands, clean_unrecorded_stands, clean_set_stands, got_stands, gave_stands, other_stands}
use Rattle.n2_watch.proofs.Walking.{slot_matches}

-- a record has another of the same line and slot in its place
record IsSwap (rs : List Record) (i : ℕ) (q : Record) : Type 0 where
  line : q.line ≡ (record_at rs i).line
  slot : q.slot ≡ (record_at rs i).slot

record IsSame (a b : Record) : Type 0 where
  line : a.line ≡ b.line
  slot : a.slot ≡ b.slot

same_at : (rs : List Record) (i : ℕ) (q : Record) → IsSwap rs i q → i < length rs → (j : ℕ) (b : Bool) → nat_eq j i ≡ b → IsSame (record_at (slice_set rs i q) j) (record_at rs j)
same_at rs i q s w j true b =
    let z : j ≡ i = grind (arith, nat_tests) in
    rw (z, get_or-set_same rs i q nothing w) (record { line = s.line; slot = s.slot })
same_at rs i q s w j false b =
    let z : j ≢ i = λ x. absurd (grind (arith, nat_tests)) in
    rw (get_or-set_other rs i j q nothing z) (record { line = refl; slot = refl })

same_run : (run : Run) (j : ℕ) (a b : Record) → IsSame a b → IsInRun run j b → IsInRun run j a
same_run run j a b s r = record { from = omega (arith, s.line, r.from); below = omega (arith, s.line, r.below); place = omega (arith, s.line, r.place); slot = s.slot ∙ r.slot }

runs_kept : (runs : List Run) (rs : List Record) (i : ℕ) (q : Record) → IsSwap rs i q → i < length rs → AreRuns runs rs → AreRuns runs (slice_set rs i q)
runs_kept runs rs i q s w a = record {
  has = λ j l. (let p = a.has j (rw (length-set rs i q) at l) in (p.0, p.1, same_run (run_at runs p.0) j (record_at (slice_set rs i q) j) (record_at rs j) (same_at rs i q s w j (nat_eq j i) refl) p.2));
  places = λ k j l m f u. same_run (run_at runs k) j (record_at (slice_set rs i q) j) (record_at rs j) (same_at rs i q s w j (nat_eq j i) refl) (a.places k j l (rw (length-set rs i q) at m) f u);
  rising = a.rising;
}

slots_kept : (map : AddressMap) (rs : List Record) (i : ℕ) (q : Record) → IsSwap rs i q → i < length rs → ((j : ℕ) → j < length rs → (record_at rs j).slot ≡ slot_for (guard_of (class_of map (record_at rs j).line))) → (j : ℕ) → j < length (slice_set rs i q) → (record_at (slice_set rs i q) j).slot ≡ slot_for (guard_of (class_of map (record_at (slice_set rs i q) j).line))
slots_kept map rs i q s w a j l =
    let e = same_at rs i q s w j (nat_eq j i) refl in
    e.slot ∙ a j (rw (length-set rs i q) at l) ∙ ap (λ n. slot_for (guard_of (class_of map n))) (sym e.line)

recorded_kept : (rs : List Record) (i : ℕ) (q : Record) → IsSwap rs i q → i < length rs → (number : ℕ) → IsRecorded rs number → IsRecorded (slice_set rs i q) number
recorded_kept rs i q s w number r =
    let e = same_at rs i q s w r.i (nat_eq r.i i) refl in
    record { i = r.i; within = rw (length-set rs i q) r.within; line = e.line ∙ r.line }

length_more : (t : Table) (r : Record) (store : Bool) → length (more_dirty t r store) ≡ length t.counts
length_more t r store = go (store && not (is_dirty t.cleaned r))
  where
    go : (b : Bool) → length (cond b (slice_set t.counts (set_for r.line (length t.cleaned)) (get_or t.counts (set_for r.line (length t.cleaned)) 0 + 1)) t.counts) ≡ length t.counts
    go true = length-set t.counts (set_for r.line (length t.cleaned)) (get_or t.counts (set_for r.line (length t.cleaned)) 0 + 1)
    go false = refl

length_less : (t : Table) (r : Record) → length (less_dirty t r) ≡ length t.counts
length_less t r = go (is_dirty t.cleaned r)
  where
    go : (b : Bool) → length (cond b (slice_set t.counts (set_for r.line (length t.cleaned)) (get_or t.counts (set_for r.line (length t.cleaned)) 0 - 1)) t.counts) ≡ length t.counts
    go true = length-set t.counts (set_for r.line (length t.cleaned)) (get_or t.counts (set_for r.line (length t.cleaned)) 0 - 1)
    go false = refl

-- ---- each note keeps the table

touch_table : (map : AddressMap) (t : Table) (i : ℕ) (store : Bool) → i < length t.records → IsTable map t → IsTable map (after_touch t i store)
touch_table map t i store w a =
    let r = record_at t.records i in
    let q = touched (cleaned_for t.cleaned r) (t.clock + 1) store r in
    let s : IsSwap t.records i q = record { line = refl; slot = refl } in
    record { runs = runs_kept t.runs t.records i q s w a.runs; slots = slots_kept map t.records i q s w a.slots; sets = a.sets; counts = length_more t r store ∙ a.counts }

pub touch_noted : (t : Table) (i : ℕ) (store : Bool) → i < length t.records → IsNoted t (after_touch t i store)
touch_noted t i store w =
    let r = record_at t.records i in
    record { lines = recorded_kept t.records i (touched (cleaned_for t.cleaned r) (t.clock + 1) store r) (record { line = refl; slot = refl }) w; sets = refl; slots = refl; clock = refl }

pub touch_lines : (map : AddressMap) (t : Table) (past : List Past) (i : ℕ) (store : Bool) (number : ℕ) → (i < length t.records) × ((record_at t.records i).line ≡ number) → LinesStand map t past → LinesStand map (after_touch t i store) (Touch number store ∷ past)
touch_lines map t past i store number w h =
    subst (λ n. LinesStand map (after_touch t i store) (Touch n store ∷ past)) w.1
    (record { table = touch_table map t i store w.0 h.table; stand = touch_stands map t past i store w.0 h.table h.stand })

clean_line_table : (map : AddressMap) (t : Table) (i : ℕ) → i < length t.records → IsTable map t → IsTable map (after_clean_line t i)
clean_line_table map t i w a =
    let r = record_at t.records i in
    let s : IsSwap t.records i (emptied r) = record { line = refl; slot = refl } in
    record { runs = runs_kept t.runs t.records i (emptied r) s w a.runs; slots = slots_kept map t.records i (emptied r) s w a.slots; sets = a.sets; counts = length_less t r ∙ a.counts }

pub clean_line_noted : (t : Table) (i : ℕ) → i < length t.records → IsNoted t (after_clean_line t i)
clean_line_noted t i w =
    record { lines = recorded_kept t.records i (emptied (record_at t.records i)) (record { line = refl; slot = refl }) w; sets = refl; slots = refl; clock = refl }

pub clean_line_lines : (op : DataOp) (address : ℕ) (map : AddressMap) (t : Table) (past : List Past) (i : ℕ) → ((sets other : ℕ) → covers sets op address other ≡ nat_eq (line address) other) → (i < length t.records) × ((record_at t.records i).line ≡ line address) → LinesStand map t past → LinesStand map (after_clean_line t i) (Clean op address ∷ past)
clean_line_lines op address map t past i own w h =
    let o : IsOfLine op address (record_at t.records i).line = record { covers = λ sets other. own sets other ∙ ap (λ n. nat_eq n other) (sym w.1) } in
    record { table = clean_line_table map t i w.0 h.table; stand = clean_line_stands op address map t past i o w.0 h.table h.stand }

other_table : (map : AddressMap) (t : Table) → IsTable map t → IsTable map (after_other t)
other_table map t a = record { runs = a.runs; slots = a.slots; sets = a.sets; counts = a.counts }

pub other_noted : (t : Table) → IsNoted t (after_other t)
other_noted t = record { lines = λ number r. r; sets = refl; slots = refl; clock = refl }

pub unrecorded_lines : (op : DataOp) (address : ℕ) (map : AddressMap) (t : Table) (past : List Past) → ((sets other : ℕ) → covers sets op address other ≡ nat_eq (line address) other) → IsUnrecorded t.records (line address) → LinesStand map t past → LinesStand map (after_other t) (Clean op address ∷ past)
unrecorded_lines op address map t past own n h =
    record { table = other_table map t h.table; stand = clean_unrecorded_stands map t past op address (line address) (record { covers = own }) n h.stand }

pub other_lines : (map : AddressMap) (t : Table) (past : List Past) → LinesStand map t past → LinesStand map (after_other t) past
other_lines map t past h = record { table = other_table map t h.table; stand = other_stands map t past h.stand }

pub gave_lines : (map : AddressMap) (t : Table) (past : List Past) (guard : Guard) → LinesStand map t past → LinesStand map (after_other t) (Gave guard ∷ past)
gave_lines map t past guard h = record { table = other_table map t h.table; stand = gave_stands map t past guard h.stand }

pub clean_set_noted : (t : Table) (set : ℕ) → IsNoted t (after_clean_set t set)
clean_set_noted t set = record { lines = λ number r. r; sets = length-set t.cleaned set (t.clock + 1); slots = refl; clock = refl }

pub clean_set_lines : (op : DataOp) (address : ℕ) (map : AddressMap) (t : Table) (past : List Past) → ((sets other : ℕ) → covers sets op address other ≡ nat_eq (line address % sets) (other % sets)) → LinesStand map t past → LinesStand map (after_clean_set t (set_for (line address) (length t.cleaned))) (Clean op address ∷ past)
clean_set_lines op address map t past own h =
    let set = line address % length t.cleaned in
    let l = length-set t.cleaned set (t.clock + 1) in
    record {
      table = record { runs = h.table.runs; slots = h.table.slots; sets = omega (arith, l, h.table.sets); counts = length-set t.counts set 0 ∙ h.table.counts ∙ sym l };
      stand = clean_set_stands op address map t past (line address) (record { covers = own }) h.table h.stand;
    }

pub got_noted : (t : Table) (slot : ℕ) → IsNoted t (after_got t slot)
got_noted t slot = record { lines = λ number r. r; sets = refl; slots = length-set t.got slot (t.clock + 1); clock = refl }

pub got_lines : (map : AddressMap) (t : Table) (past : List Past) (guard : Guard) → slot_of guard < length t.got → LinesStand map t past → LinesStand map (after_got t (slot_of guard)) (Got guard ∷ past)
got_lines map t past guard v h = record {
  table = record { runs = h.table.runs; slots = h.table.slots; sets = h.table.sets; counts = h.table.counts };
  stand = got_stands map t past (slot_of guard) guard v
      (λ i w. slot_matches (guard_of (class_of map (record_at t.records i).line)) guard ∙ ap (λ s. nat_eq s (slot_of guard)) (sym (h.table.slots i w))) h.stand;
}
