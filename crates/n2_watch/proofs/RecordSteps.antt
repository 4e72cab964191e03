-- Each event keeps the records for a core's past events.
use Rattle.std.proofs.Common.{◌≡◌, ◌≢◌, inl, inr, ℕ, ◌+◌, ◌-◌, ◌<◌, ◌≤◌, ◌%◌, List, ◌∷◌, length, get_or, slice_set, refl, ap, sym, ◌∙◌, subst, arith, Bool, true, false, ◌&&◌, cond, nat_eq, nat_lt}
use Rattle.std.proofs.lemmas.Bool.{cases_order}
use Rattle.std.proofs.lemmas.Bool.Decides.{nat_tests}
use Rattle.std.proofs.lemmas.List.{get_or-set_same, get_or-set_other, length-set}
use Rattle.n2_insn.specs.declared.DataOp.{DataOp}
use Rattle.n2_board.specs.declared.guards.Guard.{Guard}
use Rattle.n2_board.specs.AddressMap.{AddressMap}
use Rattle.n2_watch.specs.declared.runs.Run.{Run}
use Rattle.n2_watch.specs.declared.past.Past.{Past}
use Rattle.n2_watch.specs.declared.past.Past.TheVariants.{Touch, Clean, Got, Gave}
use Rattle.n2_watch.specs.declared.records.Record.{Record}
use Rattle.n2_watch.specs.Past.{covers, guards, may, dirty, stale}
use Rattle.n2_watch.specs.Table.{Table, nothing, record_at, run_at, cleaned_for, is_dirty, counted, count, touched, emptied, after_touch, after_clean_line, after_clean_set, after_got, after_other}
use Rattle.n2_watch.specs.Stands.{LineStands, AreRuns, IsInRun, IsUnrecorded, IsUntouched, IsTable, Stand}
use Rattle.n2_watch.proofs.RecordCounts.{bit, count_set, count_same, count_none}

-- One line

later : (r : Record) (c n k : ℕ) (m d s : Bool) → LineStands r c n k m d s → LineStands r c n (k + 1) m d s
later r c n k m d s h =
    record { may_now = h.may_now; dirty_now = h.dirty_now; stale_now = h.stale_now; first = omega (arith, h.first); stored = omega (arith, h.stored); cleaned = omega (arith, h.cleaned); got = omega (arith, h.got) }

touch_first : (r : Record) (c n k : ℕ) (m d s b store : Bool) → nat_lt c r.first ≡ b → LineStands r c n k m d s → LineStands (record { line = r.line; slot = r.slot; first = cond b r.first (k + 1); stored = cond store (k + 1) r.stored }) c n (k + 1) true (cond store true d) s
touch_first r c n k m d s true true e h =
    record { may_now = sym e; dirty_now = grind (arith, nat_tests, h.cleaned); stale_now = h.stale_now; first = omega (arith, h.first); stored = omega arith; cleaned = omega (arith, h.cleaned); got = omega (arith, h.got) }
touch_first r c n k m d s true false e h =
    record { may_now = sym e; dirty_now = h.dirty_now; stale_now = h.stale_now; first = omega (arith, h.first); stored = omega (arith, h.stored); cleaned = omega (arith, h.cleaned); got = omega (arith, h.got) }
touch_first r c n k m d s false true e h =
    record { may_now = grind (arith, nat_tests, h.cleaned); dirty_now = grind (arith, nat_tests, h.cleaned); stale_now = grind (arith, nat_tests, h.stale_now, h.got); first = omega arith; stored = omega arith; cleaned = omega (arith, h.cleaned); got = omega (arith, h.got) }
touch_first r c n k m d s false false e h =
    record { may_now = grind (arith, nat_tests, h.cleaned); dirty_now = h.dirty_now; stale_now = grind (arith, nat_tests, h.stale_now, h.got); first = omega arith; stored = omega (arith, h.stored); cleaned = omega (arith, h.cleaned); got = omega (arith, h.got) }

empty_now : (r : Record) (c n k : ℕ) (m d s : Bool) → LineStands r c n k m d s → LineStands (emptied r) c n (k + 1) false false false
empty_now r c n k m d s h =
    record { may_now = grind (arith, nat_tests); dirty_now = grind (arith, nat_tests); stale_now = grind (arith, nat_tests); first = omega arith; stored = omega arith; cleaned = omega (arith, h.cleaned); got = omega (arith, h.got) }

clean_now : (r : Record) (c n k : ℕ) (m d s : Bool) → LineStands r c n k m d s → LineStands r (k + 1) n (k + 1) false false false
clean_now r c n k m d s h =
    record { may_now = grind (arith, nat_tests, h.first); dirty_now = grind (arith, nat_tests, h.stored); stale_now = grind (arith, nat_tests, h.first); first = omega (arith, h.first); stored = omega (arith, h.stored); cleaned = omega arith; got = omega (arith, h.got) }

got_now : (r : Record) (c n k : ℕ) (m d s : Bool) → LineStands r c n k m d s → LineStands r c (k + 1) (k + 1) m d m
got_now r c n k m d s h =
    record { may_now = h.may_now; dirty_now = h.dirty_now; stale_now = grind (arith, nat_tests, h.may_now, h.first); first = omega (arith, h.first); stored = omega (arith, h.stored); cleaned = omega (arith, h.cleaned); got = omega arith }

-- A Clean of one line, and of a set of lines

pub record IsOfLine (op : DataOp) (address number : ℕ) : Type 0 where
  pub covers : (sets other : ℕ) → covers sets op address other ≡ nat_eq number other

pub record IsOfSet (op : DataOp) (address number : ℕ) : Type 0 where
  pub covers : (sets other : ℕ) → covers sets op address other ≡ nat_eq (number % sets) (other % sets)

-- Two records have two lines

lines_differ : (runs : List Run) (records : List Record) → AreRuns runs records → (i j : ℕ) → i < length records → j < length records → (record_at records i).line ≡ (record_at records j).line → i ≡ j
lines_differ runs records a i j l m e =
    let p = a.has i l in let q = a.has j m in
    elim (cases_order p.0 q.0) [
      | inl same ↦ same_place runs records i j e p.0 q.0 same p.2 q.2
      | inr rest ↦ elim rest [
        | inl below ↦ absurd (run_apart runs records i j e p.0 q.0 (a.rising p.0 q.0 below q.1) p.2 q.2)
        | inr above ↦ absurd (run_apart runs records j i (sym e) q.0 p.0 (a.rising q.0 p.0 above p.1) q.2 p.2)
      ]
    ]
  where
    same_place : (runs : List Run) (records : List Record) (i j : ℕ) → (record_at records i).line ≡ (record_at records j).line → (k m : ℕ) → k ≡ m → IsInRun (run_at runs k) i (record_at records i) → IsInRun (run_at runs m) j (record_at records j) → i ≡ j
    same_place runs records i j e k m same p q =
        let z : (run_at runs k).first ≡ (run_at runs m).first = ap (λ k. (run_at runs k).first) same in
        let y : (run_at runs k).at ≡ (run_at runs m).at = ap (λ k. (run_at runs k).at) same in
        omega (arith, p.place, q.place)

    run_apart : (runs : List Run) (records : List Record) (i j : ℕ) → (record_at records i).line ≡ (record_at records j).line → (k m : ℕ) → (run_at runs k).first + (run_at runs k).count ≤ (run_at runs m).first → IsInRun (run_at runs k) i (record_at records i) → IsInRun (run_at runs m) j (record_at records j) → ⊥
    run_apart runs records i j e k m r p q = omega (arith, p.below, q.from)

-- A record of the table

abbrev LineFor : AddressMap → Table → List Past → Record → Type 0
LineFor map t past r = LineStands r (cleaned_for t.cleaned r) (get_or t.got r.slot 0) t.clock (may (length t.cleaned) past r.line) (dirty (length t.cleaned) past r.line) (stale map (length t.cleaned) past r.line)

same_number : (a : ℕ) → nat_eq a a ≡ true
same_number a = grind (arith, nat_tests)

other_number : (a b : ℕ) → a ≢ b → nat_eq a b ≡ false
other_number a b h = not_true (nat_eq a b) (λ e. h (grind (arith, nat_tests)))
  where
    not_true : (x : Bool) → (x ≡ true → ⊥) → x ≡ false
    not_true true h = absurd (h refl)
    not_true false h = refl

-- A Touch of the line of record i

touched_here : (map : AddressMap) (t : Table) (past : List Past) (i : ℕ) (store : Bool) → LineFor map t past (record_at t.records i) → LineFor map (after_touch t i store) (Touch (record_at t.records i).line store ∷ past) (touched (cleaned_for t.cleaned (record_at t.records i)) (t.clock + 1) store (record_at t.records i))
touched_here map t past i store h =
    let r = record_at t.records i in
    rw (same_number r.line) (touch_first r (cleaned_for t.cleaned r) (get_or t.got r.slot 0) t.clock _ _ _ (nat_lt (cleaned_for t.cleaned r) r.first) store refl h)

touched_there : (map : AddressMap) (t : Table) (past : List Past) (i : ℕ) (store : Bool) (r : Record) → (record_at t.records i).line ≢ r.line → LineFor map t past r → LineFor map (after_touch t i store) (Touch (record_at t.records i).line store ∷ past) r
touched_there map t past i store r d h =
    rw (other_number (record_at t.records i).line r.line d) (later r (cleaned_for t.cleaned r) (get_or t.got r.slot 0) t.clock _ _ _ h)

touched_line : (map : AddressMap) (t : Table) (past : List Past) (i : ℕ) (store : Bool) → i < length t.records → IsTable map t → Stand map t past → (j : ℕ) → j < length t.records → (b : Bool) → nat_eq j i ≡ b → LineFor map (after_touch t i store) (Touch (record_at t.records i).line store ∷ past) (record_at (after_touch t i store).records j)
touched_line map t past i store w a h j l true e =
    let z : j ≡ i = grind (arith, nat_tests) in
    rw (z, get_or-set_same t.records i (touched (cleaned_for t.cleaned (record_at t.records i)) (t.clock + 1) store (record_at t.records i)) nothing w) (touched_here map t past i store (h.lines i w))
touched_line map t past i store w a h j l false e =
    let z : j ≢ i = λ x. absurd (grind (arith, nat_tests)) in
    rw (get_or-set_other t.records i j (touched (cleaned_for t.cleaned (record_at t.records i)) (t.clock + 1) store (record_at t.records i)) nothing z)
    (touched_there map t past i store (record_at t.records j) (λ x. z (sym (lines_differ t.runs t.records a.runs i j w l x))) (h.lines j l))

-- the line of a record stays where another takes its place
line_stays : (rs : List Record) (i : ℕ) (r : Record) → r.line ≡ (record_at rs i).line → i < length rs → (j : ℕ) (b : Bool) → nat_eq j i ≡ b → (record_at (slice_set rs i r) j).line ≡ (record_at rs j).line
line_stays rs i r e w j true b =
    let z : j ≡ i = grind (arith, nat_tests) in
    rw (z, get_or-set_same rs i r nothing w) e
line_stays rs i r e w j false b =
    let z : j ≢ i = λ x. absurd (grind (arith, nat_tests)) in
    rw (get_or-set_other rs i j r nothing z) refl

-- no record of another list is for the line
no_record : (rs : List Record) (i : ℕ) (r : Record) (number : ℕ) → r.line ≡ (record_at rs i).line → i < length rs → ((j : ℕ) → j < length (slice_set rs i r) → (record_at (slice_set rs i r) j).line ≢ number) → (j : ℕ) → j < length rs → (record_at rs j).line ≢ number
no_record rs i r number e w h j l x = h j (rw (length-set rs i r) l) (line_stays rs i r e w j (nat_eq j i) refl ∙ x)

touch_other_line : (map : AddressMap) (t : Table) (past : List Past) (l : ℕ) (store : Bool) (number : ℕ) → l ≢ number → IsUntouched map (length t.cleaned) past number → IsUntouched map (length t.cleaned) (Touch l store ∷ past) number
touch_other_line map t past l store number d h = record { may = rw (other_number l number d) h.may; dirty = rw (other_number l number d) h.dirty; stale = h.stale }

-- the counts after a record has another in its place, from what a set's count becomes
bits_same : (cleaned : List ℕ) (set : ℕ) (r q : Record) → r.line ≡ q.line → is_dirty cleaned r ≡ is_dirty cleaned q → counted cleaned set r ≡ counted cleaned set q
bits_same cleaned set r q e d =
    ap (λ x. nat_eq (r.line % length cleaned) set && x) d ∙ ap (λ l. nat_eq (l % length cleaned) set && is_dirty cleaned q) e

stored_is_dirty : (c n k : ℕ) (m d s : Bool) (r : Record) (cleaned : List ℕ) → cleaned_for cleaned r ≡ c → LineStands r c n k m d s → nat_lt (cleaned_for cleaned r) (k + 1) ≡ true
stored_is_dirty c n k m d s r cleaned e h = rw e (grind (arith, nat_tests, h.cleaned))

count_kept : (cleaned : List ℕ) (rs : List Record) (i : ℕ) (r : Record) (set : ℕ) → i < length rs → counted cleaned set r ≡ counted cleaned set (record_at rs i) → count (counted cleaned set) (slice_set rs i r) ≡ count (counted cleaned set) rs
count_kept cleaned rs i r set w e =
    let z = count_set (counted cleaned set) rs i r w in
    let y = ap bit e in
    omega (arith, z, y)

-- the count of a set after a record has another in its place
count_changed : (cleaned counts : List ℕ) (rs : List Record) (i : ℕ) (q : Record) (set n : ℕ) → i < length rs → length counts ≡ length cleaned → 0 < length cleaned → q.line ≡ (record_at rs i).line → n ≡ get_or counts ((record_at rs i).line % length cleaned) 0 + bit (is_dirty cleaned q) - bit (is_dirty cleaned (record_at rs i)) → (own : Bool) → nat_eq ((record_at rs i).line % length cleaned) set ≡ own → get_or counts set 0 ≡ count (counted cleaned set) rs → get_or (slice_set counts ((record_at rs i).line % length cleaned) n) set 0 ≡ count (counted cleaned set) (slice_set rs i q)
count_changed cleaned counts rs i q set n w sizes some e change true own h =
    let s = (record_at rs i).line % length cleaned in
    let z : s ≡ set = grind (arith, nat_tests) in
    let v : s < length counts = omega arith in
    let before : counted cleaned set (record_at rs i) ≡ is_dirty cleaned (record_at rs i) = rw own refl in
    let after : counted cleaned set q ≡ is_dirty cleaned q = ap (λ l. nat_eq (l % length cleaned) set && is_dirty cleaned q) e ∙ rw own refl in
    let c = count_set (counted cleaned set) rs i q w in
    let p = ap bit before in
    let r = ap bit after in
    let k : get_or counts s 0 ≡ get_or counts set 0 = ap (λ x. get_or counts x 0) z in
    ap (λ x. get_or (slice_set counts s n) x 0) (sym z) ∙ get_or-set_same counts s n 0 v ∙ omega (arith, change, c, p, r, k, h)
count_changed cleaned counts rs i q set n w sizes some e change false own h =
    let s = (record_at rs i).line % length cleaned in
    let z : set ≢ s = λ x. absurd (grind (arith, nat_tests)) in
    let before : counted cleaned set (record_at rs i) ≡ false = rw own refl in
    let after : counted cleaned set q ≡ false = ap (λ l. nat_eq (l % length cleaned) set && is_dirty cleaned q) e ∙ rw own refl in
    let c = count_set (counted cleaned set) rs i q w in
    let p = ap bit before in
    let r = ap bit after in
    get_or-set_other counts s set n 0 z ∙ omega (arith, c, p, r, h)

-- what a Touch makes of a record is dirty where it stored, and else as dirty as before
stored_dirty : (map : AddressMap) (t : Table) (past : List Past) (r : Record) → LineFor map t past r → is_dirty t.cleaned (touched (cleaned_for t.cleaned r) (t.clock + 1) true r) ≡ true
stored_dirty map t past r h = grind (arith, nat_tests, h.cleaned)

touch_counts : (map : AddressMap) (t : Table) (past : List Past) (i : ℕ) → i < length t.records → IsTable map t → Stand map t past → (set : ℕ) → set < length t.cleaned → (store d : Bool) → is_dirty t.cleaned (record_at t.records i) ≡ d → get_or (after_touch t i store).counts set 0 ≡ count (counted t.cleaned set) (after_touch t i store).records
touch_counts map t past i w a h set l false d e =
    h.counts set l ∙ sym (count_kept t.cleaned t.records i (touched (cleaned_for t.cleaned (record_at t.records i)) (t.clock + 1) false (record_at t.records i)) set w refl)
touch_counts map t past i w a h set l true true e =
    let r = record_at t.records i in
    let n = stored_dirty map t past r (h.lines i w) in
    rw e (h.counts set l ∙ sym (count_kept t.cleaned t.records i (touched (cleaned_for t.cleaned r) (t.clock + 1) true r) set w (bits_same t.cleaned set (touched (cleaned_for t.cleaned r) (t.clock + 1) true r) r refl (n ∙ sym e))))
touch_counts map t past i w a h set l true false e =
    let r = record_at t.records i in
    let n = stored_dirty map t past r (h.lines i w) in
    let m : get_or t.counts (r.line % length t.cleaned) 0 + 1 ≡ get_or t.counts (r.line % length t.cleaned) 0 + bit (is_dirty t.cleaned (touched (cleaned_for t.cleaned r) (t.clock + 1) true r)) - bit (is_dirty t.cleaned r) = omega (arith, ap bit n, ap bit e) in
    rw e (count_changed t.cleaned t.counts t.records i (touched (cleaned_for t.cleaned r) (t.clock + 1) true r) set _ w a.counts a.sets refl m (nat_eq (r.line % length t.cleaned) set) refl (h.counts set l))

pub touch_stands : (map : AddressMap) (t : Table) (past : List Past) (i : ℕ) (store : Bool) → i < length t.records → IsTable map t → Stand map t past → Stand map (after_touch t i store) (Touch (record_at t.records i).line store ∷ past)
touch_stands map t past i store w a h =
    let q = touched (cleaned_for t.cleaned (record_at t.records i)) (t.clock + 1) store (record_at t.records i) in
    record {
      lines = λ j l. touched_line map t past i store w a h j (rw (length-set t.records i q) at l) (nat_eq j i) refl;
      others = λ number n.
          let o = no_record t.records i q number refl w n in
          touch_other_line map t past (record_at t.records i).line store number (o i w) (h.others number o);
      counts = λ set l. touch_counts map t past i w a h set l store (is_dirty t.cleaned (record_at t.records i)) refl;
    }

-- A Clean of the line of record i

clean_here : (op : DataOp) (address : ℕ) (map : AddressMap) (t : Table) (past : List Past) (i : ℕ) → IsOfLine op address (record_at t.records i).line → LineFor map t past (record_at t.records i) → LineFor map (after_clean_line t i) (Clean op address ∷ past) (emptied (record_at t.records i))
clean_here op address map t past i own h =
    let r = record_at t.records i in
    rw (own.covers (length t.cleaned) r.line, same_number r.line) (empty_now r (cleaned_for t.cleaned r) (get_or t.got r.slot 0) t.clock _ _ _ h)

clean_there : (op : DataOp) (address : ℕ) (map : AddressMap) (t : Table) (past : List Past) (i : ℕ) (r : Record) → IsOfLine op address (record_at t.records i).line → (record_at t.records i).line ≢ r.line → LineFor map t past r → LineFor map (after_clean_line t i) (Clean op address ∷ past) r
clean_there op address map t past i r own d h =
    rw (own.covers (length t.cleaned) r.line, other_number (record_at t.records i).line r.line d) (later r (cleaned_for t.cleaned r) (get_or t.got r.slot 0) t.clock _ _ _ h)

cleaned_line : (op : DataOp) (address : ℕ) (map : AddressMap) (t : Table) (past : List Past) (i : ℕ) → IsOfLine op address (record_at t.records i).line → i < length t.records → IsTable map t → Stand map t past → (j : ℕ) → j < length t.records → (b : Bool) → nat_eq j i ≡ b → LineFor map (after_clean_line t i) (Clean op address ∷ past) (record_at (after_clean_line t i).records j)
cleaned_line op address map t past i own w a h j l true e =
    let z : j ≡ i = grind (arith, nat_tests) in
    rw (z, get_or-set_same t.records i (emptied (record_at t.records i)) nothing w) (clean_here op address map t past i own (h.lines i w))
cleaned_line op address map t past i own w a h j l false e =
    let z : j ≢ i = λ x. absurd (grind (arith, nat_tests)) in
    rw (get_or-set_other t.records i j (emptied (record_at t.records i)) nothing z)
    (clean_there op address map t past i (record_at t.records j) own (λ x. z (sym (lines_differ t.runs t.records a.runs i j w l x))) (h.lines j l))

both_false : (b x : Bool) → x ≡ false → cond b false x ≡ false
both_false true x h = refl
both_false false x h = h

clean_other : (map : AddressMap) (sets : ℕ) (op : DataOp) (address : ℕ) (past : List Past) (number : ℕ) → IsUntouched map sets past number → IsUntouched map sets (Clean op address ∷ past) number
clean_other map sets op address past number h =
    record { may = both_false (covers sets op address number) _ h.may; dirty = both_false (covers sets op address number) _ h.dirty; stale = both_false (covers sets op address number) _ h.stale }

emptied_clean : (cleaned : List ℕ) (r : Record) → is_dirty cleaned (emptied r) ≡ false
emptied_clean cleaned r = grind (arith, nat_tests)

clean_counts : (map : AddressMap) (t : Table) (past : List Past) (i : ℕ) → i < length t.records → IsTable map t → Stand map t past → (set : ℕ) → set < length t.cleaned → (d : Bool) → is_dirty t.cleaned (record_at t.records i) ≡ d → get_or (after_clean_line t i).counts set 0 ≡ count (counted t.cleaned set) (after_clean_line t i).records
clean_counts map t past i w a h set l true e =
    let r = record_at t.records i in
    let m : get_or t.counts (r.line % length t.cleaned) 0 - 1 ≡ get_or t.counts (r.line % length t.cleaned) 0 + bit (is_dirty t.cleaned (emptied r)) - bit (is_dirty t.cleaned r) = omega (arith, ap bit (emptied_clean t.cleaned r), ap bit e) in
    rw e (count_changed t.cleaned t.counts t.records i (emptied r) set _ w a.counts a.sets refl m (nat_eq (r.line % length t.cleaned) set) refl (h.counts set l))
clean_counts map t past i w a h set l false e =
    let r = record_at t.records i in
    rw e (h.counts set l ∙ sym (count_kept t.cleaned t.records i (emptied r) set w (bits_same t.cleaned set (emptied r) r refl (emptied_clean t.cleaned r ∙ sym e))))

pub clean_line_stands : (op : DataOp) (address : ℕ) (map : AddressMap) (t : Table) (past : List Past) (i : ℕ) → IsOfLine op address (record_at t.records i).line → i < length t.records → IsTable map t → Stand map t past → Stand map (after_clean_line t i) (Clean op address ∷ past)
clean_line_stands op address map t past i own w a h =
    let q = emptied (record_at t.records i) in
    record {
      lines = λ j l. cleaned_line op address map t past i own w a h j (rw (length-set t.records i q) at l) (nat_eq j i) refl;
      others = λ number n. clean_other map (length t.cleaned) op address past number (h.others number (no_record t.records i q number refl w n));
      counts = λ set l. clean_counts map t past i w a h set l (is_dirty t.cleaned (record_at t.records i)) refl;
    }

-- A Clean of a line that no record has

unrecorded_line : (map : AddressMap) (t : Table) (past : List Past) (op : DataOp) (address number : ℕ) (r : Record) → IsOfLine op address number → number ≢ r.line → LineFor map t past r → LineFor map (after_other t) (Clean op address ∷ past) r
unrecorded_line map t past op address number r own d h =
    rw (own.covers (length t.cleaned) r.line, other_number number r.line d) (later r (cleaned_for t.cleaned r) (get_or t.got r.slot 0) t.clock _ _ _ h)

pub clean_unrecorded_stands : (map : AddressMap) (t : Table) (past : List Past) (op : DataOp) (address number : ℕ) → IsOfLine op address number → IsUnrecorded t.records number → Stand map t past → Stand map (after_other t) (Clean op address ∷ past)
clean_unrecorded_stands map t past op address number own n h = record {
  lines = λ j l. unrecorded_line map t past op address number (record_at t.records j) own (λ x. n j l (sym x)) (h.lines j l);
  others = λ other m. clean_other map (length t.cleaned) op address past other (h.others other m);
  counts = h.counts;
}

-- Gave changes nothing that the records keep

pub gave_stands : (map : AddressMap) (t : Table) (past : List Past) (guard : Guard) → Stand map t past → Stand map (after_other t) (Gave guard ∷ past)
gave_stands map t past guard h = record {
  lines = λ j l. let r = record_at t.records j in later r (cleaned_for t.cleaned r) (get_or t.got r.slot 0) t.clock _ _ _ (h.lines j l);
  others = λ number n. let o = h.others number n in record { may = o.may; dirty = o.dirty; stale = o.stale };
  counts = h.counts;
}

-- a note without an event
pub other_stands : (map : AddressMap) (t : Table) (past : List Past) → Stand map t past → Stand map (after_other t) past
other_stands map t past h = record {
  lines = λ j l. let r = record_at t.records j in later r (cleaned_for t.cleaned r) (get_or t.got r.slot 0) t.clock _ _ _ (h.lines j l);
  others = h.others;
  counts = h.counts;
}

-- A Clean of a set

set_here : (map : AddressMap) (t : Table) (past : List Past) (number : ℕ) (r : Record) (own : Bool) → 0 < length t.cleaned → nat_eq (number % length t.cleaned) (r.line % length t.cleaned) ≡ own → LineFor map t past r → LineStands r (get_or (slice_set t.cleaned (number % length t.cleaned) (t.clock + 1)) (r.line % length t.cleaned) 0) (get_or t.got r.slot 0) (t.clock + 1) (cond own false (may (length t.cleaned) past r.line)) (cond own false (dirty (length t.cleaned) past r.line)) (cond own false (stale map (length t.cleaned) past r.line))
set_here map t past number r true some e h =
    let z : r.line % length t.cleaned ≡ number % length t.cleaned = grind (arith, nat_tests) in
    let v : number % length t.cleaned < length t.cleaned = omega arith in
    rw (z, get_or-set_same t.cleaned (number % length t.cleaned) (t.clock + 1) 0 v) (clean_now r (cleaned_for t.cleaned r) (get_or t.got r.slot 0) t.clock _ _ _ h)
set_here map t past number r false some e h =
    let z : r.line % length t.cleaned ≢ number % length t.cleaned = λ x. absurd (grind (arith, nat_tests)) in
    rw (get_or-set_other t.cleaned (number % length t.cleaned) (r.line % length t.cleaned) (t.clock + 1) 0 z) (later r (cleaned_for t.cleaned r) (get_or t.got r.slot 0) t.clock _ _ _ h)

set_line : (op : DataOp) (address : ℕ) (map : AddressMap) (t : Table) (past : List Past) (number : ℕ) (r : Record) → IsOfSet op address number → 0 < length t.cleaned → LineFor map t past r → LineFor map (after_clean_set t (number % length t.cleaned)) (Clean op address ∷ past) r
set_line op address map t past number r own some h =
    subst
    (λ n. LineStands r (get_or (slice_set t.cleaned (number % length t.cleaned) (t.clock + 1)) (r.line % n) 0) (get_or t.got r.slot 0) (t.clock + 1) (cond (covers n op address r.line) false (may n past r.line)) (cond (covers n op address r.line) false (dirty n past r.line)) (cond (covers n op address r.line) false (stale map n past r.line)))
    (sym (length-set t.cleaned (number % length t.cleaned) (t.clock + 1)))
    (rw (own.covers (length t.cleaned) r.line) (set_here map t past number r (nat_eq (number % length t.cleaned) (r.line % length t.cleaned)) some refl h))

none_in_set : (map : AddressMap) (t : Table) (past : List Past) (s : ℕ) (r : Record) → s < length t.cleaned → (own : Bool) → nat_eq (r.line % length t.cleaned) s ≡ own → LineFor map t past r → (own && nat_lt (get_or (slice_set t.cleaned s (t.clock + 1)) (r.line % length t.cleaned) 0) r.stored) ≡ false
none_in_set map t past s r v true e h =
    let z : r.line % length t.cleaned ≡ s = grind (arith, nat_tests) in
    rw (z, get_or-set_same t.cleaned s (t.clock + 1) 0 v) (grind (arith, nat_tests, h.stored))
none_in_set map t past s r v false e h = refl

same_in_other_set : (cleaned : List ℕ) (s set stamp : ℕ) (r : Record) → set ≢ s → (own : Bool) → nat_eq (r.line % length cleaned) set ≡ own → (own && nat_lt (get_or (slice_set cleaned s stamp) (r.line % length cleaned) 0) r.stored) ≡ (own && is_dirty cleaned r)
same_in_other_set cleaned s set stamp r d true e =
    let z : r.line % length cleaned ≢ s = λ x. d (grind (arith, nat_tests)) in
    rw (get_or-set_other cleaned s (r.line % length cleaned) stamp 0 z) refl
same_in_other_set cleaned s set stamp r d false e = refl

set_counts : (map : AddressMap) (t : Table) (past : List Past) (s : ℕ) → s < length t.cleaned → IsTable map t → Stand map t past → (set : ℕ) → set < length t.cleaned → (own : Bool) → nat_eq set s ≡ own → get_or (slice_set t.counts s 0) set 0 ≡ count (counted (slice_set t.cleaned s (t.clock + 1)) set) t.records
set_counts map t past s v a h set l true e =
    let z : set ≡ s = grind (arith, nat_tests) in
    let u : s < length t.counts = omega (arith, a.counts) in
    rw (z, get_or-set_same t.counts s 0 0 u)
    (sym (count_none (counted (slice_set t.cleaned s (t.clock + 1)) s) t.records (λ i w.
    rw (length-set t.cleaned s (t.clock + 1)) (none_in_set map t past s (record_at t.records i) v (nat_eq ((record_at t.records i).line % length t.cleaned) s) refl (h.lines i w)))))
set_counts map t past s v a h set l false e =
    let z : set ≢ s = λ x. absurd (grind (arith, nat_tests)) in
    rw (get_or-set_other t.counts s set 0 0 z)
    (h.counts set l ∙ count_same (counted t.cleaned set) (counted (slice_set t.cleaned s (t.clock + 1)) set) t.records (λ i w.
    sym (rw (length-set t.cleaned s (t.clock + 1)) (same_in_other_set t.cleaned s set (t.clock + 1) (record_at t.records i) z (nat_eq ((record_at t.records i).line % length t.cleaned) set) refl))))

pub clean_set_stands : (op : DataOp) (address : ℕ) (map : AddressMap) (t : Table) (past : List Past) (number : ℕ) → IsOfSet op address number → IsTable map t → Stand map t past → Stand map (after_clean_set t (number % length t.cleaned)) (Clean op address ∷ past)
clean_set_stands op address map t past number own a h =
    let v : number % length t.cleaned < length t.cleaned = omega (arith, a.sets) in
    record {
      lines = λ j l. set_line op address map t past number (record_at t.records j) own a.sets (h.lines j l);
      others = λ other m. subst
          (λ n. IsUntouched map n (Clean op address ∷ past) other)
          (sym (length-set t.cleaned (number % length t.cleaned) (t.clock + 1)))
          (clean_other map (length t.cleaned) op address past other (h.others other m));
      counts = λ set l. set_counts map t past (number % length t.cleaned) v a h set (rw (length-set t.cleaned (number % length t.cleaned) (t.clock + 1)) at l) (nat_eq set (number % length t.cleaned)) refl;
    }

-- A Got of a guard

got_line : (map : AddressMap) (t : Table) (past : List Past) (slot : ℕ) (guard : Guard) (r : Record) (own : Bool) → slot < length t.got → guards map guard r.line ≡ own → nat_eq r.slot slot ≡ own → LineFor map t past r → LineStands r (cleaned_for t.cleaned r) (get_or (slice_set t.got slot (t.clock + 1)) r.slot 0) (t.clock + 1) (may (length t.cleaned) past r.line) (dirty (length t.cleaned) past r.line) (cond (guards map guard r.line) (may (length t.cleaned) past r.line) (stale map (length t.cleaned) past r.line))
got_line map t past slot guard r true v g e h =
    let z : r.slot ≡ slot = grind (arith, nat_tests) in
    let k : get_or (slice_set t.got slot (t.clock + 1)) r.slot 0 ≡ t.clock + 1 = ap (λ x. get_or (slice_set t.got slot (t.clock + 1)) x 0) z ∙ get_or-set_same t.got slot (t.clock + 1) 0 v in
    rw (g, k) (got_now r (cleaned_for t.cleaned r) (get_or t.got r.slot 0) t.clock _ _ _ h)
got_line map t past slot guard r false v g e h =
    let z : r.slot ≢ slot = λ x. absurd (grind (arith, nat_tests)) in
    rw (g, get_or-set_other t.got slot r.slot (t.clock + 1) 0 z) (later r (cleaned_for t.cleaned r) (get_or t.got r.slot 0) t.clock _ _ _ h)

got_kept : (map : AddressMap) (past : List Past) (sets : ℕ) (guard : Guard) (number : ℕ) → IsUntouched map sets past number → IsUntouched map sets (Got guard ∷ past) number
got_kept map past sets guard number h = record { may = h.may; dirty = h.dirty; stale = both (guards map guard number) _ _ h.may h.stale }
  where
    both : (b x y : Bool) → x ≡ false → y ≡ false → cond b x y ≡ false
    both true x y h k = h
    both false x y h k = k

pub got_stands : (map : AddressMap) (t : Table) (past : List Past) (slot : ℕ) (guard : Guard) → slot < length t.got → ((i : ℕ) → i < length t.records → guards map guard (record_at t.records i).line ≡ nat_eq (record_at t.records i).slot slot) → Stand map t past → Stand map (after_got t slot) (Got guard ∷ past)
got_stands map t past slot guard v its h = record {
  lines = λ j l. got_line map t past slot guard (record_at t.records j) (nat_eq (record_at t.records j).slot slot) v (its j l) refl (h.lines j l);
  others = λ number m. got_kept map past (length t.cleaned) guard number (h.others number m);
  counts = h.counts;
}
