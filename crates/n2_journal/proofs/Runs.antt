-- Row by row: what is written is read, and what is read is spelled so.
use Rattle.std.proofs.Common.{◌≡◌, ℕ, suc, ◌+◌, ◌^◌, ◌<◌, ◌≤◌, Bool, true, false, cond, eqb, ltb, List, [], ◌∷◌, ◌++◌, length, Option, Some, None, Result, Ok, Err, refl, sym, ap, subst, ◌∙◌, append_assoc, arith}
use Rattle.std.specs.Prelude.{codes, map, All, ◌&&◌}
use Rattle.std.specs.List.{AllByRecursion}
use Rattle.std.specs.Str.{bytes_eq}
use Rattle.std.proofs.lemmas.Bool.{cond-true, ltb-true, lt-ltb, eqb-true, eq-eqb}
use Rattle.std.proofs.lemmas.Option.{option_and_then_some, cond_some}
use Rattle.std.proofs.lemmas.Slice.Eq.{bytes_eq-Decides}
use Rattle.std.proofs.lemmas.List.{append-nil, length-append, nil_from_length}
use Rattle.std.proofs.lemmas.List.Elements.{All-nil, All-push, All-weaker, All-from_recursion, recursion_from_All}
use Rattle.n2_journal.specs.declared.entry.Entry.{Entry}
use Rattle.n2_journal.specs.declared.journal.JournalFault.{JournalFault}
use Rattle.n2_journal.specs.declared.journal.JournalFault.TheVariants.{NotJournal, Cut}
use Rattle.n2_journal.specs.declared.reading.Stage.{Stage}
use Rattle.n2_journal.specs.declared.reading.Stage.TheVariants.{Head, Rows, Ended}
use Rattle.n2_journal.specs.Journals.{Content, HasOrder, IsEntryWithin, IsWithinLimits}
use Rattle.n2_journal.specs.Texts.{row_of, head_row, entry_row, tail_row, tail_rows, end_row, journal_rows, journal_text}
use Rattle.n2_journal.specs.Cursors.{◌>>=◌, parts_of, fields_of, is_empty}
use Rattle.n2_journal.specs.Reading.{◌>=◌, or_fault, State, begin, entry_in, add_entry, add_tail, tail_of, end_in, row_in, step, step_at, placed, settle, settled, finish_at, run, read}
use Rattle.n2_journal.proofs.Steps.{both_true, run_inside}
use Rattle.n2_journal.proofs.Entries.{other_first, marked, actor_le, local_le, entry_again, placed_again, entry_spelled, Spelled, tail_again, tail_takes}
use Rattle.n2_journal.proofs.Bodies.{kind_cases}
use Rattle.n2_journal.proofs.Splits.{tail_fields, fields_of-entry_row, fields_of-tail_row, row_of-fields_of, parts_of-journal_text, text_from_parts}

abbrev st : Stage → List Entry → List ℕ → State
st stage es ns = record { stage = stage; entries = es; tails = ns }

abbrev some_state : State → Option State
some_state s = Some s

abbrev FewTails : List ℕ → Type 0
FewTails ns = AllByRecursion (λ n. n ≤ 1000000000) ns

-- ---- what is written is read

step_head : step begin head_row ≡ some_state (st Rows [] [])
unfolding step
step_head = refl

add_again : (es : List Entry) (e : Entry) → length es < 1000000 → add_entry (st Rows es []) e ≡ some_state (st Rows (es ++ e ∷ []) [])
add_again es e lt = cond-true (ltb (length es) 1000000) (some_state (st Rows (es ++ e ∷ []) [])) None (lt-ltb (length es) 1000000 lt)

step_entry : (cores : ℕ) (es : List Entry) (e : Entry) → cores ≤ 8 → length es < 1000000 → IsEntryWithin cores e → step (st Rows es []) (entry_row cores e) ≡ some_state (st Rows (es ++ marked cores e ∷ []) [])
unfolding step row_in
step_entry cores es e few lt within =
    let first = other_first cores e.actor few (actor_le cores e within) in
    ap (row_in (st Rows es [])) (fields_of-entry_row cores e few within)
    ∙ rw (first.0, first.1, entry_again cores e few within) (add_again es (marked cores e) lt)

step_tail : (es : List Entry) (ns : List ℕ) (n : ℕ) → length ns < 8 → n ≤ 1000000000 → step (st Rows es ns) (tail_row (length ns) n) ≡ some_state (st Rows es (ns ++ n ∷ []))
unfolding step row_in
step_tail es ns n lt le =
    ap (row_in (st Rows es ns)) (fields_of-tail_row (length ns) n (omega arith) le)
    ∙ rw (tail_again (length ns) n lt le, eq-eqb (length ns) (length ns) refl) refl

step_end : (es : List Entry) (ns : List ℕ) → 0 < length ns → step (st Rows es ns) end_row ≡ some_state (st Ended es ns)
unfolding step row_in end_in
step_end es ns some = cond-true (ltb 0 (length ns)) (some_state (st Ended es ns)) None (lt-ltb 0 (length ns) some)

run_entries : (cores n : ℕ) (front es : List Entry) (rows : List (List ℕ)) → cores ≤ 8 → length front + length es ≤ 1000000 → AllByRecursion (IsEntryWithin cores) es → 0 < length rows
    → run (st Rows front []) n (map (entry_row cores) es ++ rows) ≡ run (st Rows (front ++ map (marked cores) es) []) (n + length es) rows
run_entries cores n front [] rows few room within some = ap (λ (x : List Entry). run (st Rows x []) n rows) (sym (append-nil front)) ∙ ap (λ k. run (st Rows (front ++ []) []) k rows) (omega arith)
run_entries cores n front (e ∷ es) rows few room within some =
    let more : length (front ++ marked cores e ∷ []) + length es ≤ 1000000 = omega (arith, length-append front (marked cores e ∷ [])) in
    run_inside (st Rows front []) (st Rows (front ++ marked cores e ∷ []) []) n (entry_row cores e) (map (entry_row cores) es ++ rows) (omega (arith, length-append (map (entry_row cores) es) rows)) (step_entry cores front e few (omega arith) within.0)
    ∙ run_entries cores (n + 1) (front ++ marked cores e ∷ []) es rows few more within.1 some
    ∙ ap (λ (x : List Entry). run (st Rows x []) (n + 1 + length es) rows) (append_assoc front (marked cores e ∷ []) (map (marked cores) es))
    ∙ ap (λ k. run (st Rows (front ++ map (marked cores) (e ∷ es)) []) k rows) (omega arith)

run_tails : (n : ℕ) (es : List Entry) (front ns : List ℕ) (rows : List (List ℕ)) → length front + length ns ≤ 8 → FewTails ns → 0 < length rows
    → run (st Rows es front) n (tail_rows (length front) ns ++ rows) ≡ run (st Rows es (front ++ ns)) (n + length ns) rows
run_tails n es front [] rows few small some = ap (λ (x : List ℕ). run (st Rows es x) n rows) (sym (append-nil front)) ∙ ap (λ k. run (st Rows es (front ++ [])) k rows) (omega arith)
run_tails n es front (t ∷ ns) rows few small some =
    let len : length (front ++ t ∷ []) ≡ length front + 1 = omega (arith, length-append front (t ∷ [])) in
    run_inside (st Rows es front) (st Rows es (front ++ t ∷ [])) n (tail_row (length front) t) (tail_rows (length front + 1) ns ++ rows) (omega (arith, length-append (tail_rows (length front + 1) ns) rows)) (step_tail es front t (omega arith) small.0)
    ∙ ap (λ k. run (st Rows es (front ++ t ∷ [])) (n + 1) (tail_rows k ns ++ rows)) (sym len)
    ∙ run_tails (n + 1) es (front ++ t ∷ []) ns rows (omega arith) small.1 some
    ∙ ap (λ (x : List ℕ). run (st Rows es x) (n + 1 + length ns) rows) (append_assoc front (t ∷ []) ns)
    ∙ ap (λ k. run (st Rows es (front ++ t ∷ ns)) k rows) (omega arith)

settle_again : (cores row : ℕ) (es : List Entry) → cores ≤ 8 → AllByRecursion (IsEntryWithin cores) es → settle cores row (map (marked cores) es) ≡ Ok es
settle_again cores row [] few within = refl
settle_again cores row (e ∷ es) few within = rw (placed_again cores e few within.0, settle_again cores (row + 1) es few within.1) refl

settled_again : (j : Content) → IsWithinLimits j → settled (st Ended (map (marked (length j.tails)) j.entries) j.tails) ≡ Ok j
settled_again j within = ap (λ r. r >= λ entries. Ok (record { entries = entries; tails = j.tails })) (settle_again (length j.tails) 2 j.entries within.few_cores (recursion_from_All (IsEntryWithin (length j.tails)) j.entries within.entries))

run_journal : (j : Content) → IsWithinLimits j → run begin 1 (journal_rows j ++ [] ∷ []) ≡ Ok j
run_journal j within =
    let cores : ℕ = length j.tails in
    let es = recursion_from_All (IsEntryWithin cores) j.entries within.entries in
    let ns = recursion_from_All (λ tail. tail ≤ 1000000000) j.tails within.tails in
    let last : List (List ℕ) = end_row ∷ [] ∷ [] in
    let behind : List (List ℕ) = tail_rows 0 j.tails ++ last in
    let seen : List Entry = map (marked cores) j.entries in
    let regrouped : (map (entry_row cores) j.entries ++ (tail_rows 0 j.tails ++ end_row ∷ [])) ++ [] ∷ [] ≡ map (entry_row cores) j.entries ++ behind =
    append_assoc (map (entry_row cores) j.entries) (tail_rows 0 j.tails ++ end_row ∷ []) ([] ∷ [])
    ∙ ap (λ (x : List (List ℕ)). map (entry_row cores) j.entries ++ x) (append_assoc (tail_rows 0 j.tails) (end_row ∷ []) ([] ∷ [])) in
    ap (λ (x : List (List ℕ)). run begin 1 (head_row ∷ x)) regrouped
    ∙ run_inside begin (st Rows [] []) 1 head_row (map (entry_row cores) j.entries ++ behind) (omega (arith, length-append (map (entry_row cores) j.entries) behind, length-append (tail_rows 0 j.tails) last)) step_head
    ∙ run_entries cores 2 [] j.entries behind within.few_cores (omega (arith, within.few_entries)) es (omega (arith, length-append (tail_rows 0 j.tails) last))
    ∙ run_tails (2 + length j.entries) seen [] j.tails last (omega (arith, within.few_cores)) ns (omega arith)
    ∙ run_inside (st Rows seen j.tails) (st Ended seen j.tails) (2 + length j.entries + length j.tails) end_row ([] ∷ []) (omega arith) (step_end seen j.tails (omega (arith, within.some_core)))
    ∙ settled_again j within

pub read_again : (j : Content) → IsWithinLimits j → read (journal_text j) ≡ Ok j
unfolding read
read_again j within = ap (run begin 1) (parts_of-journal_text j within) ∙ run_journal j within

-- ---- what is read is spelled so

-- fields that read as entries, before the number of cores is known
abbrev EntryFields : List ℕ → Entry → Type 0
EntryFields row e = (first : List ℕ) × (fields : List (List ℕ)) × (row ≡ row_of (first ∷ fields)) × (entry_in first fields ≡ Some e)

abbrev ReadAs : List (List ℕ) → List Entry → Type 0
ReadAs [] [] = Unit {0}
ReadAs [] (e ∷ es) = ⊥
ReadAs (r ∷ rows) [] = ⊥
ReadAs (r ∷ rows) (e ∷ es) = EntryFields r e × ReadAs rows es

read_push : (rows : List (List ℕ)) (es : List Entry) (row : List ℕ) (e : Entry) → ReadAs rows es → EntryFields row e → ReadAs (rows ++ row ∷ []) (es ++ e ∷ [])
read_push [] [] row e all one = (one, tt)
read_push [] (f ∷ es) row e all one = absurd all
read_push (r ∷ rows) [] row e all one = absurd all
read_push (r ∷ rows) (f ∷ es) row e all one = (all.0, read_push rows es row e all.1 one)

tail_rows-push : (core : ℕ) (ns : List ℕ) (n : ℕ) → tail_rows core (ns ++ n ∷ []) ≡ tail_rows core ns ++ tail_row (core + length ns) n ∷ []
tail_rows-push core [] n = ap (λ k. tail_row k n ∷ []) (omega arith)
tail_rows-push core (m ∷ ns) n = ap (λ (x : List (List ℕ)). tail_row core m ∷ x) (tail_rows-push (core + 1) ns n ∙ ap (λ k. tail_rows (core + 1) ns ++ tail_row k n ∷ []) (omega arith))

-- what the rows so far are, behind the first one
record Seen (s : State) (rows : List (List ℕ)) : Type 0 where
  entry_rows : List (List ℕ)
  read : ReadAs entry_rows s.entries
  few_entries : length s.entries ≤ 1000000
  few_cores : length s.tails ≤ 8
  tails : All (λ n. n ≤ 1000000000) s.tails
  rows_are : rows ≡ head_row ∷ (entry_rows ++ tail_rows 0 s.tails)

-- what the rows so far are
data Reached (s : State) (rows : List (List ℕ)) : Type 0 where
  at_head : s ≡ begin → rows ≡ [] → Reached s rows
  at_rows : s.stage ≡ Rows → Seen s rows → Reached s rows
  at_end : (before : List (List ℕ)) → s.stage ≡ Ended → 1 ≤ length s.tails → Seen s before → rows ≡ before ++ end_row ∷ [] → Reached s rows

-- ---- one row more

data RowTaken (s : State) (fields : List (List ℕ)) (t : State) : Type 0 where
  of_end : fields ≡ codes "end" ∷ [] → 1 ≤ length s.tails → st Ended s.entries s.tails ≡ t → RowTaken s fields t
  of_tail : (n : ℕ) → fields ≡ tail_fields (length s.tails) n → length s.tails < 8 → n ≤ 1000000000 → st s.stage s.entries (s.tails ++ n ∷ []) ≡ t → RowTaken s fields t
  of_entry : (first : List ℕ) (behind : List (List ℕ)) (e : Entry) → fields ≡ first ∷ behind → entry_in first behind ≡ Some e → length s.tails ≡ 0 → length s.entries < 1000000 → st s.stage (s.entries ++ e ∷ []) s.tails ≡ t → RowTaken s fields t

empty_is : (fields : List (List ℕ)) → is_empty fields ≡ true → fields ≡ []
empty_is [] e = refl
empty_is (field ∷ fields) e = absurd cc

end_takes : (s t : State) (first : List ℕ) (fields : List (List ℕ)) → first ≡ codes "end" → end_in s fields ≡ Some t → RowTaken s (first ∷ fields) t
unfolding end_in
end_takes s t first fields is e =
    let g = cond_some (is_empty fields && ltb 0 (length s.tails)) (st Ended s.entries s.tails) t e in
    let b = both_true (is_empty fields) (ltb 0 (length s.tails)) g.0 in
    let none : fields ≡ [] = empty_is fields b.0 in
    let some : 0 < length s.tails = ltb-true 0 (length s.tails) b.1 in
    of_end (ap (λ (x : List ℕ). x ∷ fields) is ∙ ap (λ (r : List (List ℕ)). codes "end" ∷ r) none) (omega arith) g.1

tail_row_takes : (s t : State) (first : List ℕ) (fields : List (List ℕ)) → first ≡ codes "tail" → (tail_of fields >>= λ tail. add_tail s tail.0 tail.1) ≡ Some t → RowTaken s (first ∷ fields) t
tail_row_takes s t first fields is e =
    option_and_then_some (λ tail. add_tail s tail.0 tail.1) (tail_of fields) t e (λ x ex e1.
    let f = tail_takes fields x ex in
    let g = cond_some (eqb x.0 (length s.tails)) (st s.stage s.entries (s.tails ++ x.1 ∷ [])) t e1 in
    let same : x.0 ≡ length s.tails = eqb-true x.0 (length s.tails) g.0 in
    let text : first ∷ fields ≡ tail_fields (length s.tails) x.1 =
    ap (λ (y : List ℕ). y ∷ fields) is ∙ ap (λ (r : List (List ℕ)). codes "tail" ∷ r) f.2 ∙ ap (λ k. tail_fields k x.1) same in
    of_tail x.1 text (omega (arith, f.0)) f.1 g.1)

entry_row_takes : (s t : State) (first : List ℕ) (fields : List (List ℕ)) → (entry_in first fields >>= add_entry s) ≡ Some t → RowTaken s (first ∷ fields) t
entry_row_takes s t first fields e =
    option_and_then_some (add_entry s) (entry_in first fields) t e (λ x ex e1.
    let g = cond_some (eqb (length s.tails) 0 && ltb (length s.entries) 1000000) (st s.stage (s.entries ++ x ∷ []) s.tails) t e1 in
    let b = both_true (eqb (length s.tails) 0) (ltb (length s.entries) 1000000) g.0 in
    of_entry first fields x refl ex (eqb-true (length s.tails) 0 b.0) (ltb-true (length s.entries) 1000000 b.1) g.1)

row_takes : (s t : State) (fields : List (List ℕ)) → row_in s fields ≡ Some t → RowTaken s fields t
unfolding row_in
row_takes s t [] e = absurd cc
row_takes s t (first ∷ fields) e =
    kind_cases first (codes "end") (end_in s fields) _ t e (λ k h. end_takes s t first fields k h) (λ e1.
    kind_cases first (codes "tail") (tail_of fields >>= λ tail. add_tail s tail.0 tail.1) (entry_in first fields >>= add_entry s) t e1 (λ k h. tail_row_takes s t first fields k h) (λ e2. entry_row_takes s t first fields e2))

-- the row of fields that are known
row_is : (row : List ℕ) (fields : List (List ℕ)) → fields_of row ≡ fields → row ≡ row_of fields
row_is row fields e = sym (row_of-fields_of row) ∙ ap row_of e

rows_keep : (s t : State) (rows : List (List ℕ)) (row : List ℕ) → s.stage ≡ Rows → Seen s rows → RowTaken s (fields_of row) t → Reached t (rows ++ row ∷ [])
rows_keep s t rows row stage seen (of_end fields some is) =
    subst (λ (u : State). Reached u (rows ++ row ∷ [])) is
    (at_end rows refl some
    (record { entry_rows = seen.entry_rows; read = seen.read; few_entries = seen.few_entries; few_cores = seen.few_cores; tails = seen.tails; rows_are = seen.rows_are })
    (ap (λ (x : List ℕ). rows ++ x ∷ []) (row_is row (codes "end" ∷ []) fields)))
rows_keep s t rows row stage seen (of_tail n fields lt le is) =
    let added : tail_rows 0 (s.tails ++ n ∷ []) ≡ tail_rows 0 s.tails ++ tail_row (length s.tails) n ∷ [] = tail_rows-push 0 s.tails n ∙ ap (λ k. tail_rows 0 s.tails ++ tail_row k n ∷ []) (omega arith) in
    let front : List (List ℕ) = seen.entry_rows ++ tail_rows 0 s.tails in
    subst (λ (u : State). Reached u (rows ++ row ∷ [])) is
    (at_rows stage (record {
      entry_rows = seen.entry_rows;
      read = seen.read;
      few_entries = seen.few_entries;
      few_cores = omega (arith, length-append s.tails (n ∷ []));
      tails = All-push (λ k. k ≤ 1000000000) s.tails n seen.tails le;
      rows_are =
          ap (λ (x : List (List ℕ)). x ++ row ∷ []) seen.rows_are
          ∙ ap (λ (x : List ℕ). head_row ∷ (front ++ x ∷ [])) (row_is row (tail_fields (length s.tails) n) fields)
          ∙ ap (λ (x : List (List ℕ)). head_row ∷ x) (append_assoc seen.entry_rows (tail_rows 0 s.tails) (tail_row (length s.tails) n ∷ []) ∙ ap (λ (x : List (List ℕ)). seen.entry_rows ++ x) (sym added));
    }))
rows_keep s t rows row stage seen (of_entry first behind e fields read none few is) =
    let no_tails : s.tails ≡ [] = nil_from_length s.tails none in
    let no_rows : tail_rows 0 s.tails ≡ [] = ap (tail_rows 0) no_tails in
    subst (λ (u : State). Reached u (rows ++ row ∷ [])) is
    (at_rows stage (record {
      entry_rows = seen.entry_rows ++ row ∷ [];
      read = read_push seen.entry_rows s.entries row e seen.read (first, behind, row_is row (first ∷ behind) fields, read);
      few_entries = omega (arith, length-append s.entries (e ∷ []));
      few_cores = seen.few_cores;
      tails = seen.tails;
      rows_are =
          ap (λ (x : List (List ℕ)). x ++ row ∷ []) seen.rows_are
          ∙ ap (λ (x : List (List ℕ)). head_row ∷ ((seen.entry_rows ++ x) ++ row ∷ [])) no_rows
          ∙ ap (λ (x : List (List ℕ)). head_row ∷ (x ++ row ∷ [])) (append-nil seen.entry_rows)
          ∙ ap (λ (x : List (List ℕ)). head_row ∷ x) (sym (append-nil (seen.entry_rows ++ row ∷ [])) ∙ ap (λ (x : List (List ℕ)). (seen.entry_rows ++ row ∷ []) ++ x) (sym no_rows));
    }))

head_seen : Seen (st Rows [] []) (head_row ∷ [])
head_seen = record { entry_rows = []; read = tt; few_entries = omega arith; few_cores = omega arith; tails = All-nil (λ n. n ≤ 1000000000); rows_are = refl }

head_takes : (row : List ℕ) (t : State) → step_at Head begin row ≡ Some t → (row ≡ head_row) × (st Rows [] [] ≡ t)
head_takes row t e =
    let g = cond_some (bytes_eq row head_row) (st Rows [] []) t e in
    ((bytes_eq-Decides row head_row).0 g.0, g.1)

step_keeps : (s t : State) (rows : List (List ℕ)) (row : List ℕ) → Reached s rows → step s row ≡ Some t → Reached t (rows ++ row ∷ [])
unfolding step
step_keeps s t rows row (at_head start none) e =
    let h = head_takes row t (ap (λ (u : State). step_at u.stage u row) (sym start) ∙ e) in
    let same : head_row ∷ [] ≡ rows ++ row ∷ [] = ap (λ (x : List ℕ). x ∷ []) (sym h.0) ∙ ap (λ (x : List (List ℕ)). x ++ row ∷ []) (sym none) in
    subst (λ (u : State). Reached u (rows ++ row ∷ [])) h.1 (subst (λ (x : List (List ℕ)). Reached (st Rows [] []) x) same (at_rows refl head_seen))
step_keeps s t rows row (at_rows stage seen) e =
    rows_keep s t rows row stage seen (row_takes s t (fields_of row) (ap (λ (g : Stage). step_at g s row) (sym stage) ∙ e))
step_keeps s t rows row (at_end before stage some seen are) e =
    let over : None ≡ some_state t = ap (λ (g : Stage). step_at g s row) (sym stage) ∙ e in
    absurd cc

-- ---- behind all rows

ok_is : {A : Type 0} (x y : A) → ◌≡◌ {A = Result A JournalFault} (Ok x) (Ok y) → x ≡ y
ok_is x y e = cc

then_ok : {A B P : Type 0} (r : Result A JournalFault) (f : A → Result B JournalFault) (y : B) → (r >= f) ≡ Ok y → ((x : A) → r ≡ Ok x → f x ≡ Ok y → P) → P
then_ok (Ok x) f y e k = k x refl e
then_ok (Err d) f y e k = absurd cc

fault_ok : {A : Type 0} (o : Option A) (d : JournalFault) (x : A) → or_fault o d ≡ Ok x → o ≡ Some x
fault_ok {A} (Some y) d x e = ap (λ (z : A). Some z) (ok_is y x e)
fault_ok None d x e = absurd cc

record Settled (cores : ℕ) (rows : List (List ℕ)) (es fs : List Entry) : Type 0 where
  rows_are : rows ≡ map (entry_row cores) fs
  within : AllByRecursion (IsEntryWithin cores) fs
  len : length fs ≡ length es

settle_takes : (cores n : ℕ) (rows : List (List ℕ)) (es fs : List Entry) → cores ≤ 8 → ReadAs rows es → settle cores n es ≡ Ok fs → Settled cores rows es fs
settle_takes cores n [] [] fs few read e = subst (λ (x : List Entry). Settled cores [] [] x) (ok_is [] fs e) (record { rows_are = refl; within = tt; len = refl })
settle_takes cores n [] (x ∷ es) fs few read e = absurd read
settle_takes cores n (r ∷ rows) [] fs few read e = absurd read
settle_takes cores n (r ∷ rows) (x ∷ es) fs few read e =
    then_ok (or_fault (placed cores x) (NotJournal n)) _ fs e (λ f ef e1. then_ok (settle cores (n + 1) es) _ fs e1 (λ gs eg e2.
    let one : Spelled cores (read.0.0 ∷ read.0.1) f = entry_spelled cores read.0.0 read.0.1 x f few read.0.3 (fault_ok (placed cores x) (NotJournal n) f ef) in
    let more = settle_takes cores (n + 1) rows es gs few read.1 eg in
    let row : r ≡ entry_row cores f = read.0.2 ∙ ap row_of one.fields_are in
    subst (λ (y : List Entry). Settled cores (r ∷ rows) (x ∷ es) y) (ok_is (f ∷ gs) fs e2)
    (record { rows_are = ap (λ (y : List ℕ). y ∷ rows) row ∙ ap (λ (y : List (List ℕ)). entry_row cores f ∷ y) more.rows_are; within = (one.within, more.within); len = ap suc more.len })))

record Journaled (rows : List (List ℕ)) (j : Content) : Type 0 where
  within : IsWithinLimits j
  rows_are : rows ≡ journal_rows j

settled_takes : (s : State) (before rows : List (List ℕ)) (j : Content) → 1 ≤ length s.tails → Seen s before → rows ≡ before ++ end_row ∷ [] → settled s ≡ Ok j → Journaled rows j
settled_takes s before rows j some seen are e =
    then_ok (settle (length s.tails) 2 s.entries) _ j e (λ fs ef e1.
    let t = settle_takes (length s.tails) 2 seen.entry_rows s.entries fs seen.few_cores seen.read ef in
    let same : rows ≡ head_row ∷ (map (entry_row (length s.tails)) fs ++ (tail_rows 0 s.tails ++ end_row ∷ [])) =
    are
    ∙ ap (λ (x : List (List ℕ)). x ++ end_row ∷ []) seen.rows_are
    ∙ ap (λ (x : List (List ℕ)). head_row ∷ x) (append_assoc seen.entry_rows (tail_rows 0 s.tails) (end_row ∷ []))
    ∙ ap (λ (x : List (List ℕ)). head_row ∷ (x ++ (tail_rows 0 s.tails ++ end_row ∷ []))) t.rows_are in
    let c : Content = record { entries = fs; tails = s.tails } in
    subst (Journaled rows) (ok_is c j e1) (record {
      within = record {
        entries = All-from_recursion (IsEntryWithin (length s.tails)) fs t.within;
        few_entries = omega (arith, t.len, seen.few_entries);
        some_core = some;
        few_cores = seen.few_cores;
        tails = seen.tails;
      };
      rows_are = same;
    }))

if_ok : (b : Bool) (r : Result Content JournalFault) (d : JournalFault) (j : Content) → cond b r (Err d) ≡ Ok j → (b ≡ true) × (r ≡ Ok j)
if_ok true r d j e = (refl, e)
if_ok false r d j e = absurd cc

-- rows up to the last piece
record Finished (rows : List (List ℕ)) (last : List ℕ) (j : Content) : Type 0 where
  within : IsWithinLimits j
  rows_are : rows ++ last ∷ [] ≡ journal_rows j ++ [] ∷ []

finish_takes : (s : State) (n : ℕ) (rows : List (List ℕ)) (last : List ℕ) (j : Content) → Reached s rows → finish_at s.stage s n last ≡ Ok j → Finished rows last j
finish_takes s n rows last j (at_head start none) e = absurd (let h : ◌≡◌ {A = Result Content JournalFault} (Err Cut) (Ok j) = ap (λ (u : State). finish_at u.stage u n last) (sym start) ∙ e in cc)
finish_takes s n rows last j (at_rows stage seen) e = absurd (let h : ◌≡◌ {A = Result Content JournalFault} (Err Cut) (Ok j) = ap (λ (g : Stage). finish_at g s n last) (sym stage) ∙ e in cc)
finish_takes s n rows last j (at_end before stage some seen are) e =
    let a = if_ok (eqb (length last) 0) (settled s) (NotJournal n) j (ap (λ (g : Stage). finish_at g s n last) (sym stage) ∙ e) in
    let none : last ≡ [] = nil_from_length last (eqb-true (length last) 0 a.0) in
    let t = settled_takes s before rows j some seen are a.1 in
    record { within = t.within; rows_are = ap (λ (x : List ℕ). rows ++ x ∷ []) none ∙ ap (λ (x : List (List ℕ)). x ++ [] ∷ []) t.rows_are }

record Whole (rows parts : List (List ℕ)) (j : Content) : Type 0 where
  within : IsWithinLimits j
  rows_are : rows ++ parts ≡ journal_rows j ++ [] ∷ []

run_takes : (s : State) (n : ℕ) (rows parts : List (List ℕ)) (j : Content) → Reached s rows → run s n parts ≡ Ok j → Whole rows parts j
run_takes s n rows [] j reached e = absurd cc
run_takes s n rows (last ∷ []) j reached e = let f = finish_takes s n rows last j reached e in record { within = f.within; rows_are = f.rows_are }
run_takes s n rows (this ∷ next ∷ parts) j reached e =
    then_ok (or_fault (step s this) (NotJournal n)) _ j e (λ t et e1.
    let more = run_takes t (n + 1) (rows ++ this ∷ []) (next ∷ parts) j (step_keeps s t rows this reached (fault_ok (step s this) (NotJournal n) t et)) e1 in
    record { within = more.within; rows_are = sym (append_assoc rows (this ∷ []) (next ∷ parts)) ∙ more.rows_are })

read_takes : (text : List ℕ) (j : Content) → read text ≡ Ok j → Whole [] (parts_of 10 text) j
unfolding read
read_takes text j e = run_takes begin 1 [] (parts_of 10 text) j (at_head refl refl) e

pub read_within : (text : List ℕ) (j : Content) → read text ≡ Ok j → IsWithinLimits j
read_within text j e = (read_takes text j e).within

pub read_spelled : (text : List ℕ) (j : Content) → read text ≡ Ok j → text ≡ journal_text j
read_spelled text j e = text_from_parts text j (read_takes text j e).rows_are

-- ---- orders

pub HasOrder-within : (j : Content) → IsWithinLimits j → HasOrder j
HasOrder-within j within = All-weaker (IsEntryWithin (length j.tails)) (λ entry. entry.local + 1 < 2 ^ 64) (λ entry h. omega (arith, local_le (length j.tails) entry h)) j.entries within.entries
