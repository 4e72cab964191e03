-- What is in a memory, by the table of lines and by the places.
use Rattle.std.proofs.Common.{◌≡◌, ◌≢◌, ℕ, zero, suc, ◌+◌, ◌-◌, ◌/◌, ◌<◌, ◌≤◌, Bool, true, false, cond, ◌&&◌, ◌||◌, nat_le, List, [], ◌∷◌, ◌++◌, length, map, get_or, drop, Option, Some, None, slice_get, IfSome, MatchOption, IsTrue, refl, sym, ap, subst, ◌∙◌, ◌⊎◌, inl, inr, drop-cons, length-append, append_assoc, arith}
use Rattle.std.specs.List.{flat_map, range_with_len}
use Rattle.std.proofs.lemmas.Bool.{cases_lt}
use Rattle.std.proofs.lemmas.Bool.Decides.{nat_tests}
use Rattle.std.proofs.lemmas.List.{drop_all}
use Rattle.std.proofs.lemmas.List.FromFn.{length-map-range_with_len, get_or-map-range_with_len}
use Rattle.std.proofs.lemmas.Option.{slice_get-get_or, slice_get_past}
use Rattle.n2_parts.specs.declared.board.Board.{Board}
use Rattle.n2_parts.specs.declared.board.MemoryRow.{MemoryRow}
use Rattle.n2_parts.specs.declared.board.Part.{Part}
use Rattle.n2_parts.specs.declared.board.PartKind.{PartKind}
use Rattle.n2_parts.specs.declared.board.PartKind.TheVariants.{Memory, Mutex, Mailbox, Timer, Uart}
use Rattle.n2_parts.specs.declared.spans.Spans.{Spans}
use Rattle.n2_parts.specs.Parts.{part_of, count_of, devices}
use Rattle.n2_parts.specs.Rules.{bytes_from, holds, is_inside, spans_of}
use Rattle.n2_parts.specs.Valid.{IsValid}
use Rattle.n2_parts.specs.MemoryLines.{HasLine, line_place, line_count, memory_has}
use Rattle.n2_parts.proofs.WholeLines.{whole_lines}
use Rattle.n2_parts.proofs.LinePlaces.{inside_line, line_inside}
use Rattle.n2_board.specs.declared.places.Place.{Place}
use Rattle.n2_board.specs.declared.places.Place.TheVariants as places
use Rattle.n2_board.specs.declared.places.Area.{Area}
use Rattle.n2_board.specs.declared.places.Area.TheVariants.{Words}
use Rattle.n2_board.specs.declared.places.PlaceZone.{PlaceZone}
use Rattle.n2_board.specs.Places.{area_of, zones_at, kind_zones, place_zones, place_at, place_in}

-- ---- the table of the lines of memories

abbrev pub values : {A : Type 0} → (ℕ → A) → List MemoryRow → List A
values f rows = flat_map (λ row. map f (range_with_len (row.base / 32) (row.size / 32))) rows

slice_get_front : {A : Type 0} (xs ys : List A) (i : ℕ) → i < length xs → slice_get (xs ++ ys) i ≡ slice_get xs i
slice_get_front {A} [] ys i lt = absurd (omega arith)
slice_get_front {A} (x ∷ xs) ys zero lt = refl
slice_get_front {A} (x ∷ xs) ys (suc i) lt = slice_get_front xs ys i (omega arith)

slice_get_back : {A : Type 0} (xs ys : List A) (i p : ℕ) → i ≡ length xs + p → slice_get (xs ++ ys) i ≡ slice_get ys p
slice_get_back {A} [] ys i p e = let k : i ≡ p = omega arith in ap (slice_get ys) k
slice_get_back {A} (x ∷ xs) ys zero p e = absurd (omega arith)
slice_get_back {A} (x ∷ xs) ys (suc i) p e = slice_get_back xs ys i p (omega arith)

length_row : {A : Type 0} (f : ℕ → A) (base size : ℕ) → length (map f (range_with_len base size)) ≡ size
length_row {A} f base size = length-map-range_with_len f base size

in_row : {A : Type 0} (f : ℕ → A) (base size line i : ℕ) → i < size → base + i ≡ line → slice_get (map f (range_with_len base size)) i ≡ Some (f line)
in_row {A} f base size line i lt e =
    slice_get-get_or (map f (range_with_len base size)) i (f line) (subst (λ n. i < n) (sym (length_row f base size)) lt)
    ∙ ap (λ (a : A). Some a) (get_or-map-range_with_len f base size i line (f line) lt e)

has_parts : (row : MemoryRow) (line : ℕ) → memory_has row line ≡ true → (row.base / 32 ≤ line) × (line - row.base / 32 < row.size / 32)
has_parts row line h = grind (arith, nat_tests)

at_case : {A : Type 0} (f : ℕ → A) (row : MemoryRow) (rows : List MemoryRow) (line : ℕ) (b : Bool) → memory_has row line ≡ b → (HasLine rows line → slice_get (values f rows) (line_place rows line) ≡ Some (f line))
    → cond b (line - row.base / 32) (row.size / 32 + line_place rows line) < row.size / 32 + line_count rows
    → slice_get (values f (row ∷ rows)) (cond b (line - row.base / 32) (row.size / 32 + line_place rows line)) ≡ Some (f line)
at_case {A} f row rows line true h rest less =
    let within = has_parts row line h in
    slice_get_front (map f (range_with_len (row.base / 32) (row.size / 32))) (values f rows) (line - row.base / 32) (subst (λ n. line - row.base / 32 < n) (sym (length_row f (row.base / 32) (row.size / 32))) within.1)
    ∙ in_row f (row.base / 32) (row.size / 32) line (line - row.base / 32) within.1 (let le : row.base / 32 ≤ line = within.0 in omega arith)
at_case {A} f row rows line false h rest less =
    slice_get_back (map f (range_with_len (row.base / 32) (row.size / 32))) (values f rows) (row.size / 32 + line_place rows line) (line_place rows line) (ap (λ n. n + line_place rows line) (sym (length_row f (row.base / 32) (row.size / 32))))
    ∙ rest (omega arith)

-- at the place of a line of a memory stands its value
pub at_line : {A : Type 0} (f : ℕ → A) (rows : List MemoryRow) (line : ℕ) → HasLine rows line → slice_get (values f rows) (line_place rows line) ≡ Some (f line)
at_line {A} f [] line h = absurd (omega arith)
at_line {A} f (row ∷ rows) line h = at_case f row rows line (memory_has row line) refl (at_line f rows line) h

length_values : {A : Type 0} (f : ℕ → A) (rows : List MemoryRow) → length (values f rows) ≡ line_count rows
length_values {A} f [] = refl
length_values {A} f (row ∷ rows) = length-append (map f (range_with_len (row.base / 32) (row.size / 32))) (values f rows) ∙ (rw (length_row f (row.base / 32) (row.size / 32), length_values f rows) refl)

-- and nothing at that of another line
pub past_lines : {A : Type 0} (f : ℕ → A) (rows : List MemoryRow) (line : ℕ) → line_count rows ≤ line_place rows line → slice_get (values f rows) (line_place rows line) ≡ None
past_lines {A} f rows line le = slice_get_past (values f rows) (line_place rows line) (subst (λ n. n ≤ line_place rows line) (sym (length_values f rows)) le)

-- ---- places

-- the places of memories, and what comes behind them
no_byte : (a : ℕ) → holds (bytes_from 0 0) a ≡ false
no_byte a = grind (arith, nat_tests)

same_test : (base size a : ℕ) → holds (bytes_from base size) a ≡ (nat_le base a && nat_le (a + 1) (base + size))
same_test base size a = grind (arith, nat_tests)

either : (x y : Bool) (other : Place) → cond x places.Memory (cond y places.Memory other) ≡ cond (x || y) places.Memory other
either true y other = refl
either false y other = refl

one_memory : (b : Board) (i : ℕ) (row : MemoryRow) (rest : List PlaceZone) (a : ℕ) → slice_get b.memory i ≡ Some row
    → place_in (zones_at (part_of Memory i) (spans_of b (part_of Memory i)) ++ rest) a ≡ cond (nat_le row.base a && nat_le (a + 1) (row.base + row.size)) places.Memory (place_in rest a)
unfolding place_in
one_memory b i row rest a e = rw (e, no_byte a, same_test row.base row.size a) refl

memories_first : (b : Board) (i n : ℕ) (rest : List PlaceZone) (a : ℕ) → i + n ≡ length b.memory → place_in (kind_zones b Memory i n ++ rest) a ≡ cond (is_inside (drop i b.memory) (bytes_from a 1)) places.Memory (place_in rest a)
unfolding kind_zones
memories_first b i zero rest a e = rw (drop_all i b.memory (omega arith)) refl
memories_first b i (suc n) rest a e =
    let row : MemoryRow = get_or b.memory i (record { base = 0; size = 0 }) in
    let k : i + 1 ≡ suc i = omega arith in
    let lt : i < length b.memory = omega arith in
    let here : slice_get b.memory i ≡ Some row = slice_get-get_or b.memory i (record { base = 0; size = 0 }) lt in
    let next : drop i b.memory ≡ row ∷ drop (i + 1) b.memory = rw k (drop-cons b.memory i (record { base = 0; size = 0 }) lt) in
    let more : List PlaceZone = kind_zones b Memory (i + 1) n in
    ap (λ (zs : List PlaceZone). place_in zs a) (append_assoc (zones_at (part_of Memory i) (spans_of b (part_of Memory i))) more rest)
    ∙ one_memory b i row (more ++ rest) a here
    ∙ ap (λ (p : Place). cond (nat_le row.base a && nat_le (a + 1) (row.base + row.size)) places.Memory p) (memories_first b (i + 1) n rest a (omega arith))
    ∙ either (nat_le row.base a && nat_le (a + 1) (row.base + row.size)) (is_inside (drop (i + 1) b.memory) (bytes_from a 1)) (place_in rest a)
    ∙ ap (λ (rows : List MemoryRow). cond (is_inside rows (bytes_from a 1)) places.Memory (place_in rest a)) (sym next)

-- no part of these devices is a memory
abbrev IsOther : PartKind → Type 0
IsOther kind = (i first : ℕ) → area_of (part_of kind i) first kind ≡ Words (part_of kind i) first

skip : (x : Bool) (area : Area) (part : Part) (first from a : ℕ) (other : Place) → area ≡ Words part first → cond x (place_at area from a) other ≡ places.Memory → other ≡ places.Memory
skip true area part first from a other e h = absurd (no_device (sym (ap (λ (x : Area). place_at x from a) e) ∙ h))
  where
    no_device : {offset : ℕ} → places.Device part offset ≡ places.Memory → ⊥
    no_device g = absurd cc
skip false area part first from a other e h = h

one_other : (kind : PartKind) (i : ℕ) (spans : Option Spans) (rest : List PlaceZone) (a : ℕ) → IsOther kind → place_in (zones_at (part_of kind i) spans ++ rest) a ≡ places.Memory → place_in rest a ≡ places.Memory
unfolding place_in
one_other kind i None rest a other h = h
one_other kind i (Some spans) rest a other h =
    skip (holds spans.second a) (area_of (part_of kind i) 4 kind) (part_of kind i) 4 spans.second.from a (place_in rest a) (other i 4)
    (skip (holds spans.first a) (area_of (part_of kind i) 0 kind) (part_of kind i) 0 spans.first.from a _ (other i 0) h)

others : (b : Board) (kind : PartKind) (i n : ℕ) (rest : List PlaceZone) (a : ℕ) → IsOther kind → place_in (kind_zones b kind i n ++ rest) a ≡ places.Memory → place_in rest a ≡ places.Memory
unfolding kind_zones
others b kind i zero rest a other h = h
others b kind i (suc n) rest a other h =
    others b kind (i + 1) n rest a other
    (one_other kind i (spans_of b (part_of kind i)) (kind_zones b kind (i + 1) n ++ rest) a other
    (sym (ap (λ (zs : List PlaceZone). place_in zs a) (append_assoc (zones_at (part_of kind i) (spans_of b (part_of kind i))) (kind_zones b kind (i + 1) n) rest)) ∙ h))

nothing_else : (a : ℕ) → place_in [] a ≡ places.Memory → ⊥
unfolding place_in
nothing_else a h = absurd cc

no_device_is : (b : Board) (a : ℕ) → place_in (place_zones b devices) a ≡ places.Memory → ⊥
unfolding place_zones
no_device_is b a h =
    nothing_else a
    (others b Uart 0 (count_of b Uart) [] a (λ i first. refl)
    (others b Timer 0 (count_of b Timer) (place_zones b (Uart ∷ [])) a (λ i first. refl)
    (others b Mailbox 0 (count_of b Mailbox) (place_zones b (Timer ∷ Uart ∷ [])) a (λ i first. refl)
    (others b Mutex 0 (count_of b Mutex) (place_zones b (Mailbox ∷ Timer ∷ Uart ∷ [])) a (λ i first. refl) h))))

place_first : (b : Board) (a : ℕ) → place_in (place_zones b (Memory ∷ devices)) a ≡ cond (is_inside b.memory (bytes_from a 1)) places.Memory (place_in (place_zones b devices) a)
unfolding place_zones
place_first b a = memories_first b 0 (length b.memory) (place_zones b devices) a (omega arith)

pub is_memory : (b : Board) (a : ℕ) → IsValid b → HasLine b.memory (a / 32) → place_in (place_zones b (Memory ∷ devices)) a ≡ places.Memory
is_memory b a valid h = place_first b a ∙ rw (line_inside b.memory a (whole_lines b valid) h) refl

memory_by : (x : Bool) (other : Place) → (other ≡ places.Memory → ⊥) → cond x places.Memory other ≡ places.Memory → x ≡ true
memory_by true other never h = refl
memory_by false other never h = absurd (never h)

pub is_line : (b : Board) (a : ℕ) → IsValid b → place_in (place_zones b (Memory ∷ devices)) a ≡ places.Memory → HasLine b.memory (a / 32)
is_line b a valid h =
    let inside : IsTrue (is_inside b.memory (bytes_from a 1)) = memory_by (is_inside b.memory (bytes_from a 1)) (place_in (place_zones b devices) a) (no_device_is b a) (sym (place_first b a) ∙ h) in
    subst (λ n. HasLine b.memory (n / 32)) (omega arith) (inside_line b.memory a 1 0 (whole_lines b valid) inside (omega arith))

-- ---- both

by_place : {A : Type 0} (o : Option A) (value : A) (Inside : Type 0) → (Inside → o ≡ Some value) → ((Inside → ⊥) → o ≡ None) → Inside ⊎ (Inside → ⊥) → (Inside × (o ≡ Some value)) ⊎ ((Inside → ⊥) × (o ≡ None))
by_place {A} o value Inside found past (inl h) = inl (h, found h)
by_place {A} o value Inside found past (inr h) = inr (h, past h)

has_or : (rows : List MemoryRow) (line : ℕ) → HasLine rows line ⊎ (HasLine rows line → ⊥)
has_or rows line = elim (cases_lt (line_place rows line) (line_count rows)) [ inl lt ↦ inl lt | inr le ↦ inr (λ lt. absurd (omega arith)) ]

at_place : {A : Type 0} (f : ℕ → A) (rows : List MemoryRow) (line : ℕ) → (HasLine rows line × (slice_get (values f rows) (line_place rows line) ≡ Some (f line))) ⊎ ((HasLine rows line → ⊥) × (slice_get (values f rows) (line_place rows line) ≡ None))
at_place {A} f rows line = by_place (slice_get (values f rows) (line_place rows line)) (f line) (HasLine rows line) (at_line f rows line) (λ never. past_lines f rows line (not_below (line_place rows line) (line_count rows) never)) (has_or rows line)
  where
    not_below : (p n : ℕ) → (p < n → ⊥) → n ≤ p
    not_below p n never = elim (cases_lt p n) [ inl lt ↦ absurd (never lt) | inr le ↦ le ]

-- what a table gives for a line is the line's value
pub table_right : {A : Type 0} (f : ℕ → A) (table : List A) (rows : List MemoryRow) → table ≡ values f rows → (line : ℕ) → IfSome (slice_get table (line_place rows line)) (λ a. a ≡ f line)
table_right {A} f table rows e line =
    subst (λ (t : List A). IfSome (slice_get t (line_place rows line)) (λ a. a ≡ f line)) (sym e) (elim (at_place f rows line) [
      | inl h ↦ subst (λ (o : Option A). IfSome o (λ a. a ≡ f line)) (sym h.1) refl
      | inr h ↦ subst (λ (o : Option A). IfSome o (λ a. a ≡ f line)) (sym h.1) tt
    ])

-- and it gives one exactly where the place is a memory
pub table_there : {A : Type 0} (f : ℕ → A) (table : List A) (b : Board) → IsValid b → table ≡ values f b.memory
    → (a : ℕ) → MatchOption (slice_get table (line_place b.memory (a / 32))) (place_in (place_zones b (Memory ∷ devices)) a ≢ places.Memory) (λ _. place_in (place_zones b (Memory ∷ devices)) a ≡ places.Memory)
table_there {A} f table b valid e a =
    let P : Option A → Type 0 = λ o. MatchOption o (place_in (place_zones b (Memory ∷ devices)) a ≢ places.Memory) (λ _. place_in (place_zones b (Memory ∷ devices)) a ≡ places.Memory) in
    subst (λ (t : List A). P (slice_get t (line_place b.memory (a / 32)))) (sym e) (elim (at_place f b.memory (a / 32)) [
      | inl h ↦ subst P (sym h.1) (is_memory b a valid h.0)
      | inr h ↦ subst P (sym h.1) (λ is. h.0 (is_line b a valid is))
    ])
