-- Lines by their place among those of all memories.
use Rattle.std.proofs.Common.{◌≡◌, ℕ, ◌+◌, ◌-◌, ◌/◌, ◌%◌, ◌^◌, ◌<◌, ◌≤◌, List, [], ◌∷◌, IsTrue, Bool, true, false, ◌&&◌, ◌||◌, cond, nat_le, nat_lt, refl, subst, sym, arith}
use Rattle.std.proofs.lemmas.Bool.{or_right}
use Rattle.std.proofs.lemmas.Bool.Decides.{nat_tests}
use Rattle.n2_word.specs.Lines.{line}
use Rattle.n2_parts.specs.declared.board.MemoryRow.{MemoryRow}
use Rattle.n2_parts.specs.Rules.{bytes_from, is_inside}
use Rattle.n2_parts.specs.MemoryLines.{AreWholeLines, HasLine, line_place, line_count}

-- ---- bytes of a memory

in_row : (base size a n i : ℕ) → base % 32 ≡ 0 → size % 32 ≡ 0 → i < n → base ≤ a → a + n ≤ base + size → (base / 32 ≤ (a + i) / 32) × ((a + i) / 32 - base / 32 < size / 32)
in_row base size a n i hb hs lt le up = (omega arith, omega arith)

here : (b l count p total : ℕ) (x : Bool) → (x ≡ true → (b ≤ l) × (l - b < count)) → (x ≡ false → p < total) → cond (nat_le b l && nat_lt (l - b) count) (l - b) (count + p) < count + total
here b l count p total true f g = let z = f refl in grind (arith, nat_tests)
here b l count p total false f g = let z = g refl in grind (arith, nat_tests)

both : (base a e f : ℕ) → (nat_le base a && nat_le e f) ≡ true → (base ≤ a) × (e ≤ f)
both base a e f h = grind (arith, nat_tests)

other : (x y : Bool) → (x || y) ≡ true → x ≡ false → y ≡ true
other true y h e = absurd (cc)
other false y h e = h

-- what is inside of a memory has its lines there
pub inside_line : (rows : List MemoryRow) (a n i : ℕ) → AreWholeLines rows → IsTrue (is_inside rows (bytes_from a n)) → i < n → HasLine rows ((a + i) / 32)
inside_line [] a n i w h lt = absurd (cc)
inside_line (row ∷ rows) a n i w h lt =
    here (row.base / 32) ((a + i) / 32) (row.size / 32) (line_place rows ((a + i) / 32)) (line_count rows) (nat_le row.base a && nat_le (a + n) (row.base + row.size))
    (λ t. let z = both row.base a (a + n) (row.base + row.size) t in in_row row.base row.size a n i w.0.0 w.0.1 lt z.0 z.1)
    (λ t. inside_line rows a n i w.1 (other (nat_le row.base a && nat_le (a + n) (row.base + row.size)) (is_inside rows (bytes_from a n)) h t) lt)

end_step : (base size a n : ℕ) (rest : Bool) → base + size ≤ 2 ^ 31 → (rest ≡ true → a + n ≤ 2 ^ 31) → (nat_le base a && nat_le (a + n) (base + size) || rest) ≡ true → a + n ≤ 2 ^ 31
end_step base size a n true hl f h = f refl
end_step base size a n false hl f h = grind (arith, nat_tests)

-- and ends at most where bit 31 begins
pub inside_end : (rows : List MemoryRow) (a n : ℕ) → AreWholeLines rows → IsTrue (is_inside rows (bytes_from a n)) → a + n ≤ 2 ^ 31
inside_end [] a n w h = absurd (cc)
inside_end (row ∷ rows) a n w h = end_step row.base row.size a n (is_inside rows (bytes_from a n)) w.0.2 (λ t. inside_end rows a n w.1 t) h

-- a byte whose line a memory has is inside of one
back : (base size a p total : ℕ) (rest : Bool) → base % 32 ≡ 0 → size % 32 ≡ 0 → (p < total → rest ≡ true)
    → cond (nat_le (base / 32) (a / 32) && nat_lt (a / 32 - base / 32) (size / 32)) (a / 32 - base / 32) (size / 32 + p) < size / 32 + total
    → (nat_le base a && nat_le (a + 1) (base + size) || rest) ≡ true
back base size a p total true hb hs f h = or_right _ _ refl
back base size a p total false hb hs f h = grind (arith, nat_tests)

pub line_inside : (rows : List MemoryRow) (a : ℕ) → AreWholeLines rows → HasLine rows (a / 32) → IsTrue (is_inside rows (bytes_from a 1))
line_inside [] a w h = absurd (omega arith)
line_inside (row ∷ rows) a w h = back row.base row.size a (line_place rows (a / 32)) (line_count rows) (is_inside rows (bytes_from a 1)) w.0.0 w.0.1 (λ less. line_inside rows a w.1 less) h

-- the line of an address below bit 31
low_line : (a : ℕ) → a < 2 ^ 31 → a / 32 ≡ line a
low_line a lt = let e : a % 2 ^ 31 ≡ a = omega arith in omega arith

pub inside_address : (rows : List MemoryRow) (a n i : ℕ) → AreWholeLines rows → IsTrue (is_inside rows (bytes_from a n)) → i < n → HasLine rows (line (a + i))
inside_address rows a n i w h lt =
    let low : a + n ≤ 2 ^ 31 = inside_end rows a n w h in
    subst (HasLine rows) (low_line (a + i) (omega arith)) (inside_line rows a n i w h lt)

pub address_inside : (rows : List MemoryRow) (a : ℕ) → AreWholeLines rows → a < 2 ^ 31 → HasLine rows (line a) → IsTrue (is_inside rows (bytes_from a 1))
address_inside rows a w lt h = line_inside rows a w (subst (HasLine rows) (sym (low_line a lt)) h)

-- ---- two lines

one_step : (base count p q l k n : ℕ) → (p < n → q < n → p ≡ q → l ≡ k)
    → cond (nat_le base l && nat_lt (l - base) count) (l - base) (count + p) < count + n
    → cond (nat_le base k && nat_lt (k - base) count) (k - base) (count + q) < count + n
    → cond (nat_le base l && nat_lt (l - base) count) (l - base) (count + p) ≡ cond (nat_le base k && nat_lt (k - base) count) (k - base) (count + q)
    → l ≡ k
one_step base count p q l k n rest a b e = grind (arith, nat_tests)

-- two lines at one place are one
pub one_place : (rows : List MemoryRow) (l k : ℕ) → HasLine rows l → HasLine rows k → line_place rows l ≡ line_place rows k → l ≡ k
one_place [] l k a b e = absurd (omega arith)
one_place (row ∷ rows) l k a b e = one_step (row.base / 32) (row.size / 32) (line_place rows l) (line_place rows k) l k (line_count rows) (one_place rows l k) a b e
