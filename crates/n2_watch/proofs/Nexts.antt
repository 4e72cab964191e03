-- The first line of memories from a line on.
use Rattle.std.proofs.Common.{◌≡◌, inl, inr, ℕ, suc, ◌+◌, ◌/◌, ◌<◌, ◌≤◌, List, [], ◌∷◌, length, get_or, Option, Some, None, Bool, true, false, cond, nat_lt, refl, ap, subst, arith}
use Rattle.std.proofs.lemmas.Bool.{cases_lt}
use Rattle.std.proofs.lemmas.Bool.Decides.{nat_tests}
use Rattle.n2_parts.specs.declared.board.MemoryRow.{MemoryRow}
use Rattle.n2_parts.specs.MemoryLines.{memory_has, line_count, line_place, HasLine}
use Rattle.n2_watch.specs.Walks.{lower_of}
use Rattle.std.specs.Prelude.{IsTrue}
use Rattle.n2_board.specs.AddressMap.{AddressMap, class_of}
use Rattle.n2_board.specs.Guards.{guard_of}
use Rattle.n2_watch.specs.declared.records.Record.{Record}
use Rattle.n2_watch.specs.declared.runs.Run.{Run}
use Rattle.n2_watch.specs.Table.{slot_for}
use Rattle.n2_watch.specs.Stands.{IsRecorded, put, IsPut}
use Rattle.n2_watch.specs.Watched.{is_touchable}
use Rattle.n2_watch.specs.NextLines.{NoneHas, IsFirst, IsOpen, no_memory}
use Rattle.n2_watch.proofs.Building.{built_put, recorded_more, recorded_now}

nearer_of : (P Q U : ℕ → Type 0) (from a b : ℕ) (below : Bool) → nat_lt b a ≡ below → ((n : ℕ) → P n → Q n → U n) → IsFirst P from (Some a) → IsFirst Q from (Some b) → IsFirst U from (Some (cond below b a))
nearer_of P Q U from a b true e j h k =
    let l : b < a = grind (arith, nat_tests) in
    (k.0, k.1, λ n f w. j n (h.2 n f (omega arith)) (k.2 n f w))
nearer_of P Q U from a b false e j h k =
    let l : a ≤ b = grind (arith, nat_tests) in
    (h.0, h.1, λ n f w. j n (h.2 n f w) (k.2 n f (omega arith)))

pub nearer_joins : (P Q U : ℕ → Type 0) (from : ℕ) (o r : Option ℕ) → ((n : ℕ) → P n → Q n → U n) → IsFirst P from o → IsFirst Q from r → IsFirst U from (lower_of o r)
nearer_joins P Q U from None None j h k = λ n f. j n (h n f) (k n f)
nearer_joins P Q U from None (Some b) j h k = (k.0, k.1, λ n f w. j n (h n f) (k.2 n f w))
nearer_joins P Q U from (Some a) None j h k = (h.0, h.1, λ n f w. j n (h.2 n f w) (k n f))
nearer_joins P Q U from (Some a) (Some b) j h k = nearer_of P Q U from a b (nat_lt b a) refl j h k

pub one_more : (rows : List MemoryRow) (many number : ℕ) → NoneHas rows many number → memory_has (get_or rows many no_memory) number ≡ false → NoneHas rows (many + 1) number
one_more rows many number h e k l = elim (cases_lt k many) [
  | inl b ↦ h k b
  | inr a ↦ (let z : many ≡ k = omega arith in subst (λ j. memory_has (get_or rows j no_memory) number ≡ false) z e)
]

-- a line that no memory has is in none
pub none_has : (rows : List MemoryRow) (number : ℕ) → NoneHas rows (length rows) number → line_place rows number ≡ line_count rows
none_has [] number h = refl
none_has (row ∷ rows) number h =
    let e = none_has rows number (λ k l. h (suc k) (omega arith)) in
    rw (h 0 (omega arith)) (ap (λ n. row.size / 32 + n) e)

skipped : (rows : List MemoryRow) (bound line number : ℕ) → IsFirst (λ n. NoneHas rows (length rows) n) bound (Some line) → bound ≤ number → number < line → HasLine rows number → ⊥
skipped rows bound line number f a w h = let e = none_has rows number (f.2 number a w) in omega arith

pub open_put : (core : ℕ) (map : AddressMap) (runs new : List Run) (rs : List Record) (bound line slot : ℕ) (rows : List MemoryRow) → slot ≡ slot_for (guard_of (class_of map line)) → IsPut runs new (length rs) line slot → IsFirst (λ n. NoneHas rows (length rows) n) bound (Some line) → IsOpen core map runs rs bound rows → IsOpen core map new (put rs line slot) (line + 1) rows
open_put core map runs new rs bound line slot rows its p f o = record {
  built = built_put map runs new rs bound line slot f.0 its p o.built;
  whole = λ number w h t. elim (cases_lt number bound) [
    | inl b ↦ recorded_more rs line slot number (o.whole number b h t)
    | inr a ↦ elim (cases_lt number line) [
      | inl c ↦ absurd (skipped rows bound line number f a c h)
      | inr d ↦ (let z : line ≡ number = omega arith in subst (λ n. IsRecorded (put rs line slot) n) z (recorded_now rs line slot))
    ]
  ];
}

pub open_other : (core : ℕ) (map : AddressMap) (runs : List Run) (rs : List Record) (bound line : ℕ) (rows : List MemoryRow) → is_touchable core (class_of map line) ≡ false → IsFirst (λ n. NoneHas rows (length rows) n) bound (Some line) → IsOpen core map runs rs bound rows → IsOpen core map runs rs (line + 1) rows
open_other core map runs rs bound line rows n f o = record {
  built = record {
    are_runs = o.built.are_runs;
    ends = λ k l. (let e = o.built.ends k l in ((omega (arith, e.0, f.0)), e.1));
    slots = o.built.slots;
    untouched = o.built.untouched;
    few = omega (arith, o.built.few, f.0);
  };
  whole = λ number w h t. elim (cases_lt number bound) [
    | inl b ↦ o.whole number b h t
    | inr a ↦ elim (cases_lt number line) [
      | inl c ↦ absurd (skipped rows bound line number f a c h)
      | inr d ↦ (let z : number ≡ line = omega arith in let y = ap (λ x. is_touchable core (class_of map x)) z in absurd (cc))
    ]
  ];
}

pub open_start : (core : ℕ) (map : AddressMap) (rows : List MemoryRow) → IsOpen core map [] [] 0 rows
open_start core map rows = record {
  built = record { are_runs = record { has = λ i l. absurd (omega arith); places = λ k i l. absurd (omega arith); rising = λ j k l m. absurd (omega arith) }; ends = λ k l. absurd (omega arith); slots = λ i l. absurd (omega arith); untouched = λ i l. absurd (omega arith); few = omega arith };
  whole = λ number w. absurd (omega arith);
}

-- when no memory has a line behind the bound, all lines were looked at
pub open_whole : (core : ℕ) (map : AddressMap) (runs : List Run) (rs : List Record) (bound : ℕ) (rows : List MemoryRow) → IsFirst (λ n. NoneHas rows (length rows) n) bound None → IsOpen core map runs rs bound rows → (number : ℕ) → HasLine rows number → IsTrue (is_touchable core (class_of map number)) → IsRecorded rs number
open_whole core map runs rs bound rows f o number h t = elim (cases_lt number bound) [
  | inl b ↦ o.whole number b h t
  | inr a ↦ (let e = none_has rows number (f number a) in absurd (omega arith))
]
