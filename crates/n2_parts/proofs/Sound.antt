-- What holds of the parts of a valid board.
use Rattle.std.proofs.Common.{◌≡◌, ℕ, zero, suc, ◌+◌, ◌<◌, ◌≤◌, Bool, true, false, eqb, leb, not, List, [], ◌∷◌, length, Option, Some, None, slice_get, refl, sym, ap, ◌∙◌, inl, inr, arith}
use Rattle.std.specs.Prelude.{option_and_then}
use Rattle.std.proofs.lemmas.Option.{slice_get_within}
use Rattle.std.proofs.lemmas.Bool.{leb-true, eq-eqb, cases_eq, ne_eqb, and_parts}
use Rattle.n2_word.specs.Lines.{is_cache_size}
use Rattle.n2_parts.specs.declared.board.Board.{Board}
use Rattle.n2_parts.specs.declared.board.CoreRow.{CoreRow}
use Rattle.n2_parts.specs.declared.board.UartRow.{UartRow}
use Rattle.n2_parts.specs.declared.board.Part.{Part}
use Rattle.n2_parts.specs.declared.board.PartKind.{PartKind}
use Rattle.n2_parts.specs.declared.board.PartKind.TheVariants.{Top, Memory, Core, Mutex, Mailbox, Timer, Uart, Region, Dump, Script}
use Rattle.n2_parts.specs.declared.board.Key.{Key}
use Rattle.n2_parts.specs.declared.board.Key.TheVariants as keys
use Rattle.std.specs.List.{AllByRecursion}
use Rattle.n2_parts.specs.declared.board.BoardFault.{BoardFault}
use Rattle.n2_parts.specs.declared.board.BoardFault.TheVariants.{SameCpuid}
use Rattle.n2_parts.specs.Parts.{first_from, first_of_kind, first_part, first_pair, arrays, count_of, part_of, rank}
use Rattle.n2_parts.specs.Numbers.{numbers, is_between, is_base, is_place, is_irq, core_numbers, uart_numbers, number_fault, top_numbers}
use Rattle.n2_parts.specs.Rules.{name_fault, same_cpuid, core_fault, part_fault, overlap, inside_fault}
use Rattle.n2_parts.specs.Valid.{counts, name_faults, place_faults, early_faults, late_faults, first_fault, IsValid, KeepsRules}
use Rattle.n2_parts.proofs.Small.{none_both}

from_none : (f : ℕ → Option BoardFault) (i n k : ℕ) → first_from f i n ≡ None → k < n → f (i + k) ≡ None
unfolding first_from
from_none f i zero k e lt = absurd (omega arith)
from_none f i (suc n) zero e lt = let z : i + 0 ≡ i = omega arith in rw z (none_both (f i) _ e).0
from_none f i (suc n) (suc k) e lt =
    let s : i + suc k ≡ i + 1 + k = omega arith in rw s (from_none f (i + 1) n k (none_both (f i) _ e).1 (omega arith))

kind_none : (b : Board) (kind : PartKind) (f : Part → Option BoardFault) (i : ℕ) → first_of_kind b kind f ≡ None → i < count_of b kind → f (part_of kind i) ≡ None
kind_none b kind f i e lt = let z : 0 + i ≡ i = omega arith in rw z at (from_none (λ j. f (part_of kind j)) 0 (count_of b kind) i e lt)

pub part_none : (b : Board) (f : Part → Option BoardFault) (kind : PartKind) (i : ℕ) → first_part b arrays f ≡ None → 0 < rank kind → i < count_of b kind → f (part_of kind i) ≡ None
unfolding first_part
part_none b f kind i e given lt =
    let e1 = none_both (first_of_kind b Memory f) _ e in
    let e2 = none_both (first_of_kind b Core f) _ e1.1 in
    let e3 = none_both (first_of_kind b Mutex f) _ e2.1 in
    let e4 = none_both (first_of_kind b Mailbox f) _ e3.1 in
    let e5 = none_both (first_of_kind b Timer f) _ e4.1 in
    let e6 = none_both (first_of_kind b Uart f) _ e5.1 in
    let e7 = none_both (first_of_kind b Region f) _ e6.1 in
    let e8 = none_both (first_of_kind b Dump f) _ e7.1 in
    let e9 = none_both (first_of_kind b Script f) _ e8.1 in
    elim kind as (λ (k : PartKind). 0 < rank k → i < count_of b k → f (part_of k i) ≡ None) [
      | Top ↦ λ h l. absurd (omega arith)
      | Memory ↦ λ h l. kind_none b Memory f i e1.0 l
      | Core ↦ λ h l. kind_none b Core f i e2.0 l
      | Mutex ↦ λ h l. kind_none b Mutex f i e3.0 l
      | Mailbox ↦ λ h l. kind_none b Mailbox f i e4.0 l
      | Timer ↦ λ h l. kind_none b Timer f i e5.0 l
      | Uart ↦ λ h l. kind_none b Uart f i e6.0 l
      | Region ↦ λ h l. kind_none b Region f i e7.0 l
      | Dump ↦ λ h l. kind_none b Dump f i e8.0 l
      | Script ↦ λ h l. kind_none b Script f i e9.0 l
    ] given lt

record Rules (b : Board) : Type 0 where
  top : top_numbers b (part_of Top 0) ≡ None
  numbers : first_part b arrays (number_fault b) ≡ None
  names : first_part b arrays (name_fault b) ≡ None
  cpuids : first_pair b (Core ∷ []) (same_cpuid b) ≡ None
  cores : first_part b arrays (core_fault b) ≡ None
  parts : first_part b arrays (part_fault b) ≡ None
  insides : first_part b arrays (inside_fault b) ≡ None

rules : (b : Board) → IsValid b → Rules b
unfolding first_fault early_faults late_faults name_faults place_faults
rules b valid =
    let a = none_both (counts b) _ valid in
    let c = none_both (early_faults b) _ a.1 in
    let d = none_both (late_faults b) _ c.1 in
    let n0 = none_both (top_numbers b (part_of Top 0)) _ c.0 in
    let n1 = none_both (first_part b arrays (number_fault b)) _ n0.1 in
    let n2 = none_both (name_faults b) _ n1.1 in
    let n3 = none_both (first_pair b (Core ∷ []) (same_cpuid b)) _ n2.1 in
    let m0 = none_both (first_part b arrays (name_fault b)) _ n2.0 in
    let l0 = none_both (first_part b arrays (core_fault b)) _ d.0 in
    let l1 = none_both (first_part b arrays (part_fault b)) _ l0.1 in
    let l2 = none_both (place_faults b) _ l1.1 in
    let p0 = none_both (first_pair b (Memory ∷ Mutex ∷ Mailbox ∷ Timer ∷ Uart ∷ []) (overlap b)) _ l2.0 in
    let p1 = none_both (first_pair b (Region ∷ []) (overlap b)) _ p0.1 in
    let p2 = none_both (first_part b arrays (inside_fault b)) _ p1.1 in
    record { top = n0.0; numbers = n1.0; names = m0.0; cpuids = n3.0; cores = l0.0; parts = l1.0; insides = p2.0 }

pub keeps : (b : Board) → IsValid b → (kind : PartKind) (i : ℕ) → 0 < rank kind → i < count_of b kind → KeepsRules b (part_of kind i)
keeps b valid kind i given lt =
    let r = rules b valid in
    record {
      numbers = part_none b (number_fault b) kind i r.numbers given lt;
      names = part_none b (name_fault b) kind i r.names given lt;
      cores = part_none b (core_fault b) kind i r.cores given lt;
      parts = part_none b (part_fault b) kind i r.parts given lt;
      inside = part_none b (inside_fault b) kind i r.insides given lt;
    }

some_none : {fault : BoardFault} → Some fault ≡ None → ⊥
some_none e = absurd cc

-- two cores of one cpuid are one
pub one_cpuid : (b : Board) → IsValid b → (i j : ℕ) (a c : CoreRow) → slice_get b.core i ≡ Some a → slice_get b.core j ≡ Some c → a.cpuid ≡ c.cpuid → i ≡ j
unfolding first_part same_cpuid
one_cpuid b valid i j a c ea ec same =
    let r = rules b valid in
    let outer = kind_none b Core (λ p. first_part b (Core ∷ []) (λ q. same_cpuid b p q)) i (none_both _ _ r.cpuids).0 (slice_get_within b.core i a ea) in
    let inner : same_cpuid b (part_of Core i) (part_of Core j) ≡ None = kind_none b Core (λ q. same_cpuid b (part_of Core i) q) j (none_both _ _ outer).0 (slice_get_within b.core j c ec) in
    let equal : eqb a.cpuid c.cpuid ≡ true = eq-eqb _ _ same in
    elim (cases_eq i j) [
      | inl e ↦ e
      | inr ne ↦
          let no : eqb i j ≡ false = ne_eqb i j ne in
          let found : same_cpuid b (part_of Core i) (part_of Core j) ≡ Some (SameCpuid i j) = rw (no, ea, ec, equal) refl in
          absurd (some_none (sym found ∙ inner))
    ]

pub all_good : (part : Part) (checks : List (Key × Bool)) → numbers part checks ≡ None → AllByRecursion (λ check. check.1 ≡ true) checks
all_good part [] e = tt
all_good part ((key, true) ∷ checks) e = (refl, all_good part checks e)
all_good part ((key, false) ∷ checks) e = absurd cc

-- the depths of a UART's queues
pub depths : (b : Board) → IsValid b → (i : ℕ) (row : UartRow) → slice_get b.uart i ≡ Some row → (8 ≤ row.read_depth) × (row.read_depth ≤ 32768) × (8 ≤ row.write_depth) × (row.write_depth ≤ 32768)
unfolding number_fault uart_numbers
depths b valid i row e =
    let h : number_fault b (part_of Uart i) ≡ None = (keeps b valid Uart i (omega arith) (slice_get_within b.uart i row e)).numbers in
    let here : uart_numbers (part_of Uart i) row ≡ None = sym (ap (λ (o : Option UartRow). option_and_then (uart_numbers (part_of Uart i)) o) e) ∙ h in
    let checks : List (Key × Bool) =
    (keys.Base, is_base 2 row.base) ∷ (keys.Irq, is_irq row.irq) ∷ (keys.ReadDepth, is_between 8 32768 row.read_depth) ∷ (keys.WriteDepth, is_between 8 32768 row.write_depth) ∷ (keys.Input, leb (length row.input) 65536) ∷ []
    in
    let good = all_good (part_of Uart i) checks here in
    let r = and_parts (leb 8 row.read_depth) (leb row.read_depth 32768) good.1.1.0 in
    let w = and_parts (leb 8 row.write_depth) (leb row.write_depth 32768) good.1.1.1.0 in
    (leb-true _ _ r.0, leb-true _ _ r.1, leb-true _ _ w.0, leb-true _ _ w.1)

-- the bytes of a core's caches
pub caches : (b : Board) → IsValid b → (i : ℕ) (row : CoreRow) → slice_get b.core i ≡ Some row → (is_cache_size row.dcache ≡ true) × (is_cache_size row.icache ≡ true)
unfolding number_fault core_numbers
caches b valid i row e =
    let h : number_fault b (part_of Core i) ≡ None = (keeps b valid Core i (omega arith) (slice_get_within b.core i row e)).numbers in
    let here : core_numbers (part_of Core i) row ≡ None = sym (ap (λ (o : Option CoreRow). option_and_then (core_numbers (part_of Core i)) o) e) ∙ h in
    let checks : List (Key × Bool) =
    (keys.At, is_place 32 row.at) ∷ (keys.Exception, is_place 4 row.exception) ∷ (keys.Dcache, is_cache_size row.dcache) ∷ (keys.Icache, is_cache_size row.icache) ∷ (keys.Sample, leb 2 row.sample) ∷ (keys.Evict, not (eqb row.evict 1)) ∷ []
    in
    let good = all_good (part_of Core i) checks here in
    (good.1.1.0, good.1.1.1.0)
