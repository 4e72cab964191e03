-- Records with nothing past stand for no past events.
use Rattle.std.proofs.Common.{◌≡◌, ℕ, zero, suc, ◌<◌, List, [], length, get_or, replicate, refl, sym, ◌∙◌, arith, Bool, true, false, ◌&&◌, nat_lt, nat_eq}
use Rattle.std.proofs.lemmas.Bool.Decides.{nat_tests}
use Rattle.n2_word.specs.Lines.{set_for}
use Rattle.n2_board.specs.AddressMap.{AddressMap}
use Rattle.n2_watch.specs.declared.records.Record.{Record}
use Rattle.n2_watch.specs.declared.runs.Run.{Run}
use Rattle.n2_watch.specs.Table.{opened_table, record_at, cleaned_for, counted}
use Rattle.n2_watch.specs.Stands.{LineStands, LinesStand, AreBuilt}
use Rattle.n2_watch.proofs.RecordCounts.{count_none}

abbrev pub zeros : ℕ → List ℕ
zeros n = replicate n 0

pub nothing_cleaned : (n k : ℕ) → get_or (zeros n) k 0 ≡ 0
nothing_cleaned zero k = refl
nothing_cleaned (suc n) zero = refl
nothing_cleaned (suc n) (suc k) = nothing_cleaned n k

pub length_zeros : (n : ℕ) → length (zeros n) ≡ n
length_zeros zero = refl
length_zeros (suc n) = let e = length_zeros n in omega arith

untouched_line : (r : Record) (c n : ℕ) → c ≡ 0 → n ≡ 0 → r.first ≡ 0 → r.stored ≡ 0 → LineStands r c n 0 false false false
untouched_line r c n e f p q = record {
  may_now = grind (arith, nat_tests);
  dirty_now = grind (arith, nat_tests);
  stale_now = grind (arith, nat_tests);
  first = omega arith;
  stored = omega arith;
  cleaned = omega arith;
  got = omega arith;
}

none_counted : (sets set : ℕ) (r : Record) → r.stored ≡ 0 → counted (zeros sets) set r ≡ false
none_counted sets set r q = both (nat_eq (set_for r.line (length (zeros sets))) set) (nat_lt (get_or (zeros sets) (set_for r.line (length (zeros sets))) 0) r.stored) (grind (arith, nat_tests))
  where
    both : (a b : Bool) → b ≡ false → (a && b) ≡ false
    both true b h = h
    both false b h = refl

pub start_stands : (map : AddressMap) (runs : List Run) (rs : List Record) (bound sets slots : ℕ) → 0 < sets → AreBuilt map runs rs bound → LinesStand map (opened_table runs rs sets slots) []
start_stands map runs rs bound sets slots some b = record {
  table = record { runs = b.are_runs; slots = b.slots; sets = omega (arith, length_zeros sets); counts = refl };
  stand = record {
    lines = λ i w. (let u = b.untouched i w in untouched_line (record_at rs i) (cleaned_for (zeros sets) (record_at rs i)) (get_or (zeros slots) (record_at rs i).slot 0) (nothing_cleaned sets (set_for (record_at rs i).line (length (zeros sets)))) (nothing_cleaned slots (record_at rs i).slot) u.0 u.1);
    others = λ number n. record { may = refl; dirty = refl; stale = refl };
    counts = λ set w. nothing_cleaned sets set ∙ sym (count_none (counted (zeros sets) set) rs (λ i l. none_counted sets set (record_at rs i) (b.untouched i l).1));
  };
}
