-- What a run's report shows is what the run's state has.
use Rattle.std.proofs.Common.{◌≡◌, ℕ, zero, suc, ◌+◌, ◌-◌, ◌<◌, List, [], ◌∷◌, ◌++◌, length, map, slice_get, Option, Some, Result, Ok, Err, refl, sym, ap, ◌∙◌, append_assoc, arith}
use Rattle.std.specs.Prelude.{IfOk}
use Rattle.n2_parts.specs.declared.board.Board.{Board}
use Rattle.n2_parts.specs.declared.board.UartRow.{UartRow}
use Rattle.n2_parts.specs.declared.stops.Stop.{Stop}
use Rattle.n2_board.specs.AddressMap.{AddressMap}
use Rattle.n2_journal.specs.declared.entry.Entry.{Entry}
use Rattle.n2_watch.proofs.KeptLists.{element_at}
use Rattle.n2_front.specs.Core.{Core}
use Rattle.n2_front.specs.Core as front
use Rattle.n2_runs.specs.Machine.{Machine}
use Rattle.n2_smp.specs.declared.machine.Ran.{Ran}
use Rattle.n2_smp.specs.Standing.{RanStandsFor}
use Rattle.n2_report.specs.declared.ends.CoreEnd.{CoreEnd}
use Rattle.n2_report.specs.declared.ends.MemoryLine.{MemoryLine}
use Rattle.n2_report.specs.declared.transfers.Transfers.{Transfers}
use Rattle.n2_report.specs.Report.{report_text}
use Rattle.n2_report.specs.Flat.{Uart}
use Rattle.n2_report.specs.OfRun.{given_to, uarts_given, core_end}
use Rattle.n2_report.specs.OfRun as run
use Rattle.n2_report.specs.Ran.{end_of, turns_of, stop_of, all_given, named}

pub if_ok : {A E : Type 0} (P Q : A → Type 0) (r : Result A E) → ((a : A) → P a → Q a) → IfOk r P → IfOk r Q
if_ok P Q (Ok a) f h = f a h
if_ok P Q (Err e) f h = h

-- ---- UARTs

pub given_count : (map' : AddressMap) (entries : List Entry) (i n : ℕ) → length (all_given map' entries i n) ≡ n
given_count map' entries i zero = refl
given_count map' entries i (suc n) = ap suc (given_count map' entries (i + 1) n)

pub given_next : (map' : AddressMap) (entries : List Entry) (i n : ℕ) (made : List (List ℕ)) (bytes : List ℕ) (all : List (List ℕ)) → i < n → bytes ≡ given_to map' i entries → made ++ all_given map' entries i (n - i) ≡ all → (made ++ bytes ∷ []) ++ all_given map' entries (i + 1) (n - (i + 1)) ≡ all
given_next map' entries i n made bytes all lt e inv =
    let z : n - i ≡ suc (n - (i + 1)) = omega arith in
    append_assoc made (bytes ∷ []) (all_given map' entries (i + 1) (n - (i + 1)))
    ∙ ap (λ (b : List ℕ). made ++ b ∷ all_given map' entries (i + 1) (n - (i + 1))) e
    ∙ ap (λ (k : ℕ). made ++ all_given map' entries i k) (sym z)
    ∙ inv

pub named_given : (map' : AddressMap) (entries : List Entry) (i : ℕ) (rows : List UartRow) → named rows (all_given map' entries i (length rows)) ≡ uarts_given map' i rows entries
named_given map' entries i [] = refl
named_given map' entries i (row ∷ rows) = ap (λ (us : List Uart). record { name = row.name; sent = given_to map' i entries } ∷ us) (named_given map' entries (i + 1) rows)

-- ---- cores

same_map : {A B C : Type 0} (f : A → C) (g : B → C) (xs : List A) (ys : List B) → length xs ≡ length ys → ((k : ℕ) (x : A) (y : B) → slice_get xs k ≡ Some x → slice_get ys k ≡ Some y → f x ≡ g y) → map f xs ≡ map g ys
same_map f g [] [] n h = refl
same_map f g [] (y ∷ ys) n h = absurd (cc)
same_map f g (x ∷ xs) [] n h = absurd (cc)
same_map {C} f g (x ∷ xs) (y ∷ ys) n h =
    let rest : length xs ≡ length ys = omega (arith, n) in
    ap (λ (z : C). z ∷ map f xs) (h 0 x y refl refl) ∙ ap (λ (zs : List C). g y ∷ zs) (same_map f g xs ys rest (λ k u v a c. h (suc k) u v a c))

module _ (b : Board) (map' : AddressMap) (ran : Ran) (m : Machine) (h : RanStandsFor b map' ran m) (count : length m.cores ≡ length b.core) where
  pub same_ends : map end_of ran.cores ≡ map core_end m.cores
  same_ends =
      same_map end_of core_end ran.cores m.cores (h.count ∙ sym count) (λ k s c found there.
      let stands = h.cores k s c found there in
      ap (λ r. record { regs = r; stop = s.stop }) (sym stands.regs) ∙ ap (λ (o : Option Stop). record { regs = c.front.regs; stop = o }) stands.stop)

  pub same_turns : map turns_of ran.cores ≡ map run.turns_of m.cores
  same_turns =
      same_map turns_of run.turns_of ran.cores m.cores (h.count ∙ sym count) (λ k s c found there.
      let stands = h.cores k s c found there in
      let row = element_at b.core k stands.within in
      sym (stands.row row.0 row.1).turns)

  pub same_stops : map stop_of ran.cores ≡ map (λ (c : Core). front.stop_of c) m.cores
  same_stops = same_map stop_of (λ (c : Core). front.stop_of c) ran.cores m.cores (h.count ∙ sym count) (λ k s c found there. (h.cores k s c found there).stop)

pub same_report : (cores ends : List CoreEnd) (turns counts : List ℕ) (uarts given : List Uart) (made transfers : Transfers) (lines memory : List MemoryLine) → cores ≡ ends → turns ≡ counts → uarts ≡ given → made ≡ transfers → lines ≡ memory → report_text cores turns uarts made lines ≡ report_text ends counts given transfers memory
same_report cores ends turns counts uarts given made transfers lines memory a b c d e =
    ap (λ (x : List CoreEnd). report_text x turns uarts made lines) a
    ∙ ap (λ (x : List ℕ). report_text ends x uarts made lines) b
    ∙ ap (λ (x : List Uart). report_text ends counts x made lines) c
    ∙ ap (λ (x : Transfers). report_text ends counts given x lines) d
    ∙ ap (λ (x : List MemoryLine). report_text ends counts given transfers x) e
