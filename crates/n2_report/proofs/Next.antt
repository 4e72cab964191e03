-- Ends of cores, UARTs and dumped lines, one after another.
use Rattle.std.proofs.Common.{◌≡◌, ℕ, zero, suc, ◌+◌, ◌-◌, ◌*◌, ◌<◌, List, [], ◌∷◌, ◌++◌, map, drop, Bool, true, false, Option, Some, None, get_or, slice_get, refl, sym, ap, ◌∙◌, append_assoc, arith}
use Rattle.std.proofs.lemmas.List.{map-append}
use Rattle.n2_parts.specs.declared.board.UartRow.{UartRow}
use Rattle.n2_memory.specs.Memories.{Contents}
use Rattle.std.specs.Prelude.{option_and_then, option_map}
use Rattle.std.proofs.lemmas.Option.{slice_get_within}
use Rattle.n2_text.specs.Firsts.{unless}
use Rattle.n2_parts.specs.declared.board.Board.{Board}
use Rattle.n2_parts.specs.declared.board.BoardFault.{BoardFault}
use Rattle.n2_parts.specs.declared.board.BoardFault.TheVariants.{Inside}
use Rattle.n2_parts.specs.declared.board.DumpRow.{DumpRow}
use Rattle.n2_parts.specs.declared.board.PartKind.TheVariants.{Dump}
use Rattle.n2_parts.specs.Parts.{part_of}
use Rattle.n2_parts.specs.declared.spans.Spans.{Spans}
use Rattle.n2_parts.specs.Rules.{one, bytes_from, is_inside, inside_fault}
use Rattle.n2_parts.specs.Valid.{IsValid}
use Rattle.n2_parts.proofs.Sound.{keeps}
use Rattle.n2_report.specs.declared.ends.MemoryLine.{MemoryLine}
use Rattle.n2_report.specs.declared.ends.UartEnd.{UartEnd}
use Rattle.n2_report.specs.Flat.{Uart, uart_of}
use Rattle.n2_report.specs.OfFlat.{uarts_from, dumped_line, dumped_lines}

pub drop_at : {A : Type 0} (xs : List A) (k : ℕ) (x : A) → slice_get xs k ≡ Some x → drop k xs ≡ x ∷ drop (k + 1) xs
drop_at [] k x e = absurd (cc)
drop_at {A} (z ∷ xs) zero x e = ap (λ (y : A). y ∷ xs) (grind arith)
drop_at {A} (z ∷ xs) (suc k) x e = let s : suc k + 1 ≡ suc (k + 1) = omega arith in rw s (drop_at xs k x e)

-- the next element of a list that is made of another by two steps
pub next_made : {A B C : Type 0} (f : A → B) (g : B → C) (xs : List A) (k : ℕ) (x : A) (made : List C) (y : C) (all : List C) → slice_get xs k ≡ Some x → y ≡ g (f x) → made ++ map g (map f (drop k xs)) ≡ all → (made ++ y ∷ []) ++ map g (map f (drop (k + 1) xs)) ≡ all
next_made {A} {B} {C} f g xs k x made y all e h inv =
    append_assoc made (y ∷ []) (map g (map f (drop (k + 1) xs)))
    ∙ ap (λ (z : C). made ++ z ∷ map g (map f (drop (k + 1) xs))) h
    ∙ ap (λ (l : List A). made ++ map g (map f l)) (sym (drop_at xs k x e))
    ∙ inv

pub uart_next : (rows : List UartRow) (i : ℕ) (row : UartRow) (sent : List (List ℕ)) (made : List UartEnd) (end : UartEnd) (all : List Uart) → slice_get rows i ≡ Some row → uart_of end ≡ record { name = row.name; sent = get_or sent i [] } → map uart_of made ++ uarts_from i (drop i rows) sent ≡ all → map uart_of (made ++ end ∷ []) ++ uarts_from (i + 1) (drop (i + 1) rows) sent ≡ all
uart_next rows i row sent made end all e h inv =
    ap (λ (l : List Uart). l ++ uarts_from (i + 1) (drop (i + 1) rows) sent) (map-append uart_of made (end ∷ []))
    ∙ append_assoc (map uart_of made) (uart_of end ∷ []) (uarts_from (i + 1) (drop (i + 1) rows) sent)
    ∙ ap (λ (u : Uart). map uart_of made ++ u ∷ uarts_from (i + 1) (drop (i + 1) rows) sent) h
    ∙ ap (λ (l : List UartRow). map uart_of made ++ uarts_from i l sent) (sym (drop_at rows i row e))
    ∙ inv

pub lines_next : (memory : Contents) (at j n : ℕ) → j < n → dumped_lines memory at j (n - j) ≡ dumped_line memory (at + 32 * j) ∷ dumped_lines memory at (j + 1) (n - (j + 1))
lines_next memory at j n lt = let z : n - j ≡ suc (n - (j + 1)) = omega arith in rw z refl

pub line_next : (memory : Contents) (at j n : ℕ) (made : List MemoryLine) (line : MemoryLine) (all : List MemoryLine) → j < n → line ≡ dumped_line memory (at + 32 * j) → made ++ dumped_lines memory at j (n - j) ≡ all → (made ++ line ∷ []) ++ dumped_lines memory at (j + 1) (n - (j + 1)) ≡ all
line_next memory at j n made line all lt h inv =
    append_assoc made (line ∷ []) (dumped_lines memory at (j + 1) (n - (j + 1)))
    ∙ ap (λ (l : MemoryLine). made ++ l ∷ dumped_lines memory at (j + 1) (n - (j + 1))) h
    ∙ ap (λ (l : List MemoryLine). made ++ l) (sym (lines_next memory at j n lt))
    ∙ inv

good : (x : Bool) (fault : BoardFault) → unless x fault ≡ None → x ≡ true
good true fault h = refl
good false fault h = absurd (cc)

-- a dumped line is in a memory
pub dump_inside : (b : Board) → IsValid b → (i : ℕ) (row : DumpRow) → slice_get b.dump i ≡ Some row → is_inside b.memory (bytes_from row.at (32 * row.lines)) ≡ true
unfolding inside_fault
dump_inside b valid i row e =
    let h : inside_fault b (part_of Dump i) ≡ None = (keeps b valid Dump i (omega arith) (slice_get_within b.dump i row e)).inside in
    good _ _ (sym (ap (λ (o : Option DumpRow). option_and_then (λ (here : Spans). unless (is_inside b.memory here.first) (Inside (part_of Dump i))) (option_map (λ (row : DumpRow). one (bytes_from row.at (32 * row.lines))) o)) e) ∙ h)
