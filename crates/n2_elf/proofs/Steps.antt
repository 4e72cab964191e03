-- One step of each loop.
use Rattle.std.proofs.Common.{◌≡◌, ℕ, suc, ◌+◌, ◌-◌, ◌<◌, ◌≤◌, List, [], ◌∷◌, ◌++◌, length, get_or, drop, None, refl, sym, ap, ◌∙◌, append_assoc, drop-cons, arith}
use Rattle.std.proofs.lemmas.List.{append-nil, drop_all}
use Rattle.std.specs.Option.{option_or}
use Rattle.n2_elf.specs.declared.image.Segment.{Segment}
use Rattle.n2_elf.specs.Reading.{place_of, program_fault, programs_fault, loaded_at, segments_from}
use Rattle.n2_elf.specs.Writing.{program_bytes, programs_bytes, contents, contents_len}

pub programs_fault-next : (bytes : List ℕ) (i count : ℕ) → i < count → programs_fault bytes i (count - i) ≡ option_or (program_fault bytes i (place_of bytes i)) (programs_fault bytes (i + 1) (count - (i + 1)))
unfolding programs_fault
programs_fault-next bytes i count lt =
    let k : count - i ≡ suc (count - (i + 1)) = omega arith in rw k refl

pub programs_fault-done : (bytes : List ℕ) (i count : ℕ) → count ≤ i → programs_fault bytes i (count - i) ≡ None
unfolding programs_fault
programs_fault-done bytes i count le =
    let k : count - i ≡ 0 = omega arith in rw k refl

pub segments_from-next : (bytes : List ℕ) (i count : ℕ) → i < count → segments_from bytes i (count - i) ≡ loaded_at bytes (place_of bytes i) ++ segments_from bytes (i + 1) (count - (i + 1))
unfolding segments_from
segments_from-next bytes i count lt =
    let k : count - i ≡ suc (count - (i + 1)) = omega arith in rw k refl

pub segments_from-done : (bytes : List ℕ) (i count : ℕ) → count ≤ i → segments_from bytes i (count - i) ≡ []
unfolding segments_from
segments_from-done bytes i count le =
    let k : count - i ≡ 0 = omega arith in rw k refl

next : (segments : List Segment) (i : ℕ) (s : Segment) → i < length segments → s ≡ get_or segments i s → drop i segments ≡ s ∷ drop (i + 1) segments
next segments i s lt here =
    let k : i + 1 ≡ suc i = omega arith in
    rw k (drop-cons segments i s lt ∙ ap (λ (x : Segment). x ∷ drop (suc i) segments) (sym here))

pub programs_bytes-next : (offset : ℕ) (segments : List Segment) (i : ℕ) (s : Segment) → i < length segments → s ≡ get_or segments i s
    → programs_bytes offset (drop i segments) ≡ program_bytes offset s ++ programs_bytes (offset + length s.bytes) (drop (i + 1) segments)
unfolding programs_bytes
programs_bytes-next offset segments i s lt here = ap (programs_bytes offset) (next segments i s lt here)

pub contents-next : (segments : List Segment) (i : ℕ) (s : Segment) → i < length segments → s ≡ get_or segments i s
    → contents (drop i segments) ≡ s.bytes ++ contents (drop (i + 1) segments)
unfolding contents
contents-next segments i s lt here = ap contents (next segments i s lt here)

pub contents_len-next : (segments : List Segment) (i : ℕ) (s : Segment) → i < length segments → s ≡ get_or segments i s
    → contents_len (drop i segments) ≡ length s.bytes + contents_len (drop (i + 1) segments)
unfolding contents_len
contents_len-next segments i s lt here = ap contents_len (next segments i s lt here)

more : (out new piece rest all whole : List ℕ) → new ≡ out ++ piece → whole ≡ piece ++ rest → out ++ whole ≡ all → new ++ rest ≡ all
more out new piece rest all whole grown parts so_far =
    ap (λ (x : List ℕ). x ++ rest) grown ∙ append_assoc out piece rest ∙ ap (λ (x : List ℕ). out ++ x) (sym parts) ∙ so_far

pub contents-more : (out new all : List ℕ) (segments : List Segment) (i : ℕ) (s : Segment) → i < length segments → s ≡ get_or segments i s
    → new ≡ out ++ s.bytes → out ++ contents (drop i segments) ≡ all → new ++ contents (drop (i + 1) segments) ≡ all
contents-more out new all segments i s lt here grown so_far =
    more out new s.bytes (contents (drop (i + 1) segments)) all (contents (drop i segments)) grown (contents-next segments i s lt here) so_far

pub programs-more : (offset : ℕ) (out new all : List ℕ) (segments : List Segment) (i : ℕ) (s : Segment) → i < length segments → s ≡ get_or segments i s
    → new ≡ out ++ program_bytes offset s → out ++ programs_bytes offset (drop i segments) ≡ all → new ++ programs_bytes (offset + length s.bytes) (drop (i + 1) segments) ≡ all
programs-more offset out new all segments i s lt here grown so_far =
    more out new (program_bytes offset s) (programs_bytes (offset + length s.bytes) (drop (i + 1) segments)) all (programs_bytes offset (drop i segments)) grown (programs_bytes-next offset segments i s lt here) so_far

ended : (out rest all : List ℕ) → rest ≡ [] → out ++ rest ≡ all → out ≡ all
ended out rest all nothing so_far = sym (append-nil out) ∙ ap (λ (x : List ℕ). out ++ x) (sym nothing) ∙ so_far

contents-nothing : (segments : List Segment) (i : ℕ) → length segments ≤ i → contents (drop i segments) ≡ []
unfolding contents
contents-nothing segments i le = ap contents (drop_all i segments le)

programs-nothing : (offset : ℕ) (segments : List Segment) (i : ℕ) → length segments ≤ i → programs_bytes offset (drop i segments) ≡ []
unfolding programs_bytes
programs-nothing offset segments i le = ap (programs_bytes offset) (drop_all i segments le)

pub contents-done : (out all : List ℕ) (segments : List Segment) (i : ℕ) → length segments ≤ i → out ++ contents (drop i segments) ≡ all → out ≡ all
contents-done out all segments i le so_far = ended out (contents (drop i segments)) all (contents-nothing segments i le) so_far

pub programs-done : (offset : ℕ) (out all : List ℕ) (segments : List Segment) (i : ℕ) → length segments ≤ i → out ++ programs_bytes offset (drop i segments) ≡ all → out ≡ all
programs-done offset out all segments i le so_far = ended out (programs_bytes offset (drop i segments)) all (programs-nothing offset segments i le) so_far

pub loaded-more : (bytes : List ℕ) (i count : ℕ) (out new all : List Segment) → i < count → new ≡ out ++ loaded_at bytes (place_of bytes i)
    → out ++ segments_from bytes i (count - i) ≡ all → new ++ segments_from bytes (i + 1) (count - (i + 1)) ≡ all
loaded-more bytes i count out new all lt grown so_far =
    let rest : List Segment = segments_from bytes (i + 1) (count - (i + 1)) in
    ap (λ (x : List Segment). x ++ rest) grown ∙ append_assoc out (loaded_at bytes (place_of bytes i)) rest
    ∙ ap (λ (x : List Segment). out ++ x) (sym (segments_from-next bytes i count lt)) ∙ so_far

pub loaded-done : (bytes : List ℕ) (i count : ℕ) (out all : List Segment) → count ≤ i → out ++ segments_from bytes i (count - i) ≡ all → out ≡ all
loaded-done bytes i count out all le so_far =
    sym (append-nil out) ∙ ap (λ (x : List Segment). out ++ x) (sym (segments_from-done bytes i count le)) ∙ so_far
