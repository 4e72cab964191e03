-- The segments of a file without a fault have room for their bytes.
use Rattle.std.proofs.Common.{◌≡◌, ℕ, zero, suc, ◌+◌, ◌≤◌, Bool, true, false, cond, List, [], ◌∷◌, ◌++◌, length, take, drop, min, Option, Some, None, refl, arith}
use Rattle.std.specs.List.{AllByRecursion}
use Rattle.std.specs.Option.{option_or}
use Rattle.std.proofs.lemmas.Bool.{leb-true}
use Rattle.std.proofs.lemmas.List.{length-take}
use Rattle.n2_text.specs.Firsts.{unless}
use Rattle.n2_elf.specs.declared.image.Segment.{Segment}
use Rattle.n2_elf.specs.declared.image.ElfFault.{ElfFault}
use Rattle.n2_elf.specs.declared.image.ElfFault.TheVariants.{Cut, Sizes}
use Rattle.n2_elf.specs.Reading.{HoldsItsBytes, place_of, filesz_at, memsz_at, offset_at, is_loaded, segment_fault, program_fault, programs_fault, segment_at, loaded_at, segments_from}

both : (f g : Option ElfFault) → option_or f g ≡ None → (f ≡ None) × (g ≡ None)
both None g h = (refl, h)
both (Some fault) g h = absurd cc

appended : (a b : List Segment) → AllByRecursion HoldsItsBytes a → AllByRecursion HoldsItsBytes b → AllByRecursion HoldsItsBytes (a ++ b)
appended [] b h g = g
appended (s ∷ a) b h g = (h.0, appended a b h.1 g)

fits : (small : Bool) (fault : ElfFault) (other : Option ElfFault) → option_or (unless small fault) other ≡ None → small ≡ true
fits true fault other h = refl
fits false fault other h = absurd cc

room : (bytes : List ℕ) (i place : ℕ) → segment_fault bytes i place ≡ None → HoldsItsBytes (segment_at bytes place)
unfolding segment_at
room bytes i place h =
    let small : filesz_at bytes place ≤ memsz_at bytes place = leb-true _ _ (fits _ (Sizes i) _ h) in
    let least : length (take (filesz_at bytes place) (drop (offset_at bytes place) bytes)) ≡ min (filesz_at bytes place) (length (drop (offset_at bytes place) bytes)) = length-take (filesz_at bytes place) (drop (offset_at bytes place) bytes) in
    omega (arith, small, least)

loaded : (held : Bool) (bytes : List ℕ) (i place : ℕ) → cond held (segment_fault bytes i place) None ≡ None → AllByRecursion HoldsItsBytes (cond held (segment_at bytes place ∷ []) [])
loaded true bytes i place h = (room bytes i place h, tt)
loaded false bytes i place h = tt

one : (cut : Bool) (cause : ElfFault) (bytes : List ℕ) (i place : ℕ) → cond cut (Some cause) (cond (is_loaded bytes place) (segment_fault bytes i place) None) ≡ None → AllByRecursion HoldsItsBytes (loaded_at bytes place)
one true cause bytes i place h = absurd cc
one false cause bytes i place h = loaded (is_loaded bytes place) bytes i place h

at_header : (bytes : List ℕ) (i place : ℕ) → program_fault bytes i place ≡ None → AllByRecursion HoldsItsBytes (loaded_at bytes place)
unfolding program_fault
at_header bytes i place h = one _ (Cut place) bytes i place h

pub segments_hold : (bytes : List ℕ) (i n : ℕ) → programs_fault bytes i n ≡ None → AllByRecursion HoldsItsBytes (segments_from bytes i n)
unfolding programs_fault segments_from
segments_hold bytes i zero h = tt
segments_hold bytes i (suc n) h =
    let parts = both (program_fault bytes i (place_of bytes i)) (programs_fault bytes (i + 1) n) h in
    appended (loaded_at bytes (place_of bytes i)) (segments_from bytes (i + 1) n) (at_header bytes i (place_of bytes i) parts.0) (segments_hold bytes (i + 1) n parts.1)
