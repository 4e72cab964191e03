-- The bits of wires, joined one after another, and which they are.
use Rattle.std.proofs.Common.{◌≡◌, ℕ, ◌+◌, ◌<◌, ◌≤◌, Bool, true, false, eqb, List, [], ◌∷◌, length, get_or, drop, bit_or, max, refl, sym, ap, ◌∙◌, arith}
use Rattle.std.specs.Prelude.{◌&&◌, ◌||◌, if◌then◌else◌}
use Rattle.std.specs.List.{list_any, AllByRecursion}
use Rattle.std.specs.Int.{bit_at}
use Rattle.std.specs.Int.Bits.{or_zero_r}
use Rattle.std.proofs.lemmas.List.{drop_more, drop_all}
use Rattle.std.proofs.lemmas.List.FromFn.{get_or-map-range_with_len}
use Rattle.std.proofs.lemmas.Bool.{ne_eqb}
use Rattle.std.proofs.lemmas.Bool.Decides.{nat_tests}
use Rattle.std.proofs.lemmas.Nat.Bits.{bit_at_or, bit_at-lt, bit_at-zero, same_from_bits}
use Rattle.n2_word.specs.Words.{has_bit}
use Rattle.n2_parts.specs.declared.board.Board.{Board}
use Rattle.n2_devices.specs.declared.wires.Wire.{Wire}
use Rattle.n2_devices.specs.Devices.{Devices}
use Rattle.n2_devices.specs.Wires.{wires_to, wires_of, is_on, bit_shown, shown, lines}

or_assoc : (a b c : ℕ) → bit_or (bit_or a b) c ≡ bit_or a (bit_or b c)
or_assoc a b c =
    same_from_bits (bit_or (bit_or a b) c) (bit_or a (bit_or b c))
    (λ i.
    omega (arith, bit_at_or (bit_or a b) c i, bit_at_or a b i, bit_at_or a (bit_or b c) i, bit_at_or b c i))

-- one more wire
pub shown_more : (d : Devices) (wires : List Wire) (i lines bit : ℕ) (wire : Wire) → i < length wires → bit ≡ bit_shown d (get_or wires i wire) → bit_or (bit_or lines bit) (shown d (drop (i + 1) wires)) ≡ bit_or lines (shown d (drop i wires))
shown_more d wires i lines bit wire within e =
    or_assoc lines bit (shown d (drop (i + 1) wires))
    ∙ ap (λ n. bit_or lines (bit_or n (shown d (drop (i + 1) wires)))) e
    ∙ ap (λ (ws : List Wire). bit_or lines (shown d ws)) (sym (drop_more wires i wire within))

-- no more wires
pub shown_end : (d : Devices) (wires : List Wire) (i lines : ℕ) → length wires ≤ i → bit_or lines (shown d (drop i wires)) ≡ lines
shown_end d wires i lines past =
    ap (λ (ws : List Wire). bit_or lines (shown d ws)) (drop_all i wires past) ∙ or_zero_r lines

-- the wires that are listed for a core
pub shown_listed : (b : Board) (d : Devices) (core : ℕ) → core < length b.core → shown d (get_or (wires_of b) core []) ≡ lines b d core
shown_listed b d core within =
    ap (shown d) (get_or-map-range_with_len (wires_to b) 0 (length b.core) core core [] within (omega arith))

-- ---- bits

one_of_two : (x y : ℕ) → x < 2 → y < 2 → eqb (max x y) 1 ≡ (eqb x 1 || eqb y 1)
one_of_two x y a b = grind (arith, nat_tests)

-- a bit of two numbers joined
has_bit-or : (a b i : ℕ) → has_bit (bit_or a b) i ≡ (has_bit a i || has_bit b i)
has_bit-or a b i =
    ap (λ n. eqb n 1) (bit_at_or a b i) ∙ one_of_two (bit_at a i) (bit_at b i) (bit_at-lt a i) (bit_at-lt b i)

has_bit-zero : (i : ℕ) → has_bit 0 i ≡ false
has_bit-zero i = ne_eqb (bit_at 0 i) 1 (λ e. absurd (omega (arith, bit_at-zero i)))

has_bit-shown : (on : Bool) (bit i : ℕ) → has_bit (if on then bit else 0) i ≡ (on && has_bit bit i)
has_bit-shown true bit i = refl
has_bit-shown false bit i = has_bit-zero i

pub shown_bits : (d : Devices) (wires : List Wire) (i : ℕ) → has_bit (shown d wires) i ≡ list_any {X = Wire} (λ wire. is_on d wire.source && has_bit wire.bit i) wires
shown_bits d [] i = has_bit-zero i
shown_bits d (wire ∷ wires) i =
    has_bit-or (bit_shown d wire) (shown d wires) i
    ∙ ap (λ x. x || has_bit (shown d wires) i) (has_bit-shown (is_on d wire.source) wire.bit i)
    ∙ ap (λ x. (is_on d wire.source && has_bit wire.bit i) || x) (shown_bits d wires i)

-- ---- what they depend on

shown_same : (d e : Devices) (wires : List Wire) → AllByRecursion {X = Wire} (λ wire. is_on d wire.source ≡ is_on e wire.source) wires → shown d wires ≡ shown e wires
shown_same d e [] all = refl
shown_same d e (wire ∷ wires) all =
    ap (λ on. bit_or (if on then wire.bit else 0) (shown d wires)) all.0
    ∙ ap (bit_or (bit_shown e wire)) (shown_same d e wires all.1)

pub lines_same : (b : Board) (d e : Devices) (core : ℕ) → AllByRecursion {X = Wire} (λ wire. is_on d wire.source ≡ is_on e wire.source) (wires_to b core) → lines b d core ≡ lines b e core
lines_same b d e core all = shown_same d e (wires_to b core) all
