-- What is read from a line after a store.
use Rattle.std.proofs.Common.{◌≡◌, ℕ, ◌+◌, ◌≤◌, ◌⊎◌, List, length, get_or, IsTrue, sym, ap, ◌∙◌, arith}
use Rattle.std.proofs.lemmas.List.{get_or-set_same}
use Rattle.n2_word.specs.declared.Width.{Width}
use Rattle.n2_word.specs.Words.{size, is_aligned, lane_of, extracted, merged, low_bits}
use Rattle.n2_word.specs.Lines.{place_in_line, read_in_line, written_in_line}
use Rattle.n2_word.proofs.Lanes.{extracted-merged, extracted-beside, aligned_lane}

pub word_there : (words : List ℕ) (address : ℕ) (width : Width) (value : ℕ) → length words ≡ 8 → get_or (written_in_line words address width value) (place_in_line address) 0 ≡ merged (get_or words (place_in_line address) 0) (lane_of address) width value
word_there words address width value long = get_or-set_same words (place_in_line address) (merged (get_or words (place_in_line address) 0) (lane_of address) width value) 0 (omega arith)

pub read-written : (words : List ℕ) (address : ℕ) (width : Width) (value : ℕ) → length words ≡ 8 → IsTrue (is_aligned address width) → read_in_line (written_in_line words address width value) address width ≡ low_bits width value
read-written words address width value long h =
    ap (λ w. extracted w (lane_of address) width) (word_there words address width value long)
    ∙ extracted-merged (get_or words (place_in_line address) 0) (lane_of address) width value (omega arith) (aligned_lane address width h)

pub read-other_lane : (words : List ℕ) (address : ℕ) (width : Width) (value other : ℕ) (width' : Width) → length words ≡ 8 → IsTrue (is_aligned address width) → place_in_line other ≡ place_in_line address → (lane_of other + size width' ≤ lane_of address) ⊎ (lane_of address + size width ≤ lane_of other) → read_in_line (written_in_line words address width value) other width' ≡ read_in_line words other width'
read-other_lane words address width value other width' long h same apart =
    ap (λ p. extracted (get_or (written_in_line words address width value) p 0) (lane_of other) width') same
    ∙ ap (λ w. extracted w (lane_of other) width') (word_there words address width value long)
    ∙ extracted-beside (get_or words (place_in_line address) 0) (lane_of address) width value (lane_of other) width' (omega arith) (aligned_lane address width h) apart
    ∙ ap (λ p. extracted (get_or words p 0) (lane_of other) width') (sym same)
