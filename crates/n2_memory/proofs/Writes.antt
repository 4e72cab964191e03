-- What a put line and a store leave.
use Rattle.std.proofs.Common.{◌≡◌, ◌≢◌, ℕ, ◌+◌, ◌*◌, ◌≤◌, ◌⊎◌, inl, inr, List, length, take, drop, get_or, eqb, IsTrue, ap, sym, ◌∙◌, arith, length-take, length-drop, length-append}
use Rattle.std.proofs.lemmas.Bool.{cases_Bool, eqb-true, eqb-false}
use Rattle.std.proofs.lemmas.List.{get_or-set_other}
use Rattle.std.proofs.Math.ListN.{length-set}
use Rattle.n2_word.specs.declared.Width.{Width}
use Rattle.n2_word.specs.Words.{size, is_aligned, lane_of, put_at, extracted, low_bits, merged}
use Rattle.n2_word.specs.Lines.{without_bypass, line, place_in_line, read_in_line, written_in_line}
use Rattle.n2_word.proofs.Places.{read_there, read_in_front, read_behind}
use Rattle.n2_word.proofs.Stores.{read-written, read-other_lane}
use Rattle.n2_parts.specs.MemoryLines.{HasLine, line_place}
use Rattle.n2_parts.proofs.LinePlaces.{one_place}
use Rattle.n2_memory.specs.Memories.{Contents, IsFull, first_word, line_at, with_line, read_at, written_at}
use Rattle.n2_memory.proofs.Lines.{line_within, length-eight}

pub length-line_at : (m : Contents) (l : ℕ) → IsFull m → HasLine m.memories l → length (line_at m l) ≡ 8
length-line_at m l full here = length-eight m.words (first_word m l) (line_within m l full here)

length-put_at : (xs : List ℕ) (n : ℕ) (new : List ℕ) → n + length new ≤ length xs → length (put_at xs n new) ≡ length xs
length-put_at xs n new fits = simp (length-append, length-take, length-drop) (omega arith)

pub full-with_line : (m : Contents) (l : ℕ) (new : List ℕ) → IsFull m → HasLine m.memories l → length new ≡ 8 → IsFull (with_line m l new)
full-with_line m l new full here long =
    let fits = line_within m l full here in (length-put_at m.words (first_word m l) new (omega arith) ∙ full.0, full.1)

-- ---- lines

pub same_line : (m : Contents) (l : ℕ) (new : List ℕ) → IsFull m → HasLine m.memories l → length new ≡ 8 → line_at (with_line m l new) l ≡ new
same_line m l new full here long =
    let fits = line_within m l full here in
    ap (λ n. take n (drop (first_word m l) (put_at m.words (first_word m l) new))) (sym long) ∙ read_there m.words (first_word m l) new (omega arith)

side : (p q : ℕ) → p ≢ q → (8 * p + 8 ≤ 8 * q) ⊎ (8 * q + 8 ≤ 8 * p)
side p q d = grind arith

pub other_line : (m : Contents) (l k : ℕ) (new : List ℕ) → IsFull m → HasLine m.memories l → HasLine m.memories k → k ≢ l → length new ≡ 8 → line_at (with_line m l new) k ≡ line_at m k
other_line m l k new full here there apart long =
    let fits = line_within m l full here in
    elim (side (line_place m.memories k) (line_place m.memories l) (λ e. apart (one_place m.memories k l there here e))) [
      | inl before ↦ read_in_front m.words (first_word m l) new (first_word m k) 8 (omega arith) before
      | inr behind ↦ read_behind m.words (first_word m l) new (first_word m k) 8 (omega arith) (omega arith)
    ]

-- ---- stores

length-written : (words : List ℕ) (address : ℕ) (width : Width) (value : ℕ) → length (written_in_line words address width value) ≡ length words
length-written words address width value = length-set words (place_in_line address) (merged (get_or words (place_in_line address) 0) (lane_of address) width value)

pub full-written_at : (m : Contents) (address : ℕ) (width : Width) (value : ℕ) → IsFull m → HasLine m.memories (line address) → IsFull (written_at m address width value)
full-written_at m address width value full here =
    full-with_line m (line address) _ full here (length-written (line_at m (line address)) address width value ∙ length-line_at m (line address) full here)

-- what was stored is read
pub read_same : (m : Contents) (address : ℕ) (width : Width) (value : ℕ) → IsFull m → HasLine m.memories (line address) → IsTrue (is_aligned address width) → read_at (written_at m address width value) address width ≡ low_bits width value
read_same m address width value full here aligned =
    let words : List ℕ = line_at m (line address) in
    let long : length words ≡ 8 = length-line_at m (line address) full here in
    ap (λ (ws : List ℕ). read_in_line ws address width) (same_line m (line address) (written_in_line words address width value) full here (length-written words address width value ∙ long))
    ∙ read-written words address width value long aligned

-- another line is as it was
pub read_other_line : (m : Contents) (address : ℕ) (width : Width) (value k : ℕ) → IsFull m → HasLine m.memories (line address) → HasLine m.memories k → k ≢ line address → line_at (written_at m address width value) k ≡ line_at m k
read_other_line m address width value k full here there apart =
    let words : List ℕ = line_at m (line address) in
    other_line m (line address) k (written_in_line words address width value) full here there apart (length-written words address width value ∙ length-line_at m (line address) full here)

in_line : (words : List ℕ) (address : ℕ) (width : Width) (value other : ℕ) (width' : Width) → length words ≡ 8 → IsTrue (is_aligned address width) → line other ≡ line address
    → (without_bypass other + size width' ≤ without_bypass address) ⊎ (without_bypass address + size width ≤ without_bypass other)
    → read_in_line (written_in_line words address width value) other width' ≡ read_in_line words other width'
in_line words address width value other width' long aligned same apart =
    elim (cases_Bool (eqb (place_in_line other) (place_in_line address))) [
      | inl place ↦
          let e : place_in_line other ≡ place_in_line address = eqb-true _ _ place in
          read-other_lane words address width value other width' long aligned e (elim apart [ inl before ↦ inl (omega arith) | inr behind ↦ inr (omega arith) ])
      | inr place ↦
          let ne : place_in_line other ≢ place_in_line address = eqb-false _ _ place in
          ap (λ w. extracted w (lane_of other) width') (get_or-set_other words (place_in_line address) (place_in_line other) _ 0 ne)
    ]

-- what is beside is as it was
pub read_beside : (m : Contents) (address : ℕ) (width : Width) (value other : ℕ) (width' : Width) → IsFull m → HasLine m.memories (line address) → HasLine m.memories (line other) → IsTrue (is_aligned address width)
    → (without_bypass other + size width' ≤ without_bypass address) ⊎ (without_bypass address + size width ≤ without_bypass other)
    → read_at (written_at m address width value) other width' ≡ read_at m other width'
read_beside m address width value other width' full here there aligned apart =
    let words : List ℕ = line_at m (line address) in
    let long : length words ≡ 8 = length-line_at m (line address) full here in
    elim (cases_Bool (eqb (line other) (line address))) [
      | inl one ↦
          let e : line other ≡ line address = eqb-true _ _ one in
          ap (λ l. read_in_line (line_at (written_at m address width value) l) other width') e
          ∙ ap (λ (ws : List ℕ). read_in_line ws other width') (same_line m (line address) (written_in_line words address width value) full here (length-written words address width value ∙ long))
          ∙ in_line words address width value other width' long aligned e apart
          ∙ ap (λ l. read_in_line (line_at m l) other width') (sym e)
      | inr two ↦ ap (λ (ws : List ℕ). read_in_line ws other width') (read_other_line m address width value (line other) full here there (eqb-false _ _ two))
    ]
