-- A cache as a finite map from lines.
use Rattle.std.proofs.Common.{◌≡◌, ◌≢◌, ℕ, ◌/◌, ◌<◌, ◌≤◌, inl, inr, true, false, cond, eqb, List, length, Option, Some, None, refl, sym, ap, subst, ◌∙◌, arith}
use Rattle.std.specs.Prelude.{option_map, is_some, IsTrue}
use Rattle.std.proofs.Math.ListN.{set}
use Rattle.std.proofs.lemmas.List.{length-set, length-replicate, get_or-replicate, get_or-set_same, get_or-set_other, get_or_past, set_past}
use Rattle.std.proofs.lemmas.Bool.{cases_eq, cases_lt, cases_Bool, cond-true, cond-false, eq-eqb, ne_eqb, eqb-true, false≢true}
use Rattle.std.proofs.lemmas.Option.{none-some, same_Some}
use Rattle.n2_word.specs.declared.Width.{Width}
use Rattle.n2_word.specs.Lines.{line, set_for}
use Rattle.n2_dcache.specs.declared.Held.{Held}
use Rattle.n2_dcache.specs.Cache.{slot_at, own_set, is_line, is_dirty, has_line, held_line, stored_in, stored, clean_line, filled, set_dropped, line_dropped, opened, IsPlaced}

-- what a set holds, where it is this line
abbrev seen : Option Held → ℕ → Option Held
seen slot number = cond (is_line slot number) slot None

-- ---- one set written

own_set-set : (slots : List (Option Held)) (s : ℕ) (v : Option Held) (number : ℕ) → own_set (set slots s v) number ≡ own_set slots number
own_set-set slots s v number = ap (set_for number) (length-set slots s v)

pub own_below : (slots : List (Option Held)) (number : ℕ) → 0 < length slots → own_set slots number < length slots
own_below slots number some = omega arith

seen_there : (slots : List (Option Held)) (s : ℕ) (v : Option Held) (number : ℕ) → s < length slots → own_set slots number ≡ s → held_line (set slots s v) number ≡ seen v number
seen_there slots s v number within e =
    ap (λ t. seen (slot_at (set slots s v) t) number) (own_set-set slots s v number ∙ e)
    ∙ ap (λ o. seen o number) (get_or-set_same slots s v None within)

seen_elsewhere : (slots : List (Option Held)) (s : ℕ) (v : Option Held) (number : ℕ) → own_set slots number ≢ s → held_line (set slots s v) number ≡ held_line slots number
seen_elsewhere slots s v number other =
    ap (λ t. seen (slot_at (set slots s v) t) number) (own_set-set slots s v number)
    ∙ ap (λ o. seen o number) (get_or-set_other slots s (own_set slots number) v None other)

-- ---- the finite map

is_line_of : (slot : Option Held) (number : ℕ) (held : Held) → seen slot number ≡ Some held → (slot ≡ Some held) × (held.line ≡ number)
is_line_of None number held e = absurd (none-some held e)
is_line_of (Some h) number held e =
    elim (cases_Bool (eqb h.line number)) [
      | inl same ↦
          let there : Some h ≡ Some held = sym (cond-true (eqb h.line number) (Some h) None same) ∙ e in
          (there, ap (λ (x : Held). x.line) (sym (same_Some h held there)) ∙ eqb-true h.line number same)
      | inr other ↦ absurd (none-some held (sym (cond-false (eqb h.line number) (Some h) None other) ∙ e))
    ]

pub held_line_is : (slots : List (Option Held)) (number : ℕ) (held : Held) → held_line slots number ≡ Some held → (slot_at slots (own_set slots number) ≡ Some held) × (held.line ≡ number)
held_line_is slots number held e = is_line_of (slot_at slots (own_set slots number)) number held e

pub slot_is_found : (slots : List (Option Held)) (s : ℕ) (held : Held) → IsPlaced slots → slot_at slots s ≡ Some held → held_line slots held.line ≡ Some held
slot_is_found slots s held placed e =
    ap (λ t. seen (slot_at slots t) held.line) (placed.own s held e)
    ∙ ap (λ o. seen o held.line) e
    ∙ cond-true (eqb held.line held.line) (Some held) None (eq-eqb held.line held.line refl)

pub one_slot : (slots : List (Option Held)) (a b : ℕ) (held other : Held) → IsPlaced slots → slot_at slots a ≡ Some held → slot_at slots b ≡ Some other → held.line ≡ other.line → a ≡ b
one_slot slots a b held other placed p q same = sym (placed.own a held p) ∙ ap (own_set slots) same ∙ placed.own b other q

pub one_line : (slots : List (Option Held)) (number other : ℕ) (held held' : Held) → held_line slots number ≡ Some held → held_line slots other ≡ Some held' → own_set slots number ≡ own_set slots other → number ≡ other
one_line slots number other held held' p q same =
    let a = held_line_is slots number held p in
    let b = held_line_is slots other held' q in
    let one : Some held ≡ Some held' = sym a.0 ∙ ap (slot_at slots) same ∙ b.0 in
    sym a.1 ∙ ap (λ (x : Held). x.line) (same_Some held held' one) ∙ b.1

is_some-seen : (slot : Option Held) (number : ℕ) → is_some (seen slot number) ≡ is_line slot number
is_some-seen None number = refl
is_some-seen (Some h) number = elim (eqb h.line number) as (λ b. is_some (cond b (Some h) None) ≡ b) [ true ↦ refl | false ↦ refl ]

pub is_some-held_line : (slots : List (Option Held)) (number : ℕ) → is_some (held_line slots number) ≡ has_line slots number
is_some-held_line slots number = is_some-seen (slot_at slots (own_set slots number)) number

-- ---- a line filled

pub held_line-filled : (slots : List (Option Held)) (number : ℕ) (words : List ℕ) → 0 < length slots → held_line (filled slots number words) number ≡ Some (clean_line number words)
held_line-filled slots number words some =
    seen_there slots (own_set slots number) (Some (clean_line number words)) number (own_below slots number some) refl
    ∙ cond-true (eqb number number) (Some (clean_line number words)) None (eq-eqb number number refl)

pub held_line-filled_same : (slots : List (Option Held)) (number : ℕ) (words : List ℕ) (other : ℕ) → 0 < length slots → other ≢ number → own_set slots other ≡ own_set slots number → held_line (filled slots number words) other ≡ None
held_line-filled_same slots number words other some ne same =
    seen_there slots (own_set slots number) (Some (clean_line number words)) other (own_below slots number some) same
    ∙ cond-false (eqb number other) (Some (clean_line number words)) None (ne_eqb number other (λ e. ne (sym e)))

pub held_line-filled_other : (slots : List (Option Held)) (number : ℕ) (words : List ℕ) (other : ℕ) → own_set slots other ≢ own_set slots number → held_line (filled slots number words) other ≡ held_line slots other
held_line-filled_other slots number words other ne = seen_elsewhere slots (own_set slots number) (Some (clean_line number words)) other ne

-- ---- a line stored into

within : (slots : List (Option Held)) (number : ℕ) → has_line slots number ≡ true → own_set slots number < length slots
within slots number there =
    elim (cases_lt (own_set slots number) (length slots)) [
      | inl lt ↦ lt
      | inr past ↦ absurd (false≢true (ap (λ o. is_line o number) (sym (get_or_past slots (own_set slots number) None past)) ∙ there))
    ]

seen-stored : (f : Held → Held) → ((h : Held) → (f h).line ≡ h.line) → (slot : Option Held) (number : ℕ) → seen (option_map f slot) number ≡ option_map f (seen slot number)
seen-stored f keeps None number = refl
seen-stored f keeps (Some h) number =
    ap (λ n. cond (eqb n number) (Some (f h)) None) (keeps h)
    ∙ elim (eqb h.line number) as (λ b. cond b (Some (f h)) None ≡ option_map f (cond b (Some h) None)) [ true ↦ refl | false ↦ refl ]

pub held_line-stored : (slots : List (Option Held)) (address : ℕ) (width : Width) (value : ℕ) → IsTrue (has_line slots (line address)) → held_line (stored slots address width value) (line address) ≡ option_map (stored_in address width value) (held_line slots (line address))
held_line-stored slots address width value there =
    let s : ℕ = own_set slots (line address) in
    seen_there slots s (option_map (stored_in address width value) (slot_at slots s)) (line address) (within slots (line address) there) refl
    ∙ seen-stored (stored_in address width value) (λ h. refl) (slot_at slots s) (line address)

is_dirty-mapped : (address : ℕ) (width : Width) (value : ℕ) (slot : Option Held) (number : ℕ) → is_line slot number ≡ true → is_dirty (option_map (stored_in address width value) (seen slot number)) ≡ true
is_dirty-mapped address width value None number there = absurd (false≢true there)
is_dirty-mapped address width value (Some h) number there =
    ap (λ o. is_dirty (option_map (stored_in address width value) o)) (cond-true (eqb h.line number) (Some h) None there)

pub is_dirty-stored : (slots : List (Option Held)) (address : ℕ) (width : Width) (value : ℕ) → IsTrue (has_line slots (line address)) → is_dirty (held_line (stored slots address width value) (line address)) ≡ true
is_dirty-stored slots address width value there =
    ap is_dirty (held_line-stored slots address width value there)
    ∙ is_dirty-mapped address width value (slot_at slots (own_set slots (line address))) (line address) there

seen-other : (slot : Option Held) (number other : ℕ) → is_line slot number ≡ true → other ≢ number → seen slot other ≡ None
seen-other None number other there ne = refl
seen-other (Some h) number other there ne =
    let same : h.line ≡ number = eqb-true h.line number there in
    cond-false (eqb h.line other) (Some h) None (ne_eqb h.line other (λ e. ne (sym e ∙ same)))

pub held_line-stored_other : (slots : List (Option Held)) (address : ℕ) (width : Width) (value other : ℕ) → IsTrue (has_line slots (line address)) → other ≢ line address → held_line (stored slots address width value) other ≡ held_line slots other
held_line-stored_other slots address width value other there ne =
    let s : ℕ = own_set slots (line address) in
    let f : Held → Held = stored_in address width value in
    elim (cases_eq (own_set slots other) s) [
      | inl same ↦
          seen_there slots s (option_map f (slot_at slots s)) other (within slots (line address) there) same
          ∙ seen-stored f (λ h. refl) (slot_at slots s) other
          ∙ ap (option_map f) (seen-other (slot_at slots s) (line address) other there ne)
          ∙ sym (ap (λ t. seen (slot_at slots t) other) same ∙ seen-other (slot_at slots s) (line address) other there ne)
      | inr apart ↦ seen_elsewhere slots s (option_map f (slot_at slots s)) other apart
    ]

-- ---- a set emptied, a line dropped

pub held_line-set_dropped : (slots : List (Option Held)) (s other : ℕ) → s < length slots → held_line (set_dropped slots s) other ≡ cond (eqb (own_set slots other) s) None (held_line slots other)
held_line-set_dropped slots s other lt =
    elim (cases_eq (own_set slots other) s) [
      | inl same ↦ seen_there slots s None other lt same ∙ sym (cond-true (eqb (own_set slots other) s) None (held_line slots other) (eq-eqb (own_set slots other) s same))
      | inr apart ↦ seen_elsewhere slots s None other apart ∙ sym (cond-false (eqb (own_set slots other) s) None (held_line slots other) (ne_eqb (own_set slots other) s apart))
    ]

none_or_same : (slots : List (Option Held)) (number other : ℕ) (x : Option Held) → (other ≡ number → x ≡ None) → (other ≢ number → x ≡ held_line slots other) → x ≡ cond (eqb other number) None (held_line slots other)
none_or_same slots number other x here elsewhere =
    elim (cases_eq other number) [
      | inl same ↦ here same ∙ sym (cond-true (eqb other number) None (held_line slots other) (eq-eqb other number same))
      | inr ne ↦ elsewhere ne ∙ sym (cond-false (eqb other number) None (held_line slots other) (ne_eqb other number ne))
    ]

dropped_there : (slots : List (Option Held)) (number other : ℕ) → has_line slots number ≡ true → held_line (set_dropped slots (own_set slots number)) other ≡ cond (eqb other number) None (held_line slots other)
dropped_there slots number other there =
    let s : ℕ = own_set slots number in
    none_or_same slots number other (held_line (set_dropped slots s) other)
    (λ same. seen_there slots s None other (within slots number there) (ap (own_set slots) same))
    (λ ne. elim (cases_eq (own_set slots other) s) [
      | inl same ↦
          seen_there slots s None other (within slots number there) same
          ∙ sym (ap (λ t. seen (slot_at slots t) other) same ∙ seen-other (slot_at slots s) number other there ne)
      | inr apart ↦ seen_elsewhere slots s None other apart
    ])

pub held_line-line_dropped : (slots : List (Option Held)) (number other : ℕ) → held_line (line_dropped slots number) other ≡ cond (eqb other number) None (held_line slots other)
held_line-line_dropped slots number other =
    elim (cases_Bool (has_line slots number)) [
      | inl there ↦
          ap (λ x. held_line x other) (cond-true (has_line slots number) (set_dropped slots (own_set slots number)) slots there)
          ∙ dropped_there slots number other there
      | inr absent ↦
          ap (λ x. held_line x other) (cond-false (has_line slots number) (set_dropped slots (own_set slots number)) slots absent)
          ∙ none_or_same slots number other (held_line slots other)
          (λ same. ap (held_line slots) same ∙ cond-false (has_line slots number) (slot_at slots (own_set slots number)) None absent)
          (λ ne. refl)
    ]

-- ---- an empty cache

pub slot_at-opened : (bytes s : ℕ) → slot_at (opened bytes) s ≡ None
slot_at-opened bytes s =
    elim (cases_lt s (bytes / 32)) [
      | inl lt ↦ get_or-replicate (bytes / 32) s None None lt
      | inr past ↦ get_or_past (opened bytes) s None (subst (λ n. n ≤ s) (sym (length-replicate (bytes / 32) None)) past)
    ]

pub held_line-opened : (bytes number : ℕ) → held_line (opened bytes) number ≡ None
held_line-opened bytes number = ap (λ o. seen o number) (slot_at-opened bytes (own_set (opened bytes) number))

pub length-opened : (bytes : ℕ) → length (opened bytes) ≡ bytes / 32
length-opened bytes = length-replicate (bytes / 32) None

-- ---- every line in its own set

-- what may stand in a set
abbrev pub Fits : List (Option Held) → ℕ → Held → Type 0
Fits slots s held = (own_set slots held.line ≡ s) × (length held.words ≡ 8)

placed_at : (slots : List (Option Held)) (s : ℕ) (v : Option Held) → IsPlaced slots → ((held : Held) → v ≡ Some held → Fits slots s held) → (t : ℕ) (held : Held) → slot_at (set slots s v) t ≡ Some held → Fits slots t held
placed_at slots s v placed fits t held e =
    elim (cases_eq t s) [
      | inl same ↦
          elim (cases_lt s (length slots)) [
            | inl lt ↦
                let new : v ≡ Some held = sym (get_or-set_same slots s v None lt) ∙ ap (slot_at (set slots s v)) (sym same) ∙ e in
                let f = fits held new in
                (f.0 ∙ sym same, f.1)
            | inr past ↦
                let old : slot_at slots t ≡ Some held = ap (λ x. slot_at x t) (sym (set_past slots s v past)) ∙ e in
                (placed.own t held old, placed.eight t held old)
          ]
      | inr apart ↦
          let old : slot_at slots t ≡ Some held = sym (get_or-set_other slots s t v None apart) ∙ e in
          (placed.own t held old, placed.eight t held old)
    ]

pub placed-set : (slots : List (Option Held)) (s : ℕ) (v : Option Held) → IsPlaced slots → ((held : Held) → v ≡ Some held → (own_set slots held.line ≡ s) × (length held.words ≡ 8)) → IsPlaced (set slots s v)
placed-set slots s v placed fits =
    record {
      own = λ t held e. own_set-set slots s v held.line ∙ (placed_at slots s v placed fits t held e).0;
      eight = λ t held e. (placed_at slots s v placed fits t held e).1;
    }

pub placed-filled : (slots : List (Option Held)) (number : ℕ) (words : List ℕ) → IsPlaced slots → length words ≡ 8 → IsPlaced (filled slots number words)
placed-filled slots number words placed long =
    placed-set slots (own_set slots number) (Some (clean_line number words)) placed
    (λ held e.
    let same : clean_line number words ≡ held = same_Some (clean_line number words) held e in
    (ap (λ (x : Held). own_set slots x.line) (sym same), ap (λ (x : Held). length x.words) (sym same) ∙ long))

pub fits-stored : (slots : List (Option Held)) (address : ℕ) (width : Width) (value s : ℕ) (slot : Option Held) → ((held : Held) → slot ≡ Some held → Fits slots s held) → (held : Held) → option_map (stored_in address width value) slot ≡ Some held → Fits slots s held
fits-stored slots address width value s None fits held e = absurd (none-some held e)
fits-stored slots address width value s (Some h) fits held e =
    let same : stored_in address width value h ≡ held = same_Some (stored_in address width value h) held e in
    let f = fits h refl in
    (ap (λ (x : Held). own_set slots x.line) (sym same) ∙ f.0, ap (λ (x : Held). length x.words) (sym same) ∙ length-set h.words _ _ ∙ f.1)

pub placed-stored : (slots : List (Option Held)) (address : ℕ) (width : Width) (value : ℕ) → IsPlaced slots → IsPlaced (stored slots address width value)
placed-stored slots address width value placed =
    let s : ℕ = own_set slots (line address) in
    placed-set slots s (option_map (stored_in address width value) (slot_at slots s)) placed
    (fits-stored slots address width value s (slot_at slots s) (λ held e. (placed.own s held e, placed.eight s held e)))

pub placed-set_dropped : (slots : List (Option Held)) (s : ℕ) → IsPlaced slots → IsPlaced (set_dropped slots s)
placed-set_dropped slots s placed = placed-set slots s None placed (λ held e. absurd (none-some held e))

pub placed-line_dropped : (slots : List (Option Held)) (number : ℕ) → IsPlaced slots → IsPlaced (line_dropped slots number)
placed-line_dropped slots number placed =
    elim (has_line slots number) as (λ b. IsPlaced (cond b (set_dropped slots (own_set slots number)) slots)) [
      | true ↦ placed-set_dropped slots (own_set slots number) placed
      | false ↦ placed
    ]

pub placed-opened : (bytes : ℕ) → IsPlaced (opened bytes)
placed-opened bytes =
    record {
      own = λ s held e. absurd (none-some held (sym (slot_at-opened bytes s) ∙ e));
      eight = λ s held e. absurd (none-some held (sym (slot_at-opened bytes s) ∙ e));
    }

-- ---- how many sets there are

pub length-line_dropped : (slots : List (Option Held)) (number : ℕ) → length (line_dropped slots number) ≡ length slots
length-line_dropped slots number =
    elim (has_line slots number) as (λ b. length (cond b (set_dropped slots (own_set slots number)) slots) ≡ length slots) [
      | true ↦ length-set slots (own_set slots number) None
      | false ↦ refl
    ]
