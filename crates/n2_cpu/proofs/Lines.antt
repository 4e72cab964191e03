-- What each line that a cache holds keeps, as the cache changes.
use Rattle.std.proofs.Common.{◌≡◌, ℕ, inl, inr, Bool, true, false, not, if◌then◌else◌, List, length, Option, Some, None, option_map, refl, sym, ap, subst, ◌∙◌}
use Rattle.std.proofs.Math.ListN.{set}
use Rattle.std.proofs.lemmas.List.{get_or-set_same, get_or-set_other, set_past}
use Rattle.std.proofs.lemmas.Bool.{cases_eq, cases_lt}
use Rattle.std.proofs.lemmas.Option.{none-some, same_Some}
use Rattle.n2_word.specs.declared.Width.{Width}
use Rattle.n2_word.specs.Lines.{line}
use Rattle.n2_insn.specs.declared.DataOp.{DataOp}
use Rattle.n2_insn.specs.declared.DataOp.TheVariants.{Initd, Initda, Flushd, Flushda}
use Rattle.n2_parts.specs.declared.board.Board.{Board}
use Rattle.n2_parts.specs.MemoryLines.{HasLine}
use Rattle.n2_board.specs.declared.classes.Class.TheVariants.{Code}
use Rattle.n2_board.specs.AddressMap.{AddressMap, class_of}
use Rattle.n2_bus.specs.declared.request.Reply.{Reply}
use Rattle.n2_dcache.specs.declared.Held.{Held}
use Rattle.n2_dcache.specs.Cache.{slot_at, own_set, has_line, stored_in, stored, clean_line, filled, set_dropped}
use Rattle.n2_watch.specs.declared.access.Access.TheVariants.{Cached}
use Rattle.n2_watch.specs.declared.past.Past.{Past}
use Rattle.n2_watch.specs.Book.{Book, knowledge}
use Rattle.n2_watch.specs.Discipline.{breach}
use Rattle.n2_watch.specs.Watched.{IsMapOf}
use Rattle.n2_watch.proofs.KeptSteps.{touch_memory}
use Rattle.n2_front.specs.Turn.{op_dropped, with_line}
use Rattle.n2_cpu.specs.Aims.{AreThere, AreCode}

abbrev Each : (ℕ → Type 0) → List (Option Held) → Type 0
Each P slots = (s : ℕ) (held : Held) → slot_at slots s ≡ Some held → P held.line

module _ (P : ℕ → Type 0) (slots : List (Option Held)) (h : Each P slots) where
  each_set : (s : ℕ) (v : Option Held) → ((held : Held) → v ≡ Some held → P held.line) → Each P (set slots s v)
  each_set s v new t held e =
      elim (cases_eq t s) [
        | inl same ↦
            elim (cases_lt s (length slots)) [
              | inl lt ↦ new held (sym (get_or-set_same slots s v None lt) ∙ ap (λ (x : ℕ). slot_at (set slots s v) x) (sym same) ∙ e)
              | inr past ↦ h t held (ap (λ (x : List (Option Held)). slot_at x t) (sym (set_past slots s v past)) ∙ e)
            ]
        | inr apart ↦ h t held (sym (get_or-set_other slots s t v None apart) ∙ e)
      ]

  each_filled : (number : ℕ) (words : List ℕ) → P number → Each P (filled slots number words)
  each_filled number words p =
      each_set (own_set slots number) (Some (clean_line number words))
      (λ held e. subst P (ap (λ (x : Held). x.line) (same_Some (clean_line number words) held e)) p)

  stored_line : (address : ℕ) (width : Width) (value : ℕ) (slot : Option Held) → ((held : Held) → slot ≡ Some held → P held.line) → (held : Held) → option_map (stored_in address width value) slot ≡ Some held → P held.line
  stored_line address width value None old held e = absurd (none-some held e)
  stored_line address width value (Some x) old held e = subst P (ap (λ (y : Held). y.line) (same_Some (stored_in address width value x) held e)) (old x refl)

  each_stored : (address : ℕ) (width : Width) (value : ℕ) → Each P (stored slots address width value)
  each_stored address width value =
      let s : ℕ = own_set slots (line address) in
      each_set s (option_map (stored_in address width value) (slot_at slots s)) (stored_line address width value (slot_at slots s) (λ held e. h s held e))

  each_dropped : (s : ℕ) → Each P (set_dropped slots s)
  each_dropped s = each_set s None (λ held e. absurd (none-some held e))

  each_if : (t : Bool) (s : ℕ) → Each P (if t then set_dropped slots s else slots)
  each_if true s = each_dropped s
  each_if false s = h

  each_op : (op : DataOp) (address : ℕ) → Each P (op_dropped slots op address)
  each_op Initd address = each_dropped (own_set slots (line address))
  each_op Flushd address = each_dropped (own_set slots (line address))
  each_op Initda address = each_if (has_line slots (line address)) (own_set slots (line address))
  each_op Flushda address = each_if (has_line slots (line address)) (own_set slots (line address))

  each_brought : (t : Bool) (number : ℕ) (words : List ℕ) → P number → Each P (if t then slots else filled slots number words)
  each_brought true number words p = h
  each_brought false number words p = each_filled number words p

pub code_filled : (b : Board) (map : AddressMap) (slots : List (Option Held)) (number : ℕ) (words : List ℕ) → AreCode b map slots → HasLine b.memory number → class_of map number ≡ Code → AreCode b map (filled slots number words)
code_filled b map slots number words h there code = record {
  there = each_filled (λ n. HasLine b.memory n) slots h.there number words there;
  code = each_filled (λ n. class_of map n ≡ Code) slots h.code number words code;
}

module _ (b : Board) (slots : List (Option Held)) (h : AreThere b slots) where
  pub there_stored : (address : ℕ) (width : Width) (value : ℕ) → AreThere b (stored slots address width value)
  there_stored address width value = each_stored (λ n. HasLine b.memory n) slots h address width value

  pub there_dropped : (s : ℕ) → AreThere b (set_dropped slots s)
  there_dropped s = each_dropped (λ n. HasLine b.memory n) slots h s

  pub there_op : (op : DataOp) (address : ℕ) → AreThere b (op_dropped slots op address)
  there_op op address = each_op (λ n. HasLine b.memory n) slots h op address

  pub there_brought : (number : ℕ) (reply : Reply) → HasLine b.memory number → AreThere b (with_line slots number reply)
  there_brought number reply there = each_brought (λ n. HasLine b.memory n) slots h (has_line slots number) number reply.words there

-- a load or store that breaks nothing is of a line in a memory
pub touched_there : (b : Board) (map : AddressMap) (book : Book) (k : ℕ) (past : List Past) (address : ℕ) (store : Bool) (width : Width) → IsMapOf b map → breach b map (knowledge b book k past) (Cached address store) width ≡ None → HasLine b.memory (line address)
touched_there b map book k past address store width m br = touch_memory b m.images map book k past address store width m.valid m.maps br

-- ---- a choice that was made
pub taken : (x : Bool) (r : Bool) → r ≡ not x → r ≡ true → x ≡ false
taken true r e h = absurd (cc)
taken false r e h = refl

pub left : (x : Bool) (r : Bool) → r ≡ not x → r ≡ false → x ≡ true
left true r e h = refl
left false r e h = absurd (cc)

pub chosen : {A : Type 0} (t : Bool) (x y : A) → t ≡ true → (if t then x else y) ≡ x
chosen t x y e = rw e refl

pub other : {A : Type 0} (t : Bool) (x y : A) → t ≡ false → (if t then x else y) ≡ y
other t x y e = rw e refl
