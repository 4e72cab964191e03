-- A load or store past the caches, as a watch notes it.
use Rattle.std.proofs.Common.{◌≡◌, ℕ, ◌<◌, Bool, true, false, List, length, Option, Some, None, slice_index, refl, sym, ap, subst, ◌∙◌}
use Rattle.n2_word.specs.declared.Width.{Width}
use Rattle.n2_word.specs.declared.Width.TheVariants.{Byte, Half, Word}
use Rattle.n2_word.specs.Lines.{line, without_bypass}
use Rattle.n2_exec.specs.declared.registers.Regs.{Regs}
use Rattle.n2_exec.specs.Registers.{loaded_regs, latched, passed_regs}
use Rattle.n2_exec.specs.Outcomes.{loaded_value}
use Rattle.n2_parts.specs.declared.board.Board.{Board}
use Rattle.n2_board.specs.declared.access.Direction.{Direction}
use Rattle.n2_board.specs.declared.access.Route.TheVariants.{Bypassing}
use Rattle.n2_board.specs.declared.classes.Class.{Class}
use Rattle.n2_board.specs.declared.places.Place.{Place}
use Rattle.n2_board.specs.declared.places.Place.TheVariants as places
use Rattle.n2_board.specs.AddressMap.{AddressMap, class_of, place}
use Rattle.n2_board.specs.Places.{places_of, place_in}
use Rattle.n2_board.specs.Access.{target_at, data_target}
use Rattle.n2_bus.specs.declared.request.Request.TheVariants.{Read, Write}
use Rattle.n2_bus.specs.declared.request.Reply.{Reply}
use Rattle.n2_bus.specs.Transfer.{served}
use Rattle.n2_watch.specs.declared.past.Past.{Past}
use Rattle.n2_watch.specs.declared.access.Access.TheVariants.{Bypass}
use Rattle.n2_watch.specs.Discipline.{Knowledge, direction, bypass_breach, breach}
use Rattle.n2_watch.specs.Book.{Book, knowledge, past_after}
use Rattle.n2_watch.specs.World.{World, transferred}
use Rattle.n2_watch.specs.Noted.{word_access}
use Rattle.n2_watch.specs.Shapes.{IsLetPast, access_of, accessed, past_accessed}
use Rattle.n2_watch.specs.Watched.{Watched, IsMapOf, StandsFor}
use Rattle.n2_watch.proofs.KeptTransfers.{place_same}
use Rattle.n2_cpu.specs.Stands.{IsShared}

-- less than a word
abbrev IsNarrow : Width → Type 0
IsNarrow Byte = Unit {0}
IsNarrow Half = Unit {0}
IsNarrow Word = ⊥

module _ (b : Board) (map : AddressMap) (who : Knowledge) where
  of_memory : (class : Class) (there : Place) (width : Width) (way : Direction) (store : Bool) (value number : ℕ) → IsNarrow width → bypass_breach b map who (target_at there class who.core width Bypassing way) store value number ≡ None → there ≡ places.Memory
  of_memory class places.Memory width way store value number n br = refl
  of_memory class (places.Device part offset) Byte way store value number n br = absurd (cc)
  of_memory class (places.Device part offset) Half way store value number n br = absurd (cc)
  of_memory class (places.Device part offset) Word way store value number n br = absurd n
  of_memory class places.Nothing width way store value number n br = absurd (cc)

  narrow_place : (address : ℕ) (store : Bool) (value : ℕ) (width : Width) → IsNarrow width → breach b map who (Bypass address store value) width ≡ None → place map (without_bypass address) ≡ places.Memory
  unfolding breach data_target
  narrow_place address store value width n br = of_memory (class_of map (line address)) (place map (without_bypass address)) width (direction store) store value (line address) n br

  by_word : (class : Class) (there : Place) (width : Width) (way : Direction) (store : Bool) (value number : ℕ) → there ≡ places.Memory → bypass_breach b map who (target_at there class who.core width Bypassing way) store value number ≡ None → bypass_breach b map who (target_at there class who.core Word Bypassing way) store value number ≡ None
  by_word class places.Memory width way store value number e br = br
  by_word class (places.Device part offset) width way store value number e br = absurd (cc)
  by_word class places.Nothing width way store value number e br = absurd (cc)

  word_unbroken : (address : ℕ) (store : Bool) (value : ℕ) (width : Width) → place map (without_bypass address) ≡ places.Memory → breach b map who (Bypass address store value) width ≡ None → breach b map who (Bypass address store value) Word ≡ None
  unfolding breach data_target
  word_unbroken address store value width e br = by_word (class_of map (line address)) (place map (without_bypass address)) width (direction store) store value (line address) e br

-- ---- of memory: the book and the past events stay, and so does what is noted of the reply
pub record IsQuietly (book after : Book) (past noted : List Past) : Type 0 where
  pub book_is : after ≡ book
  pub past_is : noted ≡ past

module _ (b : Board) (map : AddressMap) (k : ℕ) (w : World) (past : List Past) (address : ℕ) (here : place map address ≡ places.Memory) (there : place_in (places_of b) address ≡ places.Memory) where
  read_book : (width : Width) → (transferred b map k w (Read address width)).world.book ≡ w.book
  unfolding transferred served
  read_book width = rw (there, here) refl

  read_past : (width : Width) (after : Book) (reply : Reply) → past_after b map k w.book after (Read address width) reply past ≡ past
  read_past width after reply = rw here refl

  read_took : (width : Width) → (transferred b map k w (Read address width)).reply.took ≡ false
  unfolding transferred served
  read_took width = rw there refl

  read_pointer : (width : Width) → (transferred b map k w (Read address width)).reply.pointer ≡ 0
  unfolding transferred served
  read_pointer width = rw there refl

  write_book : (width : Width) (value : ℕ) → (transferred b map k w (Write address width value)).world.book ≡ w.book
  unfolding transferred served
  write_book width value = rw (there, here) refl

  write_past : (width : Width) (value : ℕ) (after : Book) (reply : Reply) → past_after b map k w.book after (Write address width value) reply past ≡ past
  write_past width value after reply = rw here refl

  write_took : (width : Width) (value : ℕ) → (transferred b map k w (Write address width value)).reply.took ≡ true
  unfolding transferred served
  write_took width value = rw there refl

-- ---- the watch after the note
module _ (b : Board) (map : AddressMap) (k : ℕ) (w : World) (past : List Past) (old new : Watched) where
  abbrev pub ReadNoted : ℕ → Reply → Type 0
  ReadNoted address reply = (m : IsMapOf b map) → IsLetPast b m.images map k w past (word_access address None) → reply.took ≡ (accessed b map k w (word_access address None)).reply.took → reply.pointer ≡ (accessed b map k w (word_access address None)).reply.pointer → StandsFor b map k old w.book past → StandsFor b map k new (accessed b map k w (word_access address None)).world.book (past_accessed b map k w past (word_access address None))

  abbrev pub LoadStands : ℕ → Reply → Width → Type 0
  LoadStands address reply width = StandsFor b map k old w.book past → IsShared b map w → k < length b.core → breach b map (knowledge b w.book k past) (Bypass address false 0) width ≡ None → reply ≡ (transferred b map k w (Read (without_bypass address) width)).reply → StandsFor b map k new (transferred b map k w (Read (without_bypass address) width)).world.book (past_after b map k w.book (transferred b map k w (Read (without_bypass address) width)).world.book (Read (without_bypass address) width) (transferred b map k w (Read (without_bypass address) width)).reply past)

  abbrev pub WriteNoted : ℕ → ℕ → Reply → Type 0
  WriteNoted address value reply = (m : IsMapOf b map) → IsLetPast b m.images map k w past (word_access address (Some value)) → reply.took ≡ (accessed b map k w (word_access address (Some value))).reply.took → StandsFor b map k old w.book past → StandsFor b map k new (accessed b map k w (word_access address (Some value))).world.book (past_accessed b map k w past (word_access address (Some value)))

  abbrev pub StoreStands : ℕ → ℕ → Reply → Width → Type 0
  StoreStands address value reply width = StandsFor b map k old w.book past → IsShared b map w → k < length b.core → breach b map (knowledge b w.book k past) (Bypass address true value) width ≡ None → reply ≡ (transferred b map k w (Write (without_bypass address) width value)).reply → StandsFor b map k new (transferred b map k w (Write (without_bypass address) width value)).world.book (past_after b map k w.book (transferred b map k w (Write (without_bypass address) width value)).world.book (Write (without_bypass address) width value) (transferred b map k w (Write (without_bypass address) width value)).reply past)

  let_past : (address : ℕ) (stored : Option ℕ) (m : IsMapOf b map) → IsShared b map w → k < length b.core → breach b map (knowledge b w.book k past) (access_of (word_access address stored)) Word ≡ None → IsLetPast b m.images map k w past (word_access address stored)
  let_past address stored m shared lt br = record { valid = m.valid; map_is = m.maps; core = lt; shape = shared.shape; posted = shared.posted; unbroken = br }

  stands_as : (book after : Book) (events noted : List Past) → after ≡ book → noted ≡ events → StandsFor b map k new book events → StandsFor b map k new after noted
  stands_as book after events noted e f h = subst (λ (x : Book). StandsFor b map k new x noted) (sym e) (subst (λ (x : List Past). StandsFor b map k new book x) (sym f) h)

  narrow_load : (address : ℕ) (reply : Reply) (width : Width) → IsNarrow width → ReadNoted address reply → LoadStands address reply width
  narrow_load address reply width n note h shared lt br e =
      let m = h.map_of in
      let here = narrow_place b map (knowledge b w.book k past) address false 0 width n br in
      let there = sym (place_same b m.images map m.maps (without_bypass address)) ∙ here in
      let a = without_bypass address in
      let took : reply.took ≡ (transferred b map k w (Read a Word)).reply.took = ap (λ (r : Reply). r.took) e ∙ read_took b map k w past a here there width ∙ sym (read_took b map k w past a here there Word) in
      let pointer : reply.pointer ≡ (transferred b map k w (Read a Word)).reply.pointer = ap (λ (r : Reply). r.pointer) e ∙ read_pointer b map k w past a here there width ∙ sym (read_pointer b map k w past a here there Word) in
      let noted = note m (let_past address None m shared lt (word_unbroken b map (knowledge b w.book k past) address false 0 width here br)) took pointer h in
      let after = transferred b map k w (Read a width) in
      let by_words = transferred b map k w (Read a Word) in
      stands_as by_words.world.book after.world.book (past_after b map k w.book by_words.world.book (Read a Word) by_words.reply past) (past_after b map k w.book after.world.book (Read a width) after.reply past)
      (read_book b map k w past a here there width ∙ sym (read_book b map k w past a here there Word))
      (read_past b map k w past a here there width after.world.book after.reply ∙ sym (read_past b map k w past a here there Word by_words.world.book by_words.reply)) noted

  pub load_stands : (address : ℕ) (reply : Reply) (width : Width) → ReadNoted address reply → LoadStands address reply width
  load_stands address reply Byte note = narrow_load address reply Byte tt note
  load_stands address reply Half note = narrow_load address reply Half tt note
  load_stands address reply Word note = λ h shared lt br e. note h.map_of (let_past address None h.map_of shared lt br) (ap (λ (r : Reply). r.took) e) (ap (λ (r : Reply). r.pointer) e) h

  narrow_store : (address value : ℕ) (reply : Reply) (width : Width) → IsNarrow width → WriteNoted address value reply → StoreStands address value reply width
  narrow_store address value reply width n note h shared lt br e =
      let m = h.map_of in
      let here = narrow_place b map (knowledge b w.book k past) address true value width n br in
      let there = sym (place_same b m.images map m.maps (without_bypass address)) ∙ here in
      let a = without_bypass address in
      let took : reply.took ≡ (transferred b map k w (Write a Word value)).reply.took = ap (λ (r : Reply). r.took) e ∙ write_took b map k w past a here there width value ∙ sym (write_took b map k w past a here there Word value) in
      let noted = note m (let_past address (Some value) m shared lt (word_unbroken b map (knowledge b w.book k past) address true value width here br)) took h in
      let after = transferred b map k w (Write a width value) in
      let by_words = transferred b map k w (Write a Word value) in
      stands_as by_words.world.book after.world.book (past_after b map k w.book by_words.world.book (Write a Word value) by_words.reply past) (past_after b map k w.book after.world.book (Write a width value) after.reply past)
      (write_book b map k w past a here there width value ∙ sym (write_book b map k w past a here there Word value))
      (write_past b map k w past a here there width value after.world.book after.reply ∙ sym (write_past b map k w past a here there Word value by_words.world.book by_words.reply)) noted

  pub store_stands : (address value : ℕ) (reply : Reply) (width : Width) → WriteNoted address value reply → StoreStands address value reply width
  store_stands address value reply Byte note = narrow_store address value reply Byte tt note
  store_stands address value reply Half note = narrow_store address value reply Half tt note
  store_stands address value reply Word note = λ h shared lt br e. note h.map_of (let_past address (Some value) h.map_of shared lt br) (ap (λ (r : Reply). r.took) e) h

-- ---- the registers after it
pub load_regs : (regs : Regs) (reply replied : Reply) (width : Width) (signed : Bool) (to value : ℕ) (loaded new : Regs) → reply ≡ replied → value ≡ loaded_value width signed (slice_index reply.words 0) → loaded ≡ loaded_regs regs to value → new ≡ latched loaded reply.lines → new ≡ latched (loaded_regs regs to (loaded_value width signed (slice_index replied.words 0))) replied.lines
load_regs regs reply replied width signed to value loaded new e v l n =
    n ∙ ap (λ (x : Regs). latched x reply.lines) (l ∙ ap (λ (x : ℕ). loaded_regs regs to x) v) ∙ ap (λ (r : Reply). latched (loaded_regs regs to (loaded_value width signed (slice_index r.words 0))) r.lines) e

pub store_regs : (regs passed new : Regs) (reply replied : Reply) → reply ≡ replied → passed ≡ passed_regs regs → new ≡ latched passed reply.lines → new ≡ latched (passed_regs regs) replied.lines
store_regs regs passed new reply replied e p n = n ∙ ap (λ (x : Regs). latched x reply.lines) p ∙ ap (λ (r : Reply). latched (passed_regs regs) r.lines) e
