-- What one core keeps of the agreement in each small step of its own, whatever the others hold.
use Rattle.std.proofs.Common.{◌≡◌, ◌≢◌, ℕ, ◌<◌, ◌%◌, Bool, true, false, ◌&&◌, cond, eqb, List, ◌∷◌, length, slice_set, Option, Some, None, refl, ap, sym, ◌∙◌, arith, subst, length-set}
use Rattle.std.proofs.lemmas.Grind.{common_steps}
use Rattle.std.proofs.lemmas.Bool.Decides.{nat_tests}
use Rattle.std.proofs.lemmas.List.{get_or-set_same}
use Rattle.n2_word.specs.declared.Width.{Width}
use Rattle.n2_word.specs.Lines.{line, written_in_line}
use Rattle.n2_insn.specs.declared.DataOp.{DataOp}
use Rattle.n2_parts.specs.declared.board.Board.{Board}
use Rattle.n2_parts.specs.MemoryLines.{HasLine}
use Rattle.n2_board.specs.declared.guards.Guard.{Guard}
use Rattle.n2_board.specs.AddressMap.{AddressMap, class_of}
use Rattle.n2_dcache.specs.declared.Held.{Held}
use Rattle.n2_dcache.specs.Cache.{slot_at, is_line, is_dirty, clean_line}
use Rattle.n2_memory.specs.Memories.{Contents, line_at, with_line, written_at}
use Rattle.n2_watch.specs.declared.past.Past.{Past}
use Rattle.n2_watch.specs.declared.past.Past.TheVariants.{Touch, Clean}
use Rattle.n2_watch.specs.Past.{may, dirty, stale, covers}
use Rattle.n2_watch.specs.Kept.{may_write}
use Rattle.n2_runs.specs.Agree.{may_read}
use Rattle.n2_runs.proofs.Lists.{set_all}
use Rattle.n2_runs.specs.Along.{IsOf, dirty_in, dirty_at, IsSlotWell, IsOwnWell}
use Rattle.n2_runs.proofs.Lines.{eight, put_same, put_other, put_of, written_same, written_other, written_of}
use Rattle.n2_runs.proofs.Rights.{write-read, is_uncached, uncached-read}

-- what is dirty may be written and is not stale
abbrev pub AreFresh : AddressMap → (Guard → Bool) → ℕ → ℕ → List Past → Type 0
AreFresh map own k sets past = (l : ℕ) → dirty sets past l ≡ true → (may_write (class_of map l) k own ≡ true) × (stale map sets past l ≡ false)

-- core k agrees: others says of a line that no other core holds it dirty
pub record IsSolo (b : Board) (map : AddressMap) (k sets : ℕ) (others : ℕ → Type 0) (own : Guard → Bool) (mem flat : Contents) (slots : List (Option Held)) (past : List Past) : Type 0 where
  pub core : IsOwnWell b map own flat k sets slots past
  pub mem_of : IsOf b.memory mem
  pub flat_of : IsOf b.memory flat
  pub memory : (l : ℕ) → HasLine b.memory l → others l → dirty_at sets slots l ≡ false → line_at mem l ≡ line_at flat l

-- what a set holds after a write to it
pub dirty_at-set : (sets : ℕ) (slots : List (Option Held)) (s : ℕ) (o : Option Held) (l : ℕ) → s < length slots → dirty_at sets (slice_set slots s o) l ≡ cond (eqb (l % sets) s) (dirty_in o l) (dirty_at sets slots l)
unfolding dirty_at
dirty_at-set sets slots s o l i = grind (arith, nat_tests, common_steps)

pub dirty_at-is : (sets : ℕ) (slots : List (Option Held)) (s : ℕ) (o : Option Held) (l : ℕ) → slot_at slots s ≡ o → l % sets ≡ s → dirty_at sets slots l ≡ dirty_in o l
unfolding dirty_at
dirty_at-is sets slots s o l e p = cc

-- a line is clean where it is clean after another slot is written, and clean in the slot that was there
was_clean : (sets : ℕ) (slots : List (Option Held)) (s : ℕ) (new old : Option Held) (l : ℕ) → s < length slots → slot_at slots s ≡ old → dirty_in old l ≡ false → dirty_at sets (slice_set slots s new) l ≡ false → dirty_at sets slots l ≡ false
was_clean sets slots s new old l i e f d =
    let p = dirty_at-set sets slots s new l i in
    let q = dirty_at-is sets slots s old l e in
    grind (arith, nat_tests)

-- a clean slot holds no line dirty
clean_in : (o : Option Held) (l : ℕ) → is_dirty o ≡ false → dirty_in o l ≡ false
clean_in o l d = at (is_line o l) (is_dirty o) d
  where
    at : (x y : Bool) → y ≡ false → (x && y) ≡ false
    at true y e = e
    at false y e = refl

other_in : (e : Held) (l : ℕ) → e.line ≢ l → dirty_in (Some e) l ≡ false
other_in e l n = grind (arith, nat_tests)

-- a held line stays well where the flat memory and the right to it stay
pub slot_frame : (b : Board) (map : AddressMap) (own own' : Guard → Bool) (flat flat' : Contents) (j sets : ℕ) (past : List Past) (s : ℕ) (e : Held) → (HasLine b.memory e.line → may_read (class_of map e.line) j own' ≡ true → (may_read (class_of map e.line) j own ≡ true) × (line_at flat' e.line ≡ line_at flat e.line)) → IsSlotWell b map own flat j sets past s e → IsSlotWell b map own' flat' j sets past s e
slot_frame b map own own' flat flat' j sets past s e f h =
    record { place = h.place; inside = h.inside; words = λ r d. h.words (f h.inside r).0 d ∙ sym (f h.inside r).1; may_be = h.may_be; dirty_is = h.dirty_is }

pub own_frame : (b : Board) (map : AddressMap) (own own' : Guard → Bool) (flat flat' : Contents) (j sets : ℕ) (slots : List (Option Held)) (past : List Past) → ((l : ℕ) → HasLine b.memory l → may_read (class_of map l) j own' ≡ true → (may_read (class_of map l) j own ≡ true) × (line_at flat' l ≡ line_at flat l)) → IsOwnWell b map own flat j sets slots past → IsOwnWell b map own' flat' j sets slots past
own_frame b map own own' flat flat' j sets slots past f h =
    record { sets_are = h.sets_are; held = λ s e i. slot_frame b map own own' flat flat' j sets past s e (f e.line) (h.held s e i) }

-- memory after a set was emptied
abbrev pub mem_after : Contents → Option Held → Contents
mem_after mem None = mem
mem_after mem (Some e) = cond e.dirty (with_line mem e.line e.words) mem

module _ (b : Board) (map : AddressMap) (k sets : ℕ) (others : ℕ → Type 0) (own : Guard → Bool) where
  -- a line that may be used is touched
  touch_held : (flat : Contents) (past : List Past) (l : ℕ) (store : Bool) (s : ℕ) (e : Held) → IsSlotWell b map own flat k sets past s e → IsSlotWell b map own flat k sets (Touch l store ∷ past) s e
  touch_held flat past l store s e h = record {
    place = h.place;
    inside = h.inside;
    words = h.words;
    may_be = touched (eqb l e.line) (may sets past e.line) h.may_be;
    dirty_is = λ d. touched (eqb l e.line && store) (dirty sets past e.line) (h.dirty_is d);
  }
    where
      touched : (x y : Bool) → y ≡ true → cond x true y ≡ true
      touched true y p = refl
      touched false y p = p

  pub touch_keeps : (mem flat : Contents) (slots : List (Option Held)) (past : List Past) (l : ℕ) (store : Bool) → IsSolo b map k sets others own mem flat slots past → IsSolo b map k sets others own mem flat slots (Touch l store ∷ past)
  touch_keeps mem flat slots past l store h = record {
    core = record { sets_are = h.core.sets_are; held = λ s e i. touch_held flat past l store s e (h.core.held s e i) };
    mem_of = h.mem_of;
    flat_of = h.flat_of;
    memory = h.memory;
  }

  -- what a set holds dirty is the flat memory's
  pub dirty_words : (flat : Contents) (slots : List (Option Held)) (past : List Past) (s : ℕ) (e : Held) → slot_at slots s ≡ Some e → e.dirty ≡ true → AreFresh map own k sets past → IsOwnWell b map own flat k sets slots past → e.words ≡ line_at flat e.line
  dirty_words flat slots past s e i d fresh h =
      let w = h.held s e i in
      let z = fresh e.line (w.dirty_is d) in
      w.words (write-read (class_of map e.line) k own z.0) z.1

  -- a set is emptied, with a write-back where it is dirty
  evict_other : (mem flat : Contents) (e : Held) (l : ℕ) (d : Bool) → eqb e.line l ≡ d → IsOf b.memory mem → IsOf b.memory flat → HasLine b.memory e.line → HasLine b.memory l → e.words ≡ line_at flat e.line → (d ≡ false → line_at mem l ≡ line_at flat l) → line_at (with_line mem e.line e.words) l ≡ line_at flat l
  evict_other mem flat e l true q o g i j w h =
      let z : e.line ≡ l = grind (arith, nat_tests) in
      ap (λ y. line_at (with_line mem e.line e.words) y) (sym z) ∙ put_same b.memory mem o e.line e.words i (ap length w ∙ eight b.memory flat g e.line i) ∙ w ∙ ap (λ y. line_at flat y) z
  evict_other mem flat e l false q o g i j w h =
      put_other b.memory mem o e.line l e.words i j (λ (z : l ≡ e.line). absurd (grind (arith, nat_tests))) (ap length w ∙ eight b.memory flat g e.line i) ∙ h refl

  evict_dirty : (mem flat : Contents) (slots : List (Option Held)) (past : List Past) (s : ℕ) (e : Held) (c : Bool) → e.dirty ≡ c → slot_at slots s ≡ Some e → s < length slots → AreFresh map own k sets past → IsSolo b map k sets others own mem flat slots past → (l : ℕ) → HasLine b.memory l → others l → dirty_at sets (slice_set slots s None) l ≡ false → line_at (cond c (with_line mem e.line e.words) mem) l ≡ line_at flat l
  evict_dirty mem flat slots past s e true q i lt fresh h l here free d =
      evict_other mem flat e l (eqb e.line l) refl h.mem_of h.flat_of (h.core.held s e i).inside here (dirty_words flat slots past s e i q fresh h.core)
      (λ n. h.memory l here free (was_clean sets slots s None (Some e) l lt i (other_in e l (grind (arith, nat_tests))) d))
  evict_dirty mem flat slots past s e false q i lt fresh h l here free d =
      h.memory l here free (was_clean sets slots s None (Some e) l lt i (clean_in (Some e) l q) d)

  evict_memory : (mem flat : Contents) (slots : List (Option Held)) (past : List Past) (s : ℕ) (o : Option Held) → slot_at slots s ≡ o → s < length slots → AreFresh map own k sets past → IsSolo b map k sets others own mem flat slots past → (l : ℕ) → HasLine b.memory l → others l → dirty_at sets (slice_set slots s None) l ≡ false → line_at (mem_after mem o) l ≡ line_at flat l
  evict_memory mem flat slots past s None i lt fresh h l here free d = h.memory l here free (was_clean sets slots s None None l lt i refl d)
  evict_memory mem flat slots past s (Some e) i lt fresh h l here free d = evict_dirty mem flat slots past s e e.dirty refl i lt fresh h l here free d

  evict_of : (mem flat : Contents) (slots : List (Option Held)) (past : List Past) (s : ℕ) (o : Option Held) → slot_at slots s ≡ o → AreFresh map own k sets past → IsSolo b map k sets others own mem flat slots past → IsOf b.memory (mem_after mem o)
  evict_of mem flat slots past s None i fresh h = h.mem_of
  evict_of mem flat slots past s (Some e) i fresh h = at e.dirty refl
    where
      at : (c : Bool) → e.dirty ≡ c → IsOf b.memory (cond c (with_line mem e.line e.words) mem)
      at true q =
          let here = (h.core.held s e i).inside in
          put_of b.memory mem h.mem_of e.line e.words here (ap length (dirty_words flat slots past s e i q fresh h.core) ∙ eight b.memory flat h.flat_of e.line here)
      at false q = h.mem_of

  none_some : (t : ℕ) (e : Held) → None ≡ Some e → (P : Type 0) → P
  none_some t e n P = absurd (cc)

  pub evict_keeps : (mem flat : Contents) (slots : List (Option Held)) (past : List Past) (s : ℕ) → s < sets → AreFresh map own k sets past → IsSolo b map k sets others own mem flat slots past → IsSolo b map k sets others own (mem_after mem (slot_at slots s)) flat (slice_set slots s None) past
  evict_keeps mem flat slots past s i fresh h =
      let lt : s < length slots = omega (arith, h.core.sets_are) in
      record {
        core = record {
          sets_are = length-set slots s None ∙ h.core.sets_are;
          held = set_all (λ (t : ℕ) (o : Option Held). (e : Held) → o ≡ Some e → IsSlotWell b map own flat k sets past t e) slots s None None lt (λ e n. none_some s e n _) (λ t n. h.core.held t);
        };
        mem_of = evict_of mem flat slots past s (slot_at slots s) refl fresh h;
        flat_of = h.flat_of;
        memory = evict_memory mem flat slots past s (slot_at slots s) refl lt fresh h;
      }

  -- the same where what the set holds is clean: it is dropped, and memory stays
  clean_after : (mem : Contents) (o : Option Held) → is_dirty o ≡ false → mem_after mem o ≡ mem
  clean_after mem None d = refl
  clean_after mem (Some e) d = rw d refl

  pub drop_keeps : (mem flat : Contents) (slots : List (Option Held)) (past : List Past) (s : ℕ) → s < sets → is_dirty (slot_at slots s) ≡ false → AreFresh map own k sets past → IsSolo b map k sets others own mem flat slots past → IsSolo b map k sets others own mem flat (slice_set slots s None) past
  drop_keeps mem flat slots past s i d fresh h =
      subst (λ (m : Contents). IsSolo b map k sets others own m flat (slice_set slots s None) past) (clean_after mem (slot_at slots s) d) (evict_keeps mem flat slots past s i fresh h)

  -- a line that is there, with the flat memory's words
  pub record IsThere (mem flat : Contents) (slots : List (Option Held)) (past : List Past) (l : ℕ) : Type 0 where
    pub at : Held
    pub slot : slot_at slots (l % sets) ≡ Some at
    pub its : at.line ≡ l
    pub words : at.words ≡ line_at flat l
    pub solo : IsSolo b map k sets others own mem flat slots past

  -- a line that may be used is filled where its set holds nothing dirty
  pub fill_keeps : (mem flat : Contents) (slots : List (Option Held)) (past : List Past) (l : ℕ) → 0 < sets → HasLine b.memory l → is_dirty (slot_at slots (l % sets)) ≡ false → may sets past l ≡ true → others l → IsSolo b map k sets others own mem flat slots past → IsThere mem flat (slice_set slots (l % sets) (Some (clean_line l (line_at mem l)))) past l
  fill_keeps mem flat slots past l pos here d m free h =
      let lt : l % sets < length slots = omega (arith, h.core.sets_are) in
      let same : line_at mem l ≡ line_at flat l = h.memory l here free (dirty_at-is sets slots (l % sets) (slot_at slots (l % sets)) l refl refl ∙ clean_in (slot_at slots (l % sets)) l d) in
      let well : IsSlotWell b map own flat k sets past (l % sets) (clean_line l (line_at mem l)) = record { place = refl; inside = here; words = λ _ _. same; may_be = m; dirty_is = λ y. absurd (cc) } in
      record {
        at = clean_line l (line_at mem l);
        slot = get_or-set_same slots (l % sets) (Some (clean_line l (line_at mem l))) None lt;
        its = refl;
        words = same;
        solo = record {
          core = record {
            sets_are = length-set slots (l % sets) (Some (clean_line l (line_at mem l))) ∙ h.core.sets_are;
            held = set_all (λ (t : ℕ) (o : Option Held). (e : Held) → o ≡ Some e → IsSlotWell b map own flat k sets past t e) slots (l % sets) (Some (clean_line l (line_at mem l))) None lt
                (λ x f. let g : ◌≡◌ {A = Held} (clean_line l (line_at mem l)) x = grind arith in subst (λ (y : Held). IsSlotWell b map own flat k sets past (l % sets) y) g well) (λ t n. h.core.held t);
          };
          mem_of = h.mem_of;
          flat_of = h.flat_of;
          memory = λ t there o c. h.memory t there o (was_clean sets slots (l % sets) (Some (clean_line l (line_at mem l))) (slot_at slots (l % sets)) t lt refl (clean_in (slot_at slots (l % sets)) t d) c);
        };
      }

  -- a line that is there already
  pub hit_keeps : (mem flat : Contents) (slots : List (Option Held)) (past : List Past) (l : ℕ) (o : Option Held) → slot_at slots (l % sets) ≡ o → is_line o l ≡ true → may_read (class_of map l) k own ≡ true → stale map sets past l ≡ false → IsSolo b map k sets others own mem flat slots past → IsThere mem flat slots past l
  hit_keeps mem flat slots past l None i t r f h = absurd (cc)
  hit_keeps mem flat slots past l (Some e) i t r f h =
      let z : e.line ≡ l = grind (arith, nat_tests) in
      let w = h.core.held (l % sets) e i in
      record { at = e; slot = i; its = z; words = w.words (rw z r) (rw z f) ∙ ap (line_at flat) z; solo = h }

  -- a store into a line that is there
  store_clean : (slots : List (Option Held)) (l t : ℕ) (e : Held) → l % sets < length slots → e.line ≡ l → e.dirty ≡ true → dirty_at sets (slice_set slots (l % sets) (Some e)) t ≡ false → t ≢ l
  store_clean slots l t e i p q d =
      let new = dirty_at-set sets slots (l % sets) (Some e) t i in
      grind (arith, nat_tests)

  other_place : (l t x : ℕ) → x % sets ≡ t → t ≢ l % sets → x ≢ l
  other_place l t x p n = λ e. n (sym p ∙ ap (λ y. y % sets) e)

  pub store_keeps : (mem flat flat' : Contents) (slots : List (Option Held)) (past : List Past) (l : ℕ) (new : Held) → 0 < sets → HasLine b.memory l → new.line ≡ l → new.dirty ≡ true → new.words ≡ line_at flat' l → may sets past l ≡ true → dirty sets past l ≡ true → IsOf b.memory flat' → ((t : ℕ) → HasLine b.memory t → t ≢ l → line_at flat' t ≡ line_at flat t) → IsThere mem flat slots past l → IsSolo b map k sets others own mem flat' (slice_set slots (l % sets) (Some new)) past
  store_keeps mem flat flat' slots past l new pos here its dirties words m y of rest there =
      let h = there.solo in
      let lt : l % sets < length slots = omega (arith, h.core.sets_are) in
      let well : IsSlotWell b map own flat' k sets past (l % sets) new = record {
        place = ap (λ x. x % sets) its;
        inside = subst (λ x. HasLine b.memory x) (sym its) here;
        words = λ _ _. words ∙ ap (line_at flat') (sym its);
        may_be = ap (may sets past) its ∙ m;
        dirty_is = λ _. ap (dirty sets past) its ∙ y;
      } in
      record {
        core = record {
          sets_are = length-set slots (l % sets) (Some new) ∙ h.core.sets_are;
          held = set_all (λ (t : ℕ) (o : Option Held). (e : Held) → o ≡ Some e → IsSlotWell b map own flat' k sets past t e) slots (l % sets) (Some new) None lt
              (λ x f. let g : new ≡ x = grind arith in subst (λ (y : Held). IsSlotWell b map own flat' k sets past (l % sets) y) g well)
              (λ t n x f. let w = h.core.held t x f in slot_frame b map own own flat flat' k sets past t x (λ i r. (r, rest x.line i (other_place l t x.line w.place n))) w);
        };
        mem_of = h.mem_of;
        flat_of = of;
        memory = λ t i o d.
            let n : t ≢ l = store_clean slots l t new lt its dirties d in
            h.memory t i o (was_clean sets slots (l % sets) (Some new) (Some there.at) t lt there.slot (other_in there.at t (λ e. n (sym e ∙ there.its))) d)
            ∙ sym (rest t i n);
      }

  -- a store past the caches to a line that none of them may hold
  pub poke_keeps : (mem flat : Contents) (slots : List (Option Held)) (past : List Past) (a : ℕ) (width : Width) (value : ℕ) → HasLine b.memory (line a) → is_uncached (class_of map (line a)) ≡ true → IsSolo b map k sets others own mem flat slots past → IsSolo b map k sets others own (written_at mem a width value) (written_at flat a width value) slots past
  poke_keeps mem flat slots past a width value here u h = record {
    core = own_frame b map own own flat (written_at flat a width value) k sets slots past (λ t i r. (r, written_other b.memory flat h.flat_of a width value t here i (not_uncached t r))) h.core;
    mem_of = written_of b.memory mem h.mem_of a width value here;
    flat_of = written_of b.memory flat h.flat_of a width value here;
    memory = λ t i o d. poked t i (eqb t (line a)) refl (h.memory t i o d);
  }
    where
      not_uncached : (t : ℕ) → may_read (class_of map t) k own ≡ true → t ≢ line a
      not_uncached t r = λ (e : t ≡ line a). let w : may_read (class_of map (line a)) k own ≡ true = ap (λ x. may_read (class_of map x) k own) (sym e) ∙ r in let z = uncached-read (class_of map (line a)) k own u in absurd (cc)

      poked : (t : ℕ) → HasLine b.memory t → (d : Bool) → eqb t (line a) ≡ d → line_at mem t ≡ line_at flat t → line_at (written_at mem a width value) t ≡ line_at (written_at flat a width value) t
      poked t i true e w =
          let z : t ≡ line a = grind (arith, nat_tests) in
          let v : line_at mem (line a) ≡ line_at flat (line a) = ap (line_at mem) (sym z) ∙ w ∙ ap (line_at flat) z in
          ap (line_at (written_at mem a width value)) z ∙ written_same b.memory mem h.mem_of a width value here ∙ ap (λ (ws : List ℕ). written_in_line ws a width value) v
          ∙ sym (written_same b.memory flat h.flat_of a width value here) ∙ ap (line_at (written_at flat a width value)) (sym z)
      poked t i false e w =
          let n : t ≢ line a = grind (arith, nat_tests) in
          written_other b.memory mem h.mem_of a width value t here i n ∙ w ∙ sym (written_other b.memory flat h.flat_of a width value t here i n)

  -- lines are noted as clean, once none of them is held
  clean_held : (flat : Contents) (past : List Past) (op : DataOp) (address s : ℕ) (e : Held) → covers sets op address e.line ≡ false → IsSlotWell b map own flat k sets past s e → IsSlotWell b map own flat k sets (Clean op address ∷ past) s e
  clean_held flat past op address s e n h =
      record { place = h.place; inside = h.inside; words = λ r d. h.words r (kept_false (covers sets op address e.line) (stale map sets past e.line) n d); may_be = kept (covers sets op address e.line) (may sets past e.line) n h.may_be; dirty_is = λ d. kept (covers sets op address e.line) (dirty sets past e.line) n (h.dirty_is d) }
    where
      kept : (x y : Bool) → x ≡ false → y ≡ true → cond x false y ≡ true
      kept true y p q = absurd (cc)
      kept false y p q = q

      kept_false : (x y : Bool) → x ≡ false → cond x false y ≡ false → y ≡ false
      kept_false true y p q = absurd (cc)
      kept_false false y p q = q

  pub clean_keeps : (mem flat : Contents) (slots : List (Option Held)) (past : List Past) (op : DataOp) (address : ℕ) → ((s : ℕ) (e : Held) → slot_at slots s ≡ Some e → e.line % sets ≡ s → covers sets op address e.line ≡ false) → IsSolo b map k sets others own mem flat slots past → IsSolo b map k sets others own mem flat slots (Clean op address ∷ past)
  clean_keeps mem flat slots past op address none h = record {
    core = record { sets_are = h.core.sets_are; held = λ s e i. clean_held flat past op address s e (none s e i (h.core.held s e i).place) (h.core.held s e i) };
    mem_of = h.mem_of;
    flat_of = h.flat_of;
    memory = h.memory;
  }
